use Rattle.std.proofs.Common.{false}
use Rattle.el_chain.specs.Headers.{same_hash}
use Rattle.el_mempool.specs.Unconfirmed.{has_script}
use Rattle.el_kept.specs.Listings.{is_in, txid_of}
use Rattle.el_kept.proofs.Listed.{tested_more}
use Rattle.el_kept.proofs.listing.remove_outputs.Goals as goal

pub loop-held-preserved : goal.loop-held-preserved
loop-held-preserved c = λ l.
    tested_more (has_script l.script.0) (same_hash c.args.txid.now (txid_of l)) false c.args.outputs.now
    c.loop-held.held-index _ (is_in c.remove.new.listings l) (is_in c.loop-held.listings l)
    (is_in c.args.listings.now l) c.loop-held-test.true (c.remove.ensures l) (c.loop-held.invariant l)
