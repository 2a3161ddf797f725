use Rattle.std.proofs.Common.{false}
use Rattle.el_chain.specs.Headers.{same_hash}
use Rattle.el_mempool.specs.Standing.{is_coin_at}
use Rattle.el_kept.specs.Listings.{is_in, txid_of}
use Rattle.el_kept.proofs.Listed.{tested_more}
use Rattle.el_kept.proofs.listing.remove_inputs.Goals as goal

pub loop-source-preserved : goal.loop-source-preserved
loop-source-preserved c = λ l.
    tested_more (is_coin_at l.script.0) (same_hash c.args.txid.now (txid_of l)) false c.args.inputs.now
    c.loop-source.source-index _ (is_in c.remove.new.listings l) (is_in c.loop-source.listings l)
    (is_in c.args.listings.now l) c.loop-source-test.true (c.remove.ensures l) (c.loop-source.invariant l)
