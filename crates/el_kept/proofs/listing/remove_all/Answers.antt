use Rattle.std.proofs.Common.{◌∙◌, ◌&&◌, ap, cond, false}
use Rattle.el_chain.specs.Headers.{same_hash}
use Rattle.el_mempool.proofs.Confirmed.{hash_turned}
use Rattle.el_kept.specs.Listings.{is_in, txid_of}
use Rattle.el_kept.proofs.Listed.{tested_more}
use Rattle.el_kept.proofs.listing.remove_all.Goals as goal

pub loop-script-preserved : goal.loop-script-preserved
loop-script-preserved c = λ l.
    tested_more (same_hash l.script) (same_hash c.args.txid.now (txid_of l)) false c.args.scripts.now
    c.loop-script.script-index _ (is_in c.remove.new.listings l) (is_in c.loop-script.listings l)
    (is_in c.args.listings.now l) c.loop-script-test.true
    (c.remove.ensures l
    ∙ ap (λ b. cond (b && same_hash c.args.txid.now (txid_of l)) false (is_in c.loop-script.listings l)) (hash_turned _ l.script))
    (c.loop-script.invariant l)
