use Rattle.std.proofs.Common.{◌∙◌, ◌&&◌, ap, cond, true}
use Rattle.el_chain.specs.Headers.{same_hash}
use Rattle.el_mempool.proofs.Confirmed.{hash_turned}
use Rattle.el_kept.specs.Listings.{is_in, txid_of}
use Rattle.el_kept.proofs.Listed.{tested_more, others_stay}
use Rattle.el_kept.proofs.listing.add_all.Goals as goal

pub returns-in_err-add-clause-others : goal.returns-in_err-add-clause-others
returns-in_err-add-clause-others c = λ l none.
    others_stay (same_hash l.script) (same_hash c.args.txid.now (txid_of l)) true (is_in c.args.listings.now l)
    (is_in c.add.new.listings l) c.args.scripts.now c.loop-script.script-index
    (c.in_err-add.ensures.err l ∙ c.loop-script.invariant l) none

pub loop-script-preserved : goal.loop-script-preserved
loop-script-preserved c = λ l.
    tested_more (same_hash l.script) (same_hash c.args.txid.now (txid_of l)) true c.args.scripts.now
    c.loop-script.script-index _ (is_in c.add.new.listings l) (is_in c.loop-script.listings l)
    (is_in c.args.listings.now l) c.loop-script-test.true
    (c.in_ok-add.ensures.ok l
    ∙ ap (λ b. cond (b && same_hash c.args.txid.now (txid_of l)) true (is_in c.loop-script.listings l)) (hash_turned _ l.script))
    (c.loop-script.invariant l)
