use Rattle.el_chain.specs.Headers.{same_hash}
use Rattle.el_chain.proofs.TouchLemmas.{any_added}
use Rattle.el_kept.specs.Tables.{has}
use Rattle.el_kept.proofs.Walks.{any_next}
use Rattle.el_sift.proofs.confirming.add_all.Goals as goal

pub loop-id-preserved : goal.loop-id-preserved
loop-id-preserved c = λ x.
    any_next (same_hash x) c.args.ids.now c.loop-id.id-index _ (has c.loop-id.found x) (has c.add.new.self x) _ c.loop-id-test.true (c.loop-id.invariant x)
    (any_added x _ c.loop-id.found c.add.new.self c.in_ok-add.ensures.ok)
