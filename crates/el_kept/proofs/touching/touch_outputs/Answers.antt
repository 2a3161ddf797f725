use Rattle.std.specs.List.{list_any}
use Rattle.el_chain.specs.Headers.{same_hash}
use Rattle.el_kept.proofs.Walks.{any_next}
use Rattle.el_mempool.specs.Unconfirmed.{has_script}
use Rattle.el_kept.proofs.touching.touch_outputs.Goals as goal

pub loop-held-preserved : goal.loop-held-preserved
loop-held-preserved c = λ s. any_next (has_script s.0) c.args.outputs.now c.loop-held.held-index _
    (list_any (same_hash s) c.loop-held.touched) (list_any (same_hash s) c.touch.new.touched) _ c.loop-held-test.true (c.loop-held.invariant s) (c.in_ok-touch.ensures s)
