use Rattle.std.proofs.Common.{◌&&◌, not}
use Rattle.std.specs.List.{list_any}
use Rattle.el_chain.specs.Headers.{same_hash}
use Rattle.el_kept.proofs.Walks.{any_next}
use Rattle.el_mempool.specs.declared.held.Source.{Source}
use Rattle.el_mempool.specs.Unconfirmed.{has_script}
use Rattle.el_sift.proofs.exchanging.touch_rest.Goals as goal

pub loop-source-preserved : goal.loop-source-preserved
loop-source-preserved c = λ s.
    any_next (λ (x : Source). has_script s.0 x.held && not (list_any (same_hash s) c.args.others.now)) c.args.inputs.now c.loop-source.source-index _
    (list_any (same_hash s) c.loop-source.touched) (list_any (same_hash s) c.touch_unless.new.touched) _ c.loop-source-test.true (c.loop-source.invariant s) (c.in_ok-touch_unless.ensures s)
