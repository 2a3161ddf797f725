use Rattle.std.proofs.Common.{◌∙◌, ◌+◌, ◌++◌, drop, sym, ap, append-nil, None, Some}
use Rattle.el_chain.specs.RowCounts.{spent_scripts}
use Rattle.el_coins.proofs.Meters.{taken_step}
use Rattle.el_coins.proofs.meter.find_taken.Goals as goal
use Rattle.el_coins.proofs.meter.find_taken.Goals.{in-Some+in_ok-push-in-Some, in-None}

pub loop-input-preserved : goal.loop-input-preserved
loop-input-preserved c = λ coins h. elim c.match-get.branch [
  | in-Some+in_ok-push-in-Some w ↦ rw (w.found-is, w.in_ok-push-in-Some.ensures.items)
      (sym (taken_step c.args.coins.now coins c.args.inputs.now c.loop-input.input-index c.input-item.result (Some w.in-Some.script.now) c.loop-input.found.items h c.loop-input-test.true c.input-item.is
      w.in-Some.ensures.value) ∙ c.loop-input.invariant coins h)
  | in-None w ↦ rw w.found-is
      (ap (λ l. l ++ spent_scripts coins (drop (c.loop-input.input-index + 1) c.args.inputs.now)) (sym (append-nil c.loop-input.found.items))
      ∙ sym (taken_step c.args.coins.now coins c.args.inputs.now c.loop-input.input-index c.input-item.result None c.loop-input.found.items h c.loop-input-test.true c.input-item.is
      w.in-None.ensures.value) ∙ c.loop-input.invariant coins h)
]
