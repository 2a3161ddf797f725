use Rattle.std.proofs.Common.{◌∙◌}
use Rattle.el_chain.specs.Coins.{without}
use Rattle.el_coins.proofs.Histories.{drop_step}
use Rattle.el_coins.proofs.Meters.{scripts_taken}
use Rattle.el_coins.proofs.meter.take_coins.Goals as goal

pub loop-input-preserved : goal.loop-input-preserved
loop-input-preserved c = λ coins h.
    let m = c.loop-input.invariant coins h in
    let i = c.input-item.result in (
      without i.from m.0,
      scripts_taken c.loop-input.coins c.swap_remove.new.self m.0 i.from m.1 c.swap_remove.ensures.updates.0,
      m.2 ∙ drop_step c.args.inputs.now c.loop-input.input-index i m.0 c.loop-input-test.true c.input-item.is,
    )
