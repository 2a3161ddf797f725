use Rattle.std.proofs.lemmas.List.{get_or_default}
use Rattle.el_coins.proofs.Meters.{gathered}
use Rattle.el_coins.proofs.meter.gather_in.Goals as goal

pub loop-script-preserved : goal.loop-script-preserved
loop-script-preserved c =
    gathered c.loop-script.scripts.keys c.insert.new.self.keys c.args.found.now _ c.loop-script.script-index _ c.loop-script-test.true (get_or_default _ _ _ _ c.loop-script-test.true)
    c.in_ok-insert.ensures.keys c.loop-script.invariant
