use Rattle.std.proofs.Common.{◌≡◌, take}
use Rattle.el_tx.proofs.own.own_outputs.Given as goal

abbrev pub invariant-loop-output : goal.invariant-loop-output
invariant-loop-output l = l.list.items ≡ take l.output-index l.outputs
