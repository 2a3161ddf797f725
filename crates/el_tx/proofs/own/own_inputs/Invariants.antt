use Rattle.std.proofs.Common.{◌≡◌, take}
use Rattle.el_tx.proofs.own.own_inputs.Given as goal

abbrev pub invariant-loop-input : goal.invariant-loop-input
invariant-loop-input l = l.list.items ≡ take l.input-index l.inputs
