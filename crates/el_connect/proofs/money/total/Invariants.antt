use Rattle.std.proofs.Common.{◌≡◌, ◌+◌, drop}
use Rattle.el_connect.specs.within.Parts.{values}
use Rattle.el_connect.proofs.money.total.Given as goal

-- the values that are left complete the whole
abbrev pub invariant-loop-output : goal.invariant-loop-output
invariant-loop-output l = l.sum + values (drop l.output-index l.outputs) ≡ values l.outputs
