use Rattle.std.proofs.Common.{◌≡◌, take}
use Rattle.std.specs.Prelude.{map}
use Rattle.el_mempool.specs.Sift.{output_held}
use Rattle.el_join.proofs.examining.held_by.Given as goal

-- what the outputs so far hold
abbrev pub invariant-loop-output : goal.invariant-loop-output
invariant-loop-output l = l.held.items ≡ map output_held (take l.output-index l.outputs)
