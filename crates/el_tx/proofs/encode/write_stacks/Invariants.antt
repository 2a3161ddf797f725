use Rattle.std.proofs.Common.{◌≡◌, ◌++◌, take, flat_map}
use Rattle.el_tx.specs.Encoding.{stack_encoding}
use Rattle.el_tx.proofs.encode.write_stacks.Given as goal

abbrev pub invariant-loop-i : goal.invariant-loop-i
invariant-loop-i l = l.out.items ≡ l.fn.out.items ++ flat_map stack_encoding (take l.i-index l.inputs)
