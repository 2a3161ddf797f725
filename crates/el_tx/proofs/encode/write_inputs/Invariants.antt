use Rattle.std.proofs.Common.{◌≡◌, ◌++◌, length, take, flat_map}
use Rattle.el_base.specs.Compact.{compact}
use Rattle.el_tx.specs.Encoding.{input_encoding}
use Rattle.el_tx.proofs.encode.write_inputs.Given as goal

abbrev pub invariant-loop-i : goal.invariant-loop-i
invariant-loop-i l = l.out.items ≡ l.fn.out.items ++ (compact (length l.inputs) ++ flat_map input_encoding (take l.i-index l.inputs))
