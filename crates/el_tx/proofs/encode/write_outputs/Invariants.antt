use Rattle.std.proofs.Common.{◌≡◌, ◌++◌, length, take, flat_map}
use Rattle.el_base.specs.Compact.{compact}
use Rattle.el_tx.specs.Encoding.{output_encoding}
use Rattle.el_tx.proofs.encode.write_outputs.Given as goal

abbrev pub invariant-loop-o : goal.invariant-loop-o
invariant-loop-o l = l.out.items ≡ l.fn.out.items ++ (compact (length l.outputs) ++ flat_map output_encoding (take l.o-index l.outputs))
