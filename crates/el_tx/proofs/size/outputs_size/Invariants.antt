use Rattle.std.proofs.Common.{◌≡◌, length, take, flat_map}
use Rattle.el_tx.specs.Encoding.{output_encoding}
use Rattle.el_tx.specs.Hashing.{capped}
use Rattle.el_tx.proofs.size.outputs_size.Given as goal

abbrev pub invariant-loop-o : goal.invariant-loop-o
invariant-loop-o l = l.size ≡ capped (length (flat_map output_encoding (take l.o-index l.outputs)))
