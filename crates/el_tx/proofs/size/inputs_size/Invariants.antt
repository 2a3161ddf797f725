use Rattle.std.proofs.Common.{◌≡◌, length, take, flat_map}
use Rattle.el_tx.specs.Encoding.{input_encoding}
use Rattle.el_tx.specs.Hashing.{capped}
use Rattle.el_tx.proofs.size.inputs_size.Given as goal

abbrev pub invariant-loop-i : goal.invariant-loop-i
invariant-loop-i l = l.size ≡ capped (length (flat_map input_encoding (take l.i-index l.inputs)))
