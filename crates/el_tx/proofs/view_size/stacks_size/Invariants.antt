use Rattle.std.proofs.Common.{◌≡◌, length, take, flat_map}
use Rattle.el_tx.specs.Encoding.{stack_encoding}
use Rattle.el_tx.specs.Hashing.{capped}
use Rattle.el_tx.proofs.view_size.stacks_size.Given as goal

abbrev pub invariant-loop-i : goal.invariant-loop-i
invariant-loop-i l = l.size ≡ capped (length (flat_map stack_encoding (take l.i-index l.inputs)))
