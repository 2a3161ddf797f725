use Rattle.std.proofs.Common.{◌≡◌, ◌<◌, length}
use Rattle.el_merkle.specs.Merkle as spec
use Rattle.el_merkle.proofs.tree.root.Given as goal

abbrev pub invariant-loop-hashes : goal.invariant-loop-hashes
invariant-loop-hashes l = record { some : 0 < length l.hashes.items; same : spec.root l.hashes.items ≡ spec.root l.list }

abbrev pub decreases-loop-hashes : goal.decreases-loop-hashes
decreases-loop-hashes l = length l.hashes.items
