use Rattle.el_merkle.specs.Merkle.{row}
use Rattle.el_prepare.proofs.PieceLemmas.{IsJoining}
use Rattle.el_prepare.proofs.merkle.joined.Given as goal

abbrev pub invariant-loop-row : goal.invariant-loop-row
invariant-loop-row l = IsJoining (row 6) (λ v. v.items) l.size l.hashes l.list.items l.row-iterator.rest.items
