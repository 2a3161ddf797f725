use Rattle.el_prepare.proofs.BatchLemmas.{AreJoining}
use Rattle.el_prepare.proofs.batch.joined.Given as goal

abbrev pub invariant-loop-piece : goal.invariant-loop-piece
invariant-loop-piece l = AreJoining (λ v. v.0.items) (λ v. v.1) l.size l.texts l.list.items l.piece-iterator.rest.items
