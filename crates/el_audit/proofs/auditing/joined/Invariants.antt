use Rattle.el_audit.proofs.Pieces.{AreJoining}
use Rattle.el_audit.proofs.auditing.joined.Given as goal

abbrev pub invariant-loop-piece : goal.invariant-loop-piece
invariant-loop-piece l = AreJoining l.chain l.size l.claims l.piece-iterator.rest.items
