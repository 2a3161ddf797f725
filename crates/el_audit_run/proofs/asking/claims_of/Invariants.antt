use Rattle.std.proofs.Common.{length}
use Rattle.el_audit_run.proofs.Found.{AskedSo}
use Rattle.el_audit_run.proofs.asking.claims_of.Given as goal

-- what was asked so far
abbrev pub invariant-loop-left : goal.invariant-loop-left
invariant-loop-left g l = AskedSo g.G.Ledger l.initial.ledger l.ledger l.scripts l.left l.claims.items

abbrev pub decreases-loop-left : goal.decreases-loop-left
decreases-loop-left g l = length l.left
