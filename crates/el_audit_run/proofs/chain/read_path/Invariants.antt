use Rattle.el_audit_run.proofs.Putting.{Round}
use Rattle.el_audit_run.proofs.chain.read_path.Given as goal

abbrev pub invariant-loop-height : goal.invariant-loop-height
invariant-loop-height g l = Round g.A.Archive l.initial.archive l.archive l.path l.height l.chain
