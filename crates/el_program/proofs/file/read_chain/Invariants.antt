use Rattle.el_program.proofs.FileLemmas.{Round}
use Rattle.el_program.proofs.file.read_chain.Given as goal

abbrev pub invariant-loop-node : goal.invariant-loop-node
invariant-loop-node g l = Round g.A.Archive l.initial.archive l.archive l.node-items l.node-index l.ledger
