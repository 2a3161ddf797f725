use Rattle.el_program.proofs.Openings.{are_nodes, are_found}
use Rattle.el_program.proofs.opening.scan_all.Goals as goal

pub returns-in-Ok-clause-scanned : goal.returns-in-Ok-clause-scanned
returns-in-Ok-clause-scanned g c = record {
  each = are_nodes _ _ (rw c.new-found.ensures.items at c.in-Ok.ensures.nodes);
  read = are_found _ (rw c.new-found.ensures.items at c.in-Ok.ensures.nodes);
  of_all = λ told. let r = rw c.new-found.ensures.items at (c.in-Ok.ensures.records told) in rw r.2 r.1;
  keeps = c.in-Ok.ensures.only_reads.keeps;
}
