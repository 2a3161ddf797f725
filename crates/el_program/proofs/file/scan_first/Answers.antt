use Rattle.el_program.proofs.Openings.{are_found}
use Rattle.el_program.proofs.file.scan_first.Goals as goal

pub returns-in-Ok-clause-scanned : goal.returns-in-Ok-clause-scanned
returns-in-Ok-clause-scanned g c = λ told. let r = rw c.new-found.ensures.items at (c.in-Ok.ensures.records told) in rw r.2 r.1

pub returns-in-Ok-clause-heads : goal.returns-in-Ok-clause-heads
returns-in-Ok-clause-heads g c = are_found _ (rw c.new-found.ensures.items at c.in-Ok.ensures.nodes)
