use Rattle.el_outside.proofs.Images.{cut_follows, write_follows}
use Rattle.el_outside.proofs.disk_laws.model_keeps_the_clauses.Goals as goal

pub returns-clause-write : goal.returns-clause-write
returns-clause-write c = write_follows

pub returns-clause-cut : goal.returns-clause-cut
returns-clause-cut c = cut_follows
