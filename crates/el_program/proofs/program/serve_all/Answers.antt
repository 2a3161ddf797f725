use Rattle.el_program.proofs.Programs.{all_served}
use Rattle.el_program.proofs.program.serve_all.Goals as goal

pub returns : goal.returns
returns g c = all_served _ c.serve_started.result c.end_of.result c.serve_started.ensures c.end_of.ensures
