use Rattle.el_program.proofs.Programs.{of_some_words}
use Rattle.el_program.proofs.program.serve_started.Goals as goal

pub returns : goal.returns
returns g c = of_some_words _ _ c.serve_words.result c.serve_words.ensures.serving
