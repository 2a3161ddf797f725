use Rattle.el_program.proofs.Checks.{fresh_left}
use Rattle.el_program.proofs.program.fresh_disk.Goals as goal

pub returns : goal.returns
returns c = λ image left f. fresh_left c.new-2.result _ c.new-2.ensures image left f
