use Rattle.el_outside.proofs.Images.{same_left}
use Rattle.el_outside.proofs.disk_laws.lives_go_on.Goals as goal

pub returns : goal.returns
returns c = same_left
