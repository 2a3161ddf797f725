use Rattle.el_outside.proofs.Images.{elapses}
use Rattle.el_outside.proofs.disk_laws.moments_add_up.Goals as goal

pub returns : goal.returns
returns c = elapses
