use Rattle.el_outside.proofs.Images.{mixed}
use Rattle.el_outside.proofs.disk_laws.files_fail_independently.Goals as goal

pub returns : goal.returns
returns c = mixed
