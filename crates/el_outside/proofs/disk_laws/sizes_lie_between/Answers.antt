use Rattle.el_outside.proofs.Images.{any_size}
use Rattle.el_outside.proofs.disk_laws.sizes_lie_between.Goals as goal

pub returns-clause-any : goal.returns-clause-any
returns-clause-any c = any_size

pub returns-clause-within : goal.returns-clause-within
returns-clause-within c = λ kept d image. (image.no_shorter, image.no_longer)
