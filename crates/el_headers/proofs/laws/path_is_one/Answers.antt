use Rattle.el_headers.proofs.OnePath.{one_path}
use Rattle.el_headers.proofs.laws.path_is_one.Goals as goal

pub returns : goal.returns
returns c = λ found h one other f p q. one_path found h one other f p q
