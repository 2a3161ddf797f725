use Rattle.el_status.proofs.Exactly.{exact}
use Rattle.el_status.proofs.laws.touched_is_exact.Goals as goal

pub returns : goal.returns
returns c = exact
