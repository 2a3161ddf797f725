use Rattle.el_status.proofs.Stays.{status_stays}
use Rattle.el_status.proofs.laws.untouched_status_stays.Goals as goal

pub returns : goal.returns
returns c = status_stays
