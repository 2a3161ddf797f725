use Rattle.el_methods.proofs.Places.{asked_stays}
use Rattle.el_methods.proofs.laws.asked_stays.Goals as goal

pub returns : goal.returns
returns c = asked_stays
