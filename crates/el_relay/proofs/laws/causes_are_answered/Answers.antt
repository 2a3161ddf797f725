use Rattle.el_relay.proofs.Causes.{shows}
use Rattle.el_relay.proofs.laws.causes_are_answered.Goals as goal

pub returns : goal.returns
returns c = λ desk bytes answer reason other. shows desk bytes answer reason other
