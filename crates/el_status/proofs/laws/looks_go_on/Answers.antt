use Rattle.el_status.proofs.Sides.{looks_joined, looks_self}
use Rattle.el_status.proofs.laws.looks_go_on.Goals as goal

pub returns-clause-still : goal.returns-clause-still
returns-clause-still c = looks_self

pub returns-clause-joined : goal.returns-clause-joined
returns-clause-joined c = looks_joined
