use Rattle.el_schema.proofs.StandingLemmas.{heads_are}
use Rattle.el_schema.proofs.laws.heads_are_there.Goals as goal

pub returns : goal.returns
returns c = heads_are
