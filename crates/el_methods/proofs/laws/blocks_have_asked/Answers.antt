use Rattle.el_methods.proofs.Places.{asked_stands}
use Rattle.el_methods.proofs.laws.blocks_have_asked.Goals as goal

pub returns : goal.returns
returns c = asked_stands
