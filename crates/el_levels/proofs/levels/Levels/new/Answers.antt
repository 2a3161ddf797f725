use Rattle.std.proofs.Common.{◌∙◌, sym}
use Rattle.el_levels.proofs.GroupLemmas.{roots_none}
use Rattle.el_levels.proofs.levels.Levels.new.Goals as goal

pub returns : goal.returns
returns c = record { roots = c.new.ensures.items ∙ sym roots_none; group = tt; above = tt }
