use Rattle.el_lines.proofs.SameStates.{same_state}
use Rattle.el_lines.proofs.laws.cuts_do_not_matter.Goals as goal

pub returns : goal.returns
returns c = same_state
