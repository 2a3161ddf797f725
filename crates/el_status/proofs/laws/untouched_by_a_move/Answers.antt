use Rattle.el_status.proofs.Sides.{move_keeps}
use Rattle.el_status.proofs.laws.untouched_by_a_move.Goals as goal

pub returns : goal.returns
returns c = move_keeps
