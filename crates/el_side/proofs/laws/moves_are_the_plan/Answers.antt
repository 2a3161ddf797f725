use Rattle.el_side.proofs.PlanLaws.{first_move, no_move, whole_path}
use Rattle.el_side.proofs.laws.moves_are_the_plan.Goals as goal

pub returns-clause-first : goal.returns-clause-first
returns-clause-first c = first_move

pub returns-clause-none : goal.returns-clause-none
returns-clause-none c = no_move

pub returns-clause-whole : goal.returns-clause-whole
returns-clause-whole c = whole_path
