use Rattle.el_check_laws.proofs.MadePaths.{both_alone}
use Rattle.el_check_laws.proofs.laws.one_path_leads_to_each_tip.Goals as goal

pub returns-clause-first : goal.returns-clause-first
returns-clause-first c = λ count nodes some differ begin. (both_alone count nodes some differ begin).0

pub returns-clause-side : goal.returns-clause-side
returns-clause-side c = λ count nodes some differ begin. (both_alone count nodes some differ begin).1
