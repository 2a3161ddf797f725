use Rattle.el_levels.proofs.GroupLemmas.{row_of_groups, root_of_groups, branch_of_groups}
use Rattle.el_levels.proofs.laws.root_is_over_groups.Goals as goal

pub returns-clause-row : goal.returns-clause-row
returns-clause-row c = row_of_groups

pub returns-clause-root : goal.returns-clause-root
returns-clause-root c = root_of_groups

pub returns-clause-branch : goal.returns-clause-branch
returns-clause-branch c = branch_of_groups
