use Rattle.el_levels.proofs.GroupLemmas.{whole_root, whole_branch}
use Rattle.el_levels.proofs.laws.whole_trees_have_roots.Goals as goal

pub returns-clause-root : goal.returns-clause-root
returns-clause-root c = whole_root

pub returns-clause-branch : goal.returns-clause-branch
returns-clause-branch c = whole_branch
