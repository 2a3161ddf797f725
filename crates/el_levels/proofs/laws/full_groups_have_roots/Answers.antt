use Rattle.std.proofs.Common.{arith}
use Rattle.el_levels.proofs.GroupLemmas.{full_root, roots_stay}
use Rattle.el_levels.proofs.laws.full_groups_have_roots.Goals as goal

pub returns-clause-root : goal.returns-clause-root
returns-clause-root c = λ list is. full_root 11 list (omega (arith, is))

pub returns-clause-stay : goal.returns-clause-stay
returns-clause-stay c = roots_stay
