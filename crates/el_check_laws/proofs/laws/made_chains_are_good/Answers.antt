use Rattle.el_check_laws.proofs.BothBranches.{first_good, side_good}
use Rattle.el_check_laws.proofs.laws.made_chains_are_good.Goals as goal

pub returns-clause-first : goal.returns-clause-first
returns-clause-first c = λ count chain some few differ are. first_good count chain some few differ are

pub returns-clause-side : goal.returns-clause-side
returns-clause-side c = λ count chain some few differ are. side_good count chain some few differ are
