use Rattle.el_headers.proofs.Growing.{found_none, found_added}
use Rattle.el_headers.proofs.laws.found_stays_found.Goals as goal

pub returns-clause-none : goal.returns-clause-none
returns-clause-none c = found_none

pub returns-clause-more : goal.returns-clause-more
returns-clause-more c = λ found n f node. found_added found n f node
