use Rattle.el_headers.proofs.OnePath.{path_stays, path_goes_on}
use Rattle.el_headers.proofs.laws.paths_stay_and_go_on.Goals as goal

pub returns-clause-stay : goal.returns-clause-stay
returns-clause-stay c = λ found h path n p. path_stays found h path n p

pub returns-clause-more : goal.returns-clause-more
returns-clause-more c = λ found h path n p member later named. path_goes_on found h path n p member later named
