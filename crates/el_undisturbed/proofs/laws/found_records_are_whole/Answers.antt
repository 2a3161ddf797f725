use Rattle.el_undisturbed.proofs.Standing.{alone_shows, none_half_shows}
use Rattle.el_undisturbed.proofs.laws.found_records_are_whole.Goals as goal

pub returns-clause-alone : goal.returns-clause-alone
returns-clause-alone g c = λ magic start end alone. alone_shows g.A.Archive alone magic start end

pub returns-clause-written : goal.returns-clause-written
returns-clause-written g c = λ magic start end none. none_half_shows g.A.Archive magic start end none
