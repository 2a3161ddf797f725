use Rattle.el_merkle.proofs.Rows.{root_one, root_more}
use Rattle.el_merkle.proofs.laws.root_is_paired_down.Goals as goal

pub returns-clause-one : goal.returns-clause-one
returns-clause-one c = root_one

pub returns-clause-more : goal.returns-clause-more
returns-clause-more c = root_more
