use Rattle.el_merkle.proofs.Rows.{branch_one, branch_more}
use Rattle.el_merkle.proofs.laws.branch_goes_up_by_pairs.Goals as goal

pub returns-clause-one : goal.returns-clause-one
returns-clause-one c = branch_one

pub returns-clause-more : goal.returns-clause-more
returns-clause-more c = branch_more
