use Rattle.std.proofs.Common.{arith}
use Rattle.el_merkle.proofs.Rows.{length-branch, levels_one, levels_more, levels_least}
use Rattle.el_merkle.proofs.laws.branch_has_a_hash_a_level.Goals as goal

pub returns-clause-branch : goal.returns-clause-branch
returns-clause-branch c = λ list pos inside. length-branch list pos

pub returns-clause-one : goal.returns-clause-one
returns-clause-one c = levels_one

pub returns-clause-more : goal.returns-clause-more
returns-clause-more c = λ n two. let more = levels_more n two in omega arith

pub returns-clause-least : goal.returns-clause-least
returns-clause-least c = levels_least
