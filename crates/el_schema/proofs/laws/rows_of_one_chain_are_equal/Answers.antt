use Rattle.el_schema.proofs.StandingLemmas.{equal_rows, equal_with_as_many}
use Rattle.el_schema.proofs.laws.rows_of_one_chain_are_equal.Goals as goal

pub returns : goal.returns
returns c = record { same = equal_rows; as_many = equal_with_as_many }
