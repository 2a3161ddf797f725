use Rattle.el_tables.proofs.Tables.{same_tables}
use Rattle.el_tables.proofs.laws.tables_of_one_chain_are_equal.Goals as goal

pub returns : goal.returns
returns c = same_tables
