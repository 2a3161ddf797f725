use Rattle.el_tables.proofs.Tables.{tables_stand}
use Rattle.el_tables.proofs.laws.a_good_chain_has_tables.Goals as goal

pub returns : goal.returns
returns c = tables_stand
