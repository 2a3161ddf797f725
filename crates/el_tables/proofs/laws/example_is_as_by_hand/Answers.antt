use Rattle.std.proofs.Common.{ap, ◌∙◌}
use Rattle.el_tables.specs.ChainLists.{listed_blocks}
use Rattle.el_tables.specs.Tables.{tables_of}
use Rattle.el_tables.specs.Example.{example_chain, two_heads}
use Rattle.el_tables.proofs.Example.{example_listed, example_rows}
use Rattle.el_tables.proofs.laws.example_is_as_by_hand.Goals as goal

pub returns : goal.returns
returns c = record {
  lists = example_listed;
  tables = ap (tables_of two_heads (listed_blocks example_chain)) example_listed ∙ example_rows;
}
