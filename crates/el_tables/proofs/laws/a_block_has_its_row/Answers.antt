use Rattle.el_tables.proofs.UndoneBlocks.{row_more}
use Rattle.el_tables.proofs.laws.a_block_has_its_row.Goals as goal

pub returns : goal.returns
returns c = row_more
