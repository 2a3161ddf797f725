use Rattle.el_tables.proofs.WholeBlocks.{connects}
use Rattle.el_tables.proofs.laws.a_block_connects.Goals as goal

pub returns : goal.returns
returns c = connects
