use Rattle.el_tables.proofs.UndoneBlocks.{disconnects, blocks_less, good_before}
use Rattle.el_tables.proofs.laws.a_block_disconnects.Goals as goal

pub returns : goal.returns
returns c = record { lists = disconnects; row = blocks_less; good = good_before }
