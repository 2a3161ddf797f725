use Rattle.std.proofs.Common.{length}
use Rattle.el_chain.specs.Coins.{coins}
use Rattle.el_queries.proofs.Law.{law}
use Rattle.el_queries.proofs.laws.each_block_touches_what_the_move_touches.Goals as goal

pub returns : goal.returns
returns c = λ base bs s good. law s.0 (coins base) (length base) bs
