use Rattle.el_mempool.proofs.Worth.{fees_within}
use Rattle.el_mempool.proofs.laws.fees_are_within.Goals as goal

pub returns : goal.returns
returns c = λ chain kept same once. fees_within chain kept same once
