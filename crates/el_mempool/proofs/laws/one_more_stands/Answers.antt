use Rattle.el_mempool.proofs.Joining.{stands_more}
use Rattle.el_mempool.proofs.laws.one_more_stands.Goals as goal

pub returns : goal.returns
returns c = λ limits entries chain kept tx stands free. stands_more limits entries chain kept tx stands free
