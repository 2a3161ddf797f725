use Rattle.std.proofs.Common.{[]}
use Rattle.el_chain.proofs.Chains.{linked_pair}
use Rattle.el_chain.proofs.laws.chain_is_linked.Goals as goal

pub returns : goal.returns
returns c = λ front after a b h. linked_pair [] front after a b h.each
