use Rattle.std.proofs.Common.{[]}
use Rattle.el_coins.proofs.GoodChains.{chain_fits}
use Rattle.el_plain.proofs.plain_chain.PlainChain.history.Goals as goal

pub history_of-requires-clause-fit : goal.history_of-requires-clause-fit
history_of-requires-clause-fit c = rw c.as_slice.ensures.value (chain_fits [] c.self.inside.blocks.items c.self.invariant.good.each)
