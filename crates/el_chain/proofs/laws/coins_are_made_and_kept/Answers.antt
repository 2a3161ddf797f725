use Rattle.el_chain.proofs.CoinOrigins.{origin, there_from}
use Rattle.el_chain.proofs.laws.coins_are_made_and_kept.Goals as goal

pub returns : goal.returns
returns c = λ chain coin. (origin coin chain, there_from coin chain)
