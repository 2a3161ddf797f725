use Rattle.el_tables.proofs.Outputs.{chain_coins}
use Rattle.el_tables.proofs.laws.coins_are_the_unspent_outputs.Goals as goal

pub returns : goal.returns
returns c = chain_coins
