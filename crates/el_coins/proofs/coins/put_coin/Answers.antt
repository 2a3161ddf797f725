use Rattle.el_coins.proofs.CoinLists.{value_within, made}
use Rattle.el_coins.proofs.coins.put_coin.Goals as goal

pub set_coin-requires-clause-held : goal.set_coin-requires-clause-held
set_coin-requires-clause-held c = value_within _ _ c.requires.stands.0 c.args.coin.outpoint c.requires.stands.1

pub returns-clause-add_coin : goal.returns-clause-add_coin
returns-clause-add_coin c = λ coins h. made _ _ _ _ coins c.args.coin h c.in_ok-set_coin.ensures.set c.in_ok-set_coin.ensures.sum
