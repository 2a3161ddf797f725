use Rattle.std.proofs.Common.{◌≡◌, ◌||◌, drop}
use Rattle.std.specs.List.{list_any}
use Rattle.el_chain.specs.declared.coin.Coin.{Coin}
use Rattle.el_chain.specs.CoinLaws.{coins_made}
use Rattle.el_chain.specs.Headers.{same_hash}
use Rattle.el_chain.specs.History.{has_own}
use Rattle.el_coins.specs.Touching.{IfCoins}
use Rattle.el_coins.proofs.touching.touch_replaced.Given as goal

abbrev pub invariant-loop-index : goal.invariant-loop-index
invariant-loop-index l = IfCoins l.base (λ coins s. (list_any (same_hash s) l.touched || list_any (λ (c : Coin). has_own s.0 coins c.outpoint) (coins_made l.txid 0 l.index (drop l.index l.outputs))) ≡ (list_any (same_hash s) l.initial.touched || list_any (λ (c : Coin). has_own s.0 coins c.outpoint) (coins_made l.txid 0 0 l.outputs)))
