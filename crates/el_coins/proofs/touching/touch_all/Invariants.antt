use Rattle.std.proofs.Common.{◌≡◌, ◌||◌, drop}
use Rattle.std.specs.List.{list_any, AllByRecursion}
use Rattle.el_chain.specs.Headers.{same_hash}
use Rattle.el_chain.specs.Touches.{touches}
use Rattle.el_chain.specs.CoinLists.{FitsBlock}
use Rattle.el_coins.specs.Touching.{IfCoins}
use Rattle.el_coins.proofs.touching.touch_all.Given as goal

abbrev pub invariant-loop-tx : goal.invariant-loop-tx
invariant-loop-tx l = record { fit : AllByRecursion FitsBlock (drop l.tx-index l.txs); each : IfCoins l.base (λ coins s. (list_any (same_hash s) l.touched || list_any (touches s.0 coins) (drop l.tx-index l.txs)) ≡ (list_any (same_hash s) l.initial.touched || list_any (touches s.0 coins) l.txs)) }
