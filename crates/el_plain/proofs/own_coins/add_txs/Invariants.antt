use Rattle.std.proofs.Common.{◌≡◌, List, drop}
use Rattle.std.specs.List.{AllByRecursion}
use Rattle.el_chain.specs.declared.coin.Coin.{Coin}
use Rattle.el_chain.specs.Coins.{coins_after_all}
use Rattle.el_plain.specs.within.Light.{HasFewOutputs}
use Rattle.el_plain.specs.within.OwnCoins.{HasOwnCoins}
use Rattle.el_plain.proofs.own_coins.add_txs.Given as goal

-- the own coins so far, and the transactions that are left
abbrev pub invariant-loop-tx : goal.invariant-loop-tx
invariant-loop-tx l = record {
  fit : AllByRecursion HasFewOutputs (drop l.tx-index l.txs);
  stands : (coins : List Coin) → HasOwnCoins l.initial.own l.script_hash.0 coins
      → (mid : List Coin) × HasOwnCoins l.own l.script_hash.0 mid × (coins_after_all l.height l.txs coins ≡ coins_after_all l.height (drop l.tx-index l.txs) mid);
}
