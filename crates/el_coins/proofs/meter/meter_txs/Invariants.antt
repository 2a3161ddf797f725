use Rattle.std.proofs.Common.{◌≡◌, ◌++◌, ℕ, List, drop}
use Rattle.std.specs.List.{AllByRecursion}
use Rattle.el_base.specs.declared.hash.Hash32.{Hash32}
use Rattle.el_chain.specs.declared.coin.Coin.{Coin}
use Rattle.el_chain.specs.Coins.{coins_after_all}
use Rattle.el_chain.specs.CoinLists.{FitsBlock}
use Rattle.el_coins.specs.within.Meters.{IsMeter, met_in}
use Rattle.el_coins.proofs.meter.meter_txs.Given as goal

-- what was counted, and what the transactions that are left add
abbrev pub invariant-loop-tx : goal.invariant-loop-tx
invariant-loop-tx l = record {
  fit : AllByRecursion FitsBlock (drop l.tx-index l.txs);
  stands : (height : ℕ) (lists : List (List Hash32)) (coins : List Coin) → IsMeter l.initial.meter lists coins
      → (so : List (List Hash32)) × (mid : List Coin) × IsMeter l.meter so mid × (so ++ met_in height (drop l.tx-index l.txs) mid ≡ lists ++ met_in height l.txs coins)
      × (coins_after_all height l.txs coins ≡ coins_after_all height (drop l.tx-index l.txs) mid);
}
