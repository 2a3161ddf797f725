use Rattle.std.proofs.Common.{◌≡◌, ◌++◌, ℕ, List, drop}
use Rattle.std.specs.List.{AllByRecursion}
use Rattle.el_base.specs.declared.hash.Hash32.{Hash32}
use Rattle.el_chain.specs.declared.coin.Coin.{Coin}
use Rattle.el_chain.specs.Coins.{coins_from}
use Rattle.el_coins.specs.CoinTables.{HasFitting}
use Rattle.el_coins.specs.within.Meters.{IsMeter, met_from}
use Rattle.el_coins.proofs.meter.meter_blocks.Given as goal

-- what was counted, and what the blocks that are left add, the first of which has that height
abbrev pub invariant-loop-placed : goal.invariant-loop-placed
invariant-loop-placed l = record {
  fit : AllByRecursion HasFitting (drop l.placed-index l.blocks);
  stands : (height : ℕ) (lists : List (List Hash32)) (coins : List Coin) → IsMeter l.initial.meter lists coins
      → (at : ℕ) × (so : List (List Hash32)) × (mid : List Coin) × IsMeter l.meter so mid
      × (so ++ met_from at (drop l.placed-index l.blocks) mid ≡ lists ++ met_from height l.blocks coins)
      × (coins_from height l.blocks coins ≡ coins_from at (drop l.placed-index l.blocks) mid);
}
