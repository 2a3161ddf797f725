use Rattle.std.proofs.Common.{◌≡◌, ◌++◌, ℕ, List, drop, map}
use Rattle.el_chain.specs.declared.coin.Coin.{Coin}
use Rattle.el_chain.specs.Coins.{add_outputs}
use Rattle.el_chain.specs.RowCounts.{output_script}
use Rattle.el_coins.specs.within.Meters.{AreScripts}
use Rattle.el_coins.proofs.meter.add_coins.Given as goal

-- the outputs before have put their coins in, and their script hashes were appended
abbrev pub invariant-loop-index : goal.invariant-loop-index
invariant-loop-index l = record {
  coins : (height : ℕ) (coins : List Coin) → AreScripts l.initial.coins coins
      → (mid : List Coin) × AreScripts l.coins mid × (add_outputs l.txid height 0 l.outputs coins ≡ add_outputs l.txid height l.index (drop l.index l.outputs) mid);
  found : l.found.items ++ map output_script (drop l.index l.outputs) ≡ l.initial.found.items ++ map output_script l.outputs;
}
