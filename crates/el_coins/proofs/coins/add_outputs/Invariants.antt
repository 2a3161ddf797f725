use Rattle.std.proofs.Common.{◌≡◌, ◌+◌, ◌<◌, ◌^◌, List, drop}
use Rattle.el_tx.specs.Encoding.{total_value}
use Rattle.el_chain.specs.declared.coin.Coin.{Coin}
use Rattle.el_chain.specs.Coins.{add_outputs}
use Rattle.el_coins.specs.CoinLayers.{Holds}
use Rattle.el_coins.proofs.coins.add_outputs.Given as goal

-- The outputs before have put their coins in, and the outputs that are left go on with what is there; all fits.
abbrev pub invariant-loop-index : goal.invariant-loop-index
invariant-loop-index l = record {
  fits : l.changes.supply + total_value (drop l.index l.outputs) < 2 ^ 64;
  stands : (coins : List Coin) → Holds l.base l.initial.changes coins → (mid : List Coin) × Holds l.base l.changes mid
      × (add_outputs l.txid l.height 0 l.outputs coins ≡ add_outputs l.txid l.height l.index (drop l.index l.outputs) mid);
}
