use Rattle.std.proofs.Common.{◌≡◌, ◌≤◌, List, drop}
use Rattle.el_chain.specs.declared.coin.Coin.{Coin}
use Rattle.el_chain.specs.Coins.{spend_inputs}
use Rattle.el_chain.specs.Faults.{missing_input}
use Rattle.el_coins.specs.CoinLayers.{Holds}
use Rattle.el_coins.proofs.coins.spend_inputs.Given as goal

-- The inputs before have taken their coins, and the inputs that are left go on with what is there.
abbrev pub invariant-loop-number : goal.invariant-loop-number
invariant-loop-number l = record {
  less : l.changes.supply ≤ l.initial.changes.supply;
  stands : (coins : List Coin) → Holds l.base l.initial.changes coins → (mid : List Coin) × Holds l.base l.changes mid
      × (missing_input 0 l.inputs coins ≡ missing_input l.number (drop l.number l.inputs) mid) × (spend_inputs l.inputs coins ≡ spend_inputs (drop l.number l.inputs) mid);
}
