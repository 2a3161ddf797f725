use Rattle.std.proofs.Common.{◌≡◌, ℕ, List, drop}
use Rattle.el_chain.specs.declared.coin.Coin.{Coin}
use Rattle.el_chain.specs.Coins.{spend_inputs}
use Rattle.el_plain.specs.within.OwnCoins.{HasOwnCoins}
use Rattle.el_plain.proofs.own_coins.take_all.Given as goal

-- the inputs before have taken their coins
abbrev pub invariant-loop-input : goal.invariant-loop-input
invariant-loop-input l = (script_hash : List ℕ) (coins : List Coin) → HasOwnCoins l.initial.own script_hash coins
    → (mid : List Coin) × HasOwnCoins l.own script_hash mid × (spend_inputs l.inputs coins ≡ spend_inputs (drop l.input-index l.inputs) mid)
