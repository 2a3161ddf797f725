use Rattle.std.proofs.Common.{◌≡◌, List, drop}
use Rattle.el_chain.specs.declared.coin.Coin.{Coin}
use Rattle.el_chain.specs.Coins.{spend_inputs}
use Rattle.el_coins.specs.within.Meters.{AreScripts}
use Rattle.el_coins.proofs.meter.take_coins.Given as goal

-- the inputs before have taken their coins
abbrev pub invariant-loop-input : goal.invariant-loop-input
invariant-loop-input l = (coins : List Coin) → AreScripts l.initial.coins coins
    → (mid : List Coin) × AreScripts l.coins mid × (spend_inputs l.inputs coins ≡ spend_inputs (drop l.input-index l.inputs) mid)
