use Rattle.std.proofs.Common.{◌≡◌, ◌++◌, List, drop}
use Rattle.el_chain.specs.declared.coin.Coin.{Coin}
use Rattle.el_chain.specs.RowCounts.{spent_scripts}
use Rattle.el_coins.specs.within.Meters.{AreScripts}
use Rattle.el_coins.proofs.meter.find_taken.Given as goal

-- what was found, and what the inputs that are left add
abbrev pub invariant-loop-input : goal.invariant-loop-input
invariant-loop-input l = (coins : List Coin) → AreScripts l.coins coins
    → l.found.items ++ spent_scripts coins (drop l.input-index l.inputs) ≡ l.initial.found.items ++ spent_scripts coins l.inputs
