use Rattle.std.proofs.Common.{◌≡◌, Bool, List, drop}
use Rattle.el_base.specs.declared.hash.Hash32.{Hash32}
use Rattle.el_chain.specs.declared.coin.Coin.{Coin}
use Rattle.el_chain.specs.Coins.{spend_inputs}
use Rattle.el_audit.specs.within.OwnCoins.{AreOwn}
use Rattle.el_audit.proofs.owned.take_all.Given as goal

-- the inputs before have taken their coins
abbrev pub invariant-loop-input : goal.invariant-loop-input
invariant-loop-input l = (is_named : Hash32 → Bool) (coins : List Coin) → AreOwn l.initial.own is_named coins
    → (mid : List Coin) × AreOwn l.own is_named mid × (spend_inputs l.inputs coins ≡ spend_inputs (drop l.input-index l.inputs) mid)
