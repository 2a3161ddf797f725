use Rattle.std.proofs.Common.{◌≡◌, List, drop}
use Rattle.el_chain.specs.declared.coin.Coin.{Coin}
use Rattle.el_audit.specs.within.Lists.{is_in_set}
use Rattle.el_audit.specs.within.OwnCoins.{AreOwn, put_coins}
use Rattle.el_audit.proofs.owned.put_made.Given as goal

-- the coins before were put in
abbrev pub invariant-loop-coin : goal.invariant-loop-coin
invariant-loop-coin l = (coins : List Coin) → AreOwn l.initial.own (is_in_set l.names) coins
    → (mid : List Coin) × AreOwn l.own (is_in_set l.names) mid × (put_coins l.made coins ≡ put_coins (drop l.coin-index l.made) mid)
