use Rattle.std.proofs.Common.{◌≡◌, List, drop}
use Rattle.std.specs.List.{AllByRecursion}
use Rattle.el_chain.specs.declared.coin.Coin.{Coin}
use Rattle.el_chain.specs.Coins.{coins, coins_from}
use Rattle.el_plain.specs.within.Light.{HaveFewOutputs}
use Rattle.el_plain.specs.within.OwnCoins.{HasOwnCoins}
use Rattle.el_plain.proofs.own_coins.own_coins.Given as goal

-- the own coins so far, and the blocks that are left
abbrev pub invariant-loop-height : goal.invariant-loop-height
invariant-loop-height l = record {
  fit : AllByRecursion HaveFewOutputs (drop l.height l.blocks);
  stands : (mid : List Coin) × HasOwnCoins l.own l.script_hash.0 mid × (coins l.blocks ≡ coins_from l.height (drop l.height l.blocks) mid);
}
