use Rattle.std.proofs.Common.{◌≡◌, List, drop, true, Some}
use Rattle.std.specs.List.{AllByRecursion}
use Rattle.el_base.specs.declared.hash.Hash32.{Hash32}
use Rattle.el_chain.specs.declared.coin.Coin.{Coin}
use Rattle.el_chain.specs.Coins.{coins, coins_from}
use Rattle.el_chain.specs.History.{history}
use Rattle.el_chain.specs.Listings.{listed_from}
use Rattle.el_audit.specs.within.Lists.{is_in_set, list_of, grown}
use Rattle.el_audit.specs.within.OwnCoins.{AreOwn}
use Rattle.el_audit.proofs.Bounds.{HasFitting}
use Rattle.el_audit.proofs.walking.walk.Given as goal

-- what was listed, and what the blocks that are left add
abbrev pub invariant-loop-height : goal.invariant-loop-height
invariant-loop-height l = record {
  fit : AllByRecursion HasFitting (drop l.height l.chain);
  stands : (mid : List Coin) × AreOwn l.own (is_in_set l.names) mid
      × ((s : Hash32) → is_in_set l.names s ≡ true → grown (list_of l.lists s) (listed_from s.0 l.height (drop l.height l.chain) mid) ≡ Some (history l.chain s.0))
      × (coins l.chain ≡ coins_from l.height (drop l.height l.chain) mid);
}
