use Rattle.std.proofs.Common.{◌≡◌, List, drop, true}
use Rattle.std.specs.List.{AllByRecursion}
use Rattle.el_base.specs.declared.hash.Hash32.{Hash32}
use Rattle.el_chain.specs.declared.coin.Coin.{Coin}
use Rattle.el_chain.specs.CoinLists.{FitsBlock}
use Rattle.el_chain.specs.Coins.{coins_after_all}
use Rattle.el_chain.specs.Listings.{listed_in}
use Rattle.el_audit.specs.within.Lists.{is_in_set, list_of, grown}
use Rattle.el_audit.specs.within.OwnCoins.{AreOwn}
use Rattle.el_audit.proofs.walking.add_txs.Given as goal

-- what was listed, and what the transactions that are left add
abbrev pub invariant-loop-tx : goal.invariant-loop-tx
invariant-loop-tx l = record {
  fit : AllByRecursion FitsBlock (drop l.tx-index l.txs);
  stands : (coins : List Coin) → AreOwn l.initial.own (is_in_set l.names) coins → (mid : List Coin) × AreOwn l.own (is_in_set l.names) mid
      × ((s : Hash32) → is_in_set l.names s ≡ true
      → grown (list_of l.lists s) (listed_in s.0 l.height (drop l.tx-index l.txs) mid) ≡ grown (list_of l.initial.lists s) (listed_in s.0 l.height l.txs coins))
      × (coins_after_all l.height l.txs coins ≡ coins_after_all l.height (drop l.tx-index l.txs) mid);
}
