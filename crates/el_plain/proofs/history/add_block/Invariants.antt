use Rattle.std.proofs.Common.{◌≡◌, ◌++◌, List, drop}
use Rattle.std.specs.List.{AllByRecursion}
use Rattle.el_chain.specs.declared.coin.Coin.{Coin}
use Rattle.el_plain.specs.within.CoinTables.{HasOwnOutpoints}
use Rattle.el_chain.specs.CoinLists.{FitsBlock}
use Rattle.el_chain.specs.Coins.{coins_after_all}
use Rattle.el_chain.specs.Listings.{listed_in}
use Rattle.el_plain.proofs.history.add_block.Given as goal

-- what was found, and what the transactions that are left add
abbrev pub invariant-loop-tx : goal.invariant-loop-tx
invariant-loop-tx l = record {
  fit : AllByRecursion FitsBlock (drop l.tx-index l.txs);
  stands : (coins : List Coin) → HasOwnOutpoints l.initial.own l.script_hash.0 coins → (mid : List Coin) × HasOwnOutpoints l.own l.script_hash.0 mid
      × (l.found.items ++ listed_in l.script_hash.0 l.height (drop l.tx-index l.txs) mid ≡ l.initial.found.items ++ listed_in l.script_hash.0 l.height l.txs coins)
      × (coins_after_all l.height l.txs coins ≡ coins_after_all l.height (drop l.tx-index l.txs) mid);
}
