use Rattle.std.proofs.Common.{◌≡◌, ◌++◌, List, drop}
use Rattle.std.specs.List.{AllByRecursion}
use Rattle.el_chain.specs.declared.coin.Coin.{Coin}
use Rattle.el_plain.specs.within.CoinTables.{HasOwnOutpoints}
use Rattle.el_coins.specs.CoinTables.{HasFitting}
use Rattle.el_chain.specs.History.{history}
use Rattle.el_chain.specs.Listings.{listed_from}
use Rattle.el_plain.proofs.history.history_of.Given as goal

-- what was found, and what the blocks that are left add
abbrev pub invariant-loop-height : goal.invariant-loop-height
invariant-loop-height l = record {
  fit : AllByRecursion HasFitting (drop l.height l.blocks);
  stands : (mid : List Coin) × HasOwnOutpoints l.own l.script_hash.0 mid × (l.found.items ++ listed_from l.script_hash.0 l.height (drop l.height l.blocks) mid ≡ history l.blocks l.script_hash.0);
}
