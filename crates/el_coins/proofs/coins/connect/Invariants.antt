use Rattle.std.proofs.Common.{◌≤◌, ◌++◌, drop}
use Rattle.std.specs.List.{AllByRecursion}
use Rattle.el_tx.specs.Encoding.{max_money}
use Rattle.el_chain.specs.CoinLists.{FitsBlock}
use Rattle.el_coins.specs.Tallies.{AreFew}
use Rattle.el_coins.proofs.Connecting.{Connecting}
use Rattle.el_coins.proofs.coins.connect.Given as goal

-- The transactions before have no fault and were counted, and those that are left go on with what is there.
abbrev pub invariant-loop-index : goal.invariant-loop-index
invariant-loop-index l = record {
  bound : l.changes.supply ≤ max_money;
  few : AreFew l.tally;
  fit : AllByRecursion FitsBlock (drop l.index l.txs);
  stands : Connecting l.base l.changes l.tally (l.blocks ++ l.fresh) l.txs l.index;
}
