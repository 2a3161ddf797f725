use Rattle.std.proofs.Common.{◌≡◌, ◌+◌, ◌≤◌}
use Rattle.indexmap.specs.IndexMap.{values}
use Rattle.el_tx.specs.Encoding.{max_money}
use Rattle.el_coins.specs.within.Balances.{own_values}
use Rattle.el_coins.proofs.balance.balance_of.Given as goal

-- what was added, and what is left
abbrev pub invariant-loop-coin : goal.invariant-loop-coin
invariant-loop-coin l = record {
  sum : l.total + own_values l.script_hash.0 l.coin-iterator ≡ own_values l.script_hash.0 (values l.table.map);
  few : own_values l.script_hash.0 (values l.table.map) ≤ max_money;
}
