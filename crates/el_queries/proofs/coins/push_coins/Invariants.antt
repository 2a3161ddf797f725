use Rattle.std.proofs.Common.{◌≡◌, ◌≤◌, ◌+◌, ◌++◌, List, drop, reverse}
use Rattle.el_rows.specs.Transaction.{with_edits, reads_in}
use Rattle.el_rows.proofs.TransactionLemmas.{SoFar}
use Rattle.el_tables.specs.ChainLists.{ListedBlock}
use Rattle.el_tables.specs.Lists.{Lists}
use Rattle.el_tables.specs.Tables.{HeadCounts}
use Rattle.el_schema.specs.Rows.{Hold, listed_tx}
use Rattle.el_queries.specs.within.Histories.{own_coins, outs_of_tx}
use Rattle.el_queries.proofs.coins.push_coins.Given as goal

abbrev pub invariant-loop-index : goal.invariant-loop-index
invariant-loop-index g l =
    let shown = with_edits {G = g.R.Rows} l.fn.t in
    record {
      read : SoFar {G = g.R.Rows} l.fn.t l.t;
      rows : reads_in {G = g.R.Rows} l.t + l.index ≤ reads_in {G = g.R.Rows} l.fn.t + (1 + l.row.outs);
      coins : (counts : HeadCounts) (bs : List ListedBlock) (ls : Lists) → g.R.Rows.tells → Hold counts bs ls shown
          → l.found.items ≡ l.fn.found.items ++ reverse (own_coins l.script.number l.script.row.script (listed_tx l.row) l.index (drop l.index (outs_of_tx (listed_tx l.row) ls.outs)));
    }
