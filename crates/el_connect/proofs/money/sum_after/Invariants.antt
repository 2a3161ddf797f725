use Rattle.std.proofs.Common.{◌≡◌, ◌<◌, ◌+◌, ◌^◌, List, length}
use Rattle.el_rows.specs.Transaction.{with_edits}
use Rattle.el_rows.proofs.TransactionLemmas.{SoFar}
use Rattle.el_tables.specs.ChainLists.{ListedBlock}
use Rattle.el_tables.specs.Lists.{Lists, unspent_sum}
use Rattle.el_tables.specs.Tables.{HeadCounts}
use Rattle.el_schema.specs.Rows.{Hold}
use Rattle.el_connect.specs.within.Parts.{OutsInTurn, values}
use Rattle.el_connect.specs.within.Full.{IsNextTx}
use Rattle.el_connect.proofs.MoneyLemmas.{Counting}
use Rattle.el_connect.proofs.money.sum_after.Given as goal

-- the first outputs are counted
abbrev pub invariant-loop-index : goal.invariant-loop-index
invariant-loop-index g l = record {
  counted : (counts : HeadCounts) (bs : List ListedBlock) (x next : Lists) → g.R.Rows.tells → Hold counts bs x (with_edits {G = g.R.Rows} l.fn.t) → 0 < counts.txs
      → (turn : OutsInTurn 0 x.txs (length x.outs)) → (is_next : IsNextTx x next l.number l.txid) → l.left ≡ unspent_sum x.outs → l.left + values l.outputs < 2 ^ 64
      → Counting x next l.number l.txid turn is_next l.outputs l.after l.index;
  read : SoFar {G = g.R.Rows} l.fn.t l.t;
}
