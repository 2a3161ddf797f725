use Rattle.std.proofs.Common.{◌≡◌, ◌≤◌, List, drop}
use Rattle.std.specs.List.{AllByRecursion}
use Rattle.el_tx.specs.Encoding.{max_money}
use Rattle.el_rows.specs.Transaction.{with_edits}
use Rattle.el_rows.proofs.TransactionLemmas.{EditedSoFar}
use Rattle.el_row_formats.specs.declared.table.Table.TheVariants as table
use Rattle.el_tables.specs.ChainLists.{ListedBlock}
use Rattle.el_tables.specs.Lists.{Lists}
use Rattle.el_tables.specs.Tables.{HeadCounts}
use Rattle.el_connect.specs.within.Parts.{Reached, IsBetweenTxs, IsSmall, LeadingOn, connect_all}
use Rattle.el_connect.proofs.transaction.connect_txs.Given as goal

-- the transactions that are left complete the whole
abbrev pub invariant-loop-index : goal.invariant-loop-index
invariant-loop-index g l =
    let shown = with_edits {G = g.R.Rows} l.fn.t in
    record {
      led : (counts : HeadCounts) (bs : List ListedBlock) (before : Lists) → g.R.Rows.tells → Reached counts bs before shown l.fn.sum → l.fn.sum ≤ max_money → IsBetweenTxs before
          → LeadingOn counts bs (with_edits {G = g.R.Rows} l.t) l.after
          (λ now. connect_all l.height 0 l.txs before ≡ connect_all l.height l.index (drop l.index l.txs) now);
      small : AllByRecursion IsSmall (drop l.index l.txs);
      blocks : with_edits {G = g.R.Rows} l.t table.Blocks ≡ shown table.Blocks;
      edits : EditedSoFar {G = g.R.Rows} l.fn.t l.t;
    }
