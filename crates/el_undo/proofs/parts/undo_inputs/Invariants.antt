use Rattle.std.proofs.Common.{◌≡◌, ◌≢◌, ◌≤◌, List}
use Rattle.el_rows.specs.Transaction.{with_edits}
use Rattle.el_rows.proofs.TransactionLemmas.{EditedSoFar}
use Rattle.el_row_formats.specs.declared.table.Table.{Table}
use Rattle.el_row_formats.specs.declared.table.Table.TheVariants as table
use Rattle.el_tables.specs.ChainLists.{ListedBlock}
use Rattle.el_tables.specs.Disconnecting.{times, unspend}
use Rattle.el_tables.specs.Lists as lists
use Rattle.el_tables.specs.Tables.{HeadCounts}
use Rattle.el_schema.specs.Rows.{Hold}
use Rattle.el_undo.specs.within.Undone.{FitAfter}
use Rattle.el_undo.proofs.parts.undo_inputs.Given as goal

-- so many were taken back
abbrev pub invariant-loop-done : goal.invariant-loop-done
invariant-loop-done g l =
    let shown = with_edits {G = g.R.Rows} l.fn.t in
    record {
      lists : (counts : HeadCounts) (bs : List ListedBlock) (ls : lists.Lists) → g.R.Rows.tells → Hold counts bs ls shown
          → FitAfter l.count unspend ls → Hold counts bs (times l.done unspend ls) (with_edits {G = g.R.Rows} l.t);
      others : (u : Table) → u ≢ table.Outs → u ≢ table.Ins → u ≢ table.Scripts → with_edits {G = g.R.Rows} l.t u ≡ shown u;
      edits : EditedSoFar {G = g.R.Rows} l.fn.t l.t;
      within : l.done ≤ l.count;
    }
