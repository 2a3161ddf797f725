use Rattle.std.proofs.Common.{◌≡◌, ◌≢◌, ◌≤◌, List}
use Rattle.el_rows.specs.Transaction.{with_edits}
use Rattle.el_rows.proofs.TransactionLemmas.{EditedSoFar}
use Rattle.el_row_formats.specs.declared.table.Table.{Table}
use Rattle.el_row_formats.specs.declared.table.Table.TheVariants as table
use Rattle.el_tables.specs.ChainLists.{ListedBlock}
use Rattle.el_tables.specs.Fits.{IsNumbered}
use Rattle.el_tables.specs.Lists as lists
use Rattle.el_tables.specs.Tables.{HeadCounts}
use Rattle.el_schema.specs.Rows.{Hold}
use Rattle.el_undo.proofs.Entries.{IsBack}
use Rattle.el_undo.proofs.parts.undo_entries.Given as goal

-- what is left to take back completes the whole
abbrev pub invariant-loop-done : goal.invariant-loop-done
invariant-loop-done g l =
    let shown = with_edits {G = g.R.Rows} l.fn.t in
    record {
      lists : (counts : HeadCounts) (bs : List ListedBlock) (ls : lists.Lists) → g.R.Rows.tells → Hold counts bs ls shown → IsNumbered ls.scripts ls.entries
          → IsBack counts bs l.most l.done l.tx ls (with_edits {G = g.R.Rows} l.t);
      others : (u : Table) → u ≢ table.Scripts → u ≢ table.ScriptHeads → u ≢ table.Entries → with_edits {G = g.R.Rows} l.t u ≡ shown u;
      edits : EditedSoFar {G = g.R.Rows} l.fn.t l.t;
      within : l.done ≤ l.most;
    }
