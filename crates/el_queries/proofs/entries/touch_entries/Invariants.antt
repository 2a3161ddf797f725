use Rattle.std.proofs.Common.{◌≡◌, ◌≤◌, ◌||◌, ◌++◌, List, length}
use Rattle.std.specs.List.{list_any}
use Rattle.el_base.specs.declared.hash.Hash32 as hash
use Rattle.el_chain.specs.Headers.{same_hash}
use Rattle.el_rows.specs.Transaction.{with_edits}
use Rattle.el_rows.proofs.TransactionLemmas.{SoFar}
use Rattle.el_row_formats.specs.declared.table.Table.TheVariants as table
use Rattle.el_tables.specs.ChainLists.{ListedBlock}
use Rattle.el_tables.specs.Lists.{Lists, ListedEntry}
use Rattle.el_tables.specs.Tables.{HeadCounts}
use Rattle.el_schema.specs.Rows.{Hold}
use Rattle.el_queries.specs.within.LastBlock.{is_entry_of_script, AreLast}
use Rattle.el_queries.proofs.Walks.{EntriesLeft}
use Rattle.el_queries.proofs.entries.touch_entries.Given as goal

abbrev pub invariant-loop-n : goal.invariant-loop-n
invariant-loop-n g l =
    let shown = with_edits {G = g.R.Rows} l.fn.t in
    record {
      read : SoFar {G = g.R.Rows} l.fn.t l.t;
      within : l.n ≤ length (shown table.Entries);
      walk : (counts : HeadCounts) (bs : List ListedBlock) (ls : Lists) (s : hash.Hash32) (before own : List ListedEntry) → g.R.Rows.tells → Hold counts bs ls shown
          → ls.entries ≡ before ++ own → AreLast l.first before own → length before ≤ l.since
          → EntriesLeft (is_entry_of_script s ls) before own l.n (list_any (same_hash s) l.touched) (list_any (same_hash s) l.fn.touched || list_any (is_entry_of_script s ls) own);
    }

abbrev pub decreases-loop-n : goal.decreases-loop-n
decreases-loop-n g l = l.n
