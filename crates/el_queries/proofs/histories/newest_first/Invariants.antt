use Rattle.std.proofs.Common.{◌<◌, ◌≤◌, ◌+◌, List, length, take, filter, sum_by}
use Rattle.std.specs.Option.{ForSome}
use Rattle.el_rows.specs.Transaction.{with_edits, reads_in}
use Rattle.el_rows.proofs.TransactionLemmas.{SoFar}
use Rattle.el_row_formats.specs.declared.table.Table.TheVariants as table
use Rattle.el_tables.specs.ChainLists.{ListedBlock}
use Rattle.el_tables.specs.Fits.{Fits}
use Rattle.el_tables.specs.Lists.{ListedEntry, Lists, is_of_script, script_number}
use Rattle.el_tables.specs.Tables.{HeadCounts}
use Rattle.el_schema.specs.Rows.{Hold}
use Rattle.el_script.specs.Found.{HasHeads}
use Rattle.el_buckets.specs.Buckets.{bucket_size}
use Rattle.el_buckets.proofs.Walks.{end_of}
use Rattle.el_queries.specs.within.Histories.{shown_tx, entry_rows}
use Rattle.el_queries.proofs.EntryWalks.{IsGathered, no_entry}
use Rattle.el_queries.proofs.histories.newest_first.Given as goal

abbrev pub invariant-loop-link : goal.invariant-loop-link
invariant-loop-link g l =
    let shown = with_edits {G = g.R.Rows} l.fn.t in
    record {
      read : SoFar {G = g.R.Rows} l.fn.t l.t;
      within : ForSome l.link (λ n. n < length (shown table.Entries));
      walk : (counts : HeadCounts) (bs : List ListedBlock) (ls : Lists) → g.R.Rows.tells → Hold counts bs ls shown → HasHeads counts ls → Fits ls
          → IsGathered (is_of_script (script_number l.script_hash ls.scripts)) no_entry ls.entries (λ (e : ListedEntry). shown_tx ls.txs e.tx) l.link l.found.items;
      rows : (counts : HeadCounts) (bs : List ListedBlock) (ls : Lists) → g.R.Rows.tells → Hold counts bs ls shown → HasHeads counts ls → Fits ls
          → reads_in {G = g.R.Rows} l.t + sum_by entry_rows (filter (is_of_script (script_number l.script_hash ls.scripts)) (take (end_of l.link) ls.entries))
          ≤ reads_in {G = g.R.Rows} l.fn.t + (1 + bucket_size counts.scripts l.script_hash ls.scripts + sum_by entry_rows (filter (is_of_script (script_number l.script_hash ls.scripts)) ls.entries));
    }

abbrev pub decreases-loop-link : goal.decreases-loop-link
decreases-loop-link g l = end_of l.link
