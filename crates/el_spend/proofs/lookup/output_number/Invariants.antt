use Rattle.std.proofs.Common.{◌≡◌, ◌<◌, ◌≤◌, ◌+◌, List, length, map, take, None}
use Rattle.std.specs.Option.{ForSome}
use Rattle.el_rows.specs.Transaction.{with_edits, reads_in}
use Rattle.el_rows.proofs.TransactionLemmas.{SoFar}
use Rattle.el_row_formats.specs.declared.table.Table.TheVariants as table
use Rattle.el_tables.specs.ChainLists.{ListedBlock}
use Rattle.el_tables.specs.Lists as lists
use Rattle.el_tables.specs.Tables.{HeadCounts}
use Rattle.el_buckets.specs.Buckets.{bucket_size}
use Rattle.el_schema.specs.Rows.{Hold}
use Rattle.el_schema.proofs.Held.{no_tx}
use Rattle.el_buckets.proofs.Walks.{end_of}
use Rattle.el_spend.specs.Outputs.{txs_with}
use Rattle.el_spend.proofs.OlderWalks.{IsOlder}
use Rattle.el_spend.proofs.lookup.output_number.Given as goal

abbrev pub invariant-loop-link : goal.invariant-loop-link
invariant-loop-link g l =
    let shown = with_edits {G = g.R.Rows} l.fn.t in
    record {
      read : SoFar {G = g.R.Rows} l.fn.t l.t;
      within : ForSome l.link (λ n. n < length (shown table.Txs));
      none : length (shown table.TxHeads) ≡ 0 → l.link ≡ None;
      walk : (counts : HeadCounts) (bs : List ListedBlock) (ls : lists.Lists) → g.R.Rows.tells → Hold counts bs ls shown → 0 < counts.txs
          → IsOlder (record { txid = l.txid; index = l.index }) l.below no_tx ls.txs l.link;
      rows : (counts : HeadCounts) (bs : List ListedBlock) (ls : lists.Lists) → g.R.Rows.tells → Hold counts bs ls shown → 0 < counts.txs
          → reads_in {G = g.R.Rows} l.t + txs_with l.txid (take (end_of l.link) ls.txs)
          ≤ reads_in {G = g.R.Rows} l.fn.t + (1 + bucket_size counts.txs l.txid (map (λ (x : lists.ListedTx). x.txid) ls.txs) + txs_with l.txid ls.txs);
    }

abbrev pub decreases-loop-link : goal.decreases-loop-link
decreases-loop-link g l = end_of l.link
