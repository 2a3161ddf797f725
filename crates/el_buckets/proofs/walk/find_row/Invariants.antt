use Rattle.std.proofs.Common.{◌≡◌, ◌<◌, ◌≤◌, ◌+◌, ◌^◌, List, length, take, None}
use Rattle.std.specs.Option.{ForSome}
use Rattle.el_chain.specs.Chains.{zero_hash}
use Rattle.el_base.specs.declared.hash.Hash32.{Hash32}
use Rattle.el_chain.specs.Headers.{same_hash}
use Rattle.el_row_formats.specs.RowBytes.{number_limit, link_number}
use Rattle.el_row_formats.specs.Tables.{size_of}
use Rattle.el_rows.specs.Transaction.{with_edits, reads_in}
use Rattle.el_rows.proofs.TransactionLemmas.{SoFar}
use Rattle.el_tables.specs.ChainLists.{ListedBlock}
use Rattle.el_tables.specs.Lists as lists
use Rattle.el_tables.specs.Tables.{HeadCounts}
use Rattle.el_schema.specs.Rows.{Hold}
use Rattle.el_buckets.specs.Buckets.{rows_table, heads_of, hashes_of, count_of, share_bucket, bucket_size}
use Rattle.el_buckets.proofs.Walks.{IsWalk, end_of}
use Rattle.el_buckets.proofs.walk.find_row.Given as goal

abbrev pub invariant-loop-link : goal.invariant-loop-link
invariant-loop-link g l =
    let shown = with_edits {G = g.R.Rows} l.fn.t in
    record {
      read : SoFar {G = g.R.Rows} l.fn.t l.t;
      below : ForSome l.link (λ n. n < length (shown (rows_table l.buckets)));
      fits : link_number l.link < number_limit;
      sized : length l.row ≡ size_of (rows_table l.buckets);
      idle : length (shown (heads_of l.buckets)) ≡ 0 → reads_in {G = g.R.Rows} l.t ≡ reads_in {G = g.R.Rows} l.fn.t;
      none : length (shown (heads_of l.buckets)) ≡ 0 → l.link ≡ None;
      walk : (counts : HeadCounts) (bs : List ListedBlock) (ls : lists.Lists) → g.R.Rows.tells → Hold counts bs ls shown → 0 < count_of l.buckets counts
          → IsWalk (λ (x : Hash32). same_hash x l.hash) (share_bucket (count_of l.buckets counts) l.hash) zero_hash (hashes_of l.buckets ls) l.link;
      rows : (counts : HeadCounts) (bs : List ListedBlock) (ls : lists.Lists) → g.R.Rows.tells → Hold counts bs ls shown → 0 < count_of l.buckets counts
          → reads_in {G = g.R.Rows} l.t + bucket_size (count_of l.buckets counts) l.hash (take (end_of l.link) (hashes_of l.buckets ls))
          ≤ reads_in {G = g.R.Rows} l.fn.t + 1 + bucket_size (count_of l.buckets counts) l.hash (hashes_of l.buckets ls);
    }

abbrev pub decreases-loop-link : goal.decreases-loop-link
decreases-loop-link g l = end_of l.link
