use Rattle.std.proofs.Common.{◌≡◌, ◌<◌, ◌-◌, ◌||◌, ℕ, List}
use Rattle.std.specs.List.{list_any}
use Rattle.el_base.specs.declared.hash.Hash32 as hash
use Rattle.el_chain.specs.Headers.{same_hash}
use Rattle.el_rows.specs.Transaction.{with_edits}
use Rattle.el_rows.proofs.TransactionLemmas.{SoFar}
use Rattle.el_tables.specs.ChainLists.{ListedBlock}
use Rattle.el_tables.specs.Lists.{Lists}
use Rattle.el_tables.specs.Tables.{HeadCounts, numbers_from}
use Rattle.el_schema.specs.Rows.{Hold}
use Rattle.el_queries.specs.within.LastBlock.{buries_at}
use Rattle.el_queries.proofs.buried.touch_buried.Given as goal

abbrev pub invariant-loop-index : goal.invariant-loop-index
invariant-loop-index g l =
    let shown = with_edits {G = g.R.Rows} l.fn.t in
    record {
      read : SoFar {G = g.R.Rows} l.fn.t l.t;
      walk : (counts : HeadCounts) (bs : List ListedBlock) (ls : Lists) (s : hash.Hash32) → g.R.Rows.tells → Hold counts bs ls shown → 0 < counts.txs
          → (list_any (same_hash s) l.touched || list_any (λ (i : ℕ). buries_at s l.tx ls (record { txid = l.row.txid; index = i })) (numbers_from l.index (l.outs - l.index)))
          ≡ (list_any (same_hash s) l.fn.touched || list_any (λ (i : ℕ). buries_at s l.tx ls (record { txid = l.row.txid; index = i })) (numbers_from 0 l.outs));
    }
