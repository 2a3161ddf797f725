use Rattle.std.proofs.Common.{◌≡◌, ◌<◌, ◌-◌, ◌||◌, List, length}
use Rattle.std.specs.List.{list_any}
use Rattle.el_base.specs.declared.hash.Hash32 as hash
use Rattle.el_chain.specs.Headers.{same_hash}
use Rattle.el_rows.specs.Transaction.{with_edits}
use Rattle.el_rows.proofs.TransactionLemmas.{SoFar}
use Rattle.el_tables.specs.ChainLists.{ListedBlock}
use Rattle.el_tables.specs.Lists.{Lists}
use Rattle.el_tables.specs.Tables.{HeadCounts, numbers_from}
use Rattle.el_schema.specs.Rows.{Hold}
use Rattle.el_queries.specs.within.LastBlock.{buries}
use Rattle.el_queries.proofs.buried.touch_all_buried.Given as goal

abbrev pub invariant-loop-tx : goal.invariant-loop-tx
invariant-loop-tx g l =
    let shown = with_edits {G = g.R.Rows} l.fn.t in
    record {
      read : SoFar {G = g.R.Rows} l.fn.t l.t;
      walk : (counts : HeadCounts) (bs : List ListedBlock) (ls : Lists) (s : hash.Hash32) → g.R.Rows.tells → Hold counts bs ls shown → 0 < counts.txs
          → (list_any (same_hash s) l.touched || list_any (buries s ls) (numbers_from l.tx (length ls.txs - l.tx)))
          ≡ (list_any (same_hash s) l.fn.touched || list_any (buries s ls) (numbers_from l.first (length ls.txs - l.first)));
    }
