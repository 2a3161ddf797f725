use Rattle.std.proofs.Common.{◌≡◌, ◌<◌, ◌+◌, ◌-◌, ◌^◌, List, length, drop}
use Rattle.el_rows.specs.Transaction.{with_edits}
use Rattle.el_rows.proofs.TransactionLemmas.{EditedSoFar}
use Rattle.el_row_formats.specs.declared.table.Table.TheVariants as table
use Rattle.el_tables.specs.ChainLists.{ListedBlock}
use Rattle.el_tables.specs.Connecting.{fund_all}
use Rattle.el_tables.specs.Lists.{Lists, unspent_sum}
use Rattle.el_tables.specs.Tables.{HeadCounts}
use Rattle.el_connect.specs.within.Parts.{Reached, HasRoomFor, IsMaker, values, FundingOn}
use Rattle.el_connect.proofs.outputs.fund_outputs.Given as goal

-- the outputs that are left complete the whole
abbrev pub invariant-loop-index : goal.invariant-loop-index
invariant-loop-index g l =
    let shown = with_edits {G = g.R.Rows} l.fn.t in
    record {
      funded : (counts : HeadCounts) (bs : List ListedBlock) (before : Lists) → g.R.Rows.tells → Reached counts bs before shown l.fn.sum → IsMaker l.maker before
          → HasRoomFor before 0 (length l.outputs) → unspent_sum before.outs + values l.outputs < 2 ^ 64
          → FundingOn counts bs (with_edits {G = g.R.Rows} l.t) l.after before.txs (length l.outputs - l.index) (values (drop l.index l.outputs))
          (λ now. fund_all l.maker.number 0 l.outputs before ≡ fund_all l.maker.number l.index (drop l.index l.outputs) now);
      blocks : with_edits {G = g.R.Rows} l.t table.Blocks ≡ shown table.Blocks;
      edits : EditedSoFar {G = g.R.Rows} l.fn.t l.t;
    }
