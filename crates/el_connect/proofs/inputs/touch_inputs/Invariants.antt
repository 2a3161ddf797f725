use Rattle.std.proofs.Common.{◌≡◌, ℕ, List, length, drop}
use Rattle.el_rows.specs.Transaction.{with_edits}
use Rattle.el_rows.proofs.TransactionLemmas.{EditedSoFar}
use Rattle.el_row_formats.specs.declared.table.Table.TheVariants as table
use Rattle.el_tables.specs.ChainLists.{ListedBlock}
use Rattle.el_tables.specs.Lists.{Lists}
use Rattle.el_tables.specs.Tables.{HeadCounts}
use Rattle.el_connect.specs.within.Parts.{Reached, HasRoomFor, TouchingOn, touch_coins}
use Rattle.el_connect.proofs.inputs.touch_inputs.Given as goal

-- the coins that are left complete the whole
abbrev pub invariant-loop-input : goal.invariant-loop-input
invariant-loop-input g l =
    let shown = with_edits {G = g.R.Rows} l.fn.t in
    record {
      touched : (counts : HeadCounts) (bs : List ListedBlock) (before : Lists) (coins : List ℕ) (sum k : ℕ) → g.R.Rows.tells → Reached counts bs before shown sum → HasRoomFor before 0 k
          → drop l.first before.ins ≡ coins → length coins ≡ l.count
          → TouchingOn counts bs (with_edits {G = g.R.Rows} l.t) sum before k (λ now. touch_coins l.by coins before ≡ touch_coins l.by (drop l.input coins) now);
      blocks : with_edits {G = g.R.Rows} l.t table.Blocks ≡ shown table.Blocks;
      edits : EditedSoFar {G = g.R.Rows} l.fn.t l.t;
    }
