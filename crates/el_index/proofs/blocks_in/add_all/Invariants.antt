use Rattle.std.proofs.Common.{◌≡◌, ◌≤◌, ◌+◌, ◌-◌, ℕ, length, drop}
use Rattle.el_chain.specs.Chains.{Chain, tip}
use Rattle.el_chain.specs.Headers.{AreLinked}
use Rattle.el_row_formats.specs.declared.table.Table.TheVariants as table
use Rattle.el_rows.specs.Transaction.{with_edits}
use Rattle.el_rows.proofs.TransactionLemmas.{EditedSoFar}
use Rattle.el_index.specs.Means.{AreRowsOf}
use Rattle.el_index.specs.within.Adding.{IsAdding}
use Rattle.el_index.proofs.blocks_in.add_all.Given as goal

abbrev pub invariant-loop-left : goal.invariant-loop-left
invariant-loop-left g l = record {
  edits : EditedSoFar {G = g.R.Rows} l.fn.t l.t;
  few : length l.left ≤ length l.texts;
  next : drop (length l.texts - length l.left) l.texts ≡ l.left;
  more : length (with_edits {G = g.R.Rows} l.t table.Blocks) ≡ length (with_edits {G = g.R.Rows} l.fn.t table.Blocks) + (length l.texts - length l.left);
  adding : (heads : ℕ) (chain : Chain) → g.R.Rows.tells → AreRowsOf heads (with_edits {G = g.R.Rows} l.fn.t) chain → AreLinked (tip chain) l.nodes
      → (blocks : Chain) × IsAdding heads chain l.nodes l.texts (length l.texts - length l.left) (with_edits {G = g.R.Rows} l.t) blocks;
}

abbrev pub decreases-loop-left : goal.decreases-loop-left
decreases-loop-left g l = length l.left
