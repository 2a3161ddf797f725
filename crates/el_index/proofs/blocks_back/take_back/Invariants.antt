use Rattle.std.proofs.Common.{◌≡◌, ◌≤◌, ◌-◌, ℕ, length, drop}
use Rattle.el_chain.specs.Chains.{Chain}
use Rattle.el_chain.specs.Moves.{shorter}
use Rattle.el_row_formats.specs.declared.table.Table.TheVariants as table
use Rattle.el_rows.specs.Transaction.{with_edits}
use Rattle.el_rows.proofs.TransactionLemmas.{EditedSoFar}
use Rattle.el_index.specs.Means.{AreRowsOf}
use Rattle.el_index.specs.within.Adding.{AreAdded}
use Rattle.el_index.proofs.blocks_back.take_back.Given as goal

abbrev pub invariant-loop : goal.invariant-loop
invariant-loop g l = record {
  edits : EditedSoFar {G = g.R.Rows} l.fn.t l.t;
  fewer : length (with_edits {G = g.R.Rows} l.t table.Blocks) ≡ length (with_edits {G = g.R.Rows} l.fn.t table.Blocks) - l.counter;
  back : (heads : ℕ) (chain : Chain) → g.R.Rows.tells → AreRowsOf heads (with_edits {G = g.R.Rows} l.fn.t) chain → l.back ≤ length chain
      → AreRowsOf heads (with_edits {G = g.R.Rows} l.t) (shorter l.counter chain);
  touched : (heads : ℕ) (chain : Chain) → g.R.Rows.tells → AreRowsOf heads (with_edits {G = g.R.Rows} l.fn.t) chain → l.back ≤ length chain
      → AreAdded (shorter l.counter chain) (drop (length chain - l.counter) chain) l.fn.touched l.touched;
}
