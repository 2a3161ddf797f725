use Rattle.std.proofs.Common.{◌∙◌, subst, arith}
use Rattle.el_rows.proofs.TransactionLemmas.{more_edits}
use Rattle.el_rows.specs.Transaction.{with_edits}
use Rattle.el_tables.specs.Disconnecting.{times, disconnect_tx}
use Rattle.el_tables.specs.Lists.{Lists}
use Rattle.el_schema.specs.Rows.{Hold}
use Rattle.el_undo.proofs.Entries.{times_on}
use Rattle.el_undo.proofs.transaction.disconnect_txs.Goals as goal

pub loop-done-preserved : goal.loop-done-preserved
loop-done-preserved g c = record {
  lists = λ counts bs l can told hold some.
      let n = c.loop-done.done in
      let before = c.loop-done.invariant.lists counts bs l can told hold some in
      subst (λ (x : Lists). Hold counts bs x (with_edits {G = g.R.Rows} c.disconnect_tx.new.t)) (times_on n disconnect_tx l)
      (c.in_ok-disconnect_tx.ensures.lists counts bs (times n disconnect_tx l) (can n (omega (arith, c.loop-done-test.true))) told before some);
  blocks = c.disconnect_tx.ensures.blocks ∙ c.loop-done.invariant.blocks;
  edits = more_edits c.loop-done.invariant.edits c.in_ok-disconnect_tx.ensures.edits;
  within = omega (arith, c.loop-done-test.true);
}
