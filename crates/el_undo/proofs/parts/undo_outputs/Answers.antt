use Rattle.std.proofs.Common.{◌∙◌, ◌+◌, subst, sym, arith}
use Rattle.el_rows.proofs.TransactionLemmas.{more_edits}
use Rattle.el_rows.specs.Transaction.{with_edits}
use Rattle.el_tables.specs.Disconnecting.{times, take_back_output}
use Rattle.el_tables.specs.Lists.{Lists}
use Rattle.el_schema.specs.Rows.{Hold}
use Rattle.el_spend.specs.Outputs.{BalancesFit}
use Rattle.el_undo.proofs.Entries.{times_on}
use Rattle.el_undo.proofs.parts.undo_outputs.Goals as goal

pub loop-done-preserved : goal.loop-done-preserved
loop-done-preserved g c = record {
  lists = λ counts bs l told hold some fit.
      let n = c.loop-done.done in
      let before = c.loop-done.invariant.lists counts bs l told hold some fit in
      let one = times_on n take_back_output l in
      let fits = subst (λ (x : Lists). BalancesFit x.outs) (sym one) (fit (n + 1) (omega (arith, c.loop-done-test.true))) in
      subst (λ (x : Lists). Hold counts bs x (with_edits {G = g.R.Rows} c.take_back_out.new.t)) one
      (c.in_ok-take_back_out.ensures.lists counts bs (times n take_back_output l) told before some fits);
  others = λ u a b. c.take_back_out.ensures.others u a b ∙ c.loop-done.invariant.others u a b;
  edits = more_edits c.loop-done.invariant.edits c.in_ok-take_back_out.ensures.edits;
  within = omega (arith, c.loop-done-test.true);
}
