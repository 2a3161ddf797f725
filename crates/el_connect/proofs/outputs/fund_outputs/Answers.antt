use Rattle.std.proofs.Common.{◌∙◌, get_or}
use Rattle.std.proofs.lemmas.Result.{err_from_is_err_and}
use Rattle.std.proofs.lemmas.List.{get_or_default}
use Rattle.el_chain.proofs.CoinSteps.{err_passed}
use Rattle.el_rows.proofs.TransactionLemmas.{more_edits}
use Rattle.el_rows.specs.Transaction.{with_edits}
use Rattle.el_connect.proofs.LoopLemmas.{no_output, outputs_more, outputs_fail, outputs_done, outputs_room}
use Rattle.el_connect.proofs.outputs.fund_outputs.Goals as goal

pub returns-in_err-after-clause-refused : goal.returns-in_err-after-clause-refused
returns-in_err-after-clause-refused g c counts bs l told reached is room fit few =
    let e = c.in_err-after.field-0.0 in
    err_passed c.from_residual.result _ e (err_from_is_err_and c.from_residual.result c.from_residual.ensures.1)
    (outputs_fail counts bs l c.args.maker.now c.args.outputs.now (with_edits {G = g.R.Rows} c.loop-index.t) c.loop-index.after c.loop-index.index (get_or c.args.outputs.now c.loop-index.index no_output) e
    c.loop-index-test.true (get_or_default c.args.outputs.now c.loop-index.index no_output _ c.loop-index-test.true)
    (c.loop-index.invariant.funded counts bs l told reached is room fit) few (λ now k at has short. c.in_err-after.ensures.refused counts bs now k told at has short))

pub loop-index-preserved : goal.loop-index-preserved
loop-index-preserved g c = record {
  funded = λ counts bs before told reached is room fit.
      outputs_more counts bs before c.args.maker.now c.args.outputs.now (with_edits {G = g.R.Rows} c.loop-index.t) (with_edits {G = g.R.Rows} c.fund_output.new.t) c.loop-index.after c.in_ok-after.after
      c.loop-index.index (get_or c.args.outputs.now c.loop-index.index no_output) c.loop-index-test.true (get_or_default c.args.outputs.now c.loop-index.index no_output _ c.loop-index-test.true) is
      (c.loop-index.invariant.funded counts bs before told reached is room fit) (λ now at maker more. c.in_ok-after.ensures.funded counts bs now told at maker more)
      (λ now k at has. c.in_ok-after.ensures.room counts bs now k told at has);
  blocks = c.fund_output.ensures.blocks ∙ c.loop-index.invariant.blocks;
  edits = more_edits c.loop-index.invariant.edits c.in_ok-after.ensures.edits;
}

pub returns-clause-funded : goal.returns-clause-funded
returns-clause-funded g c counts bs l told reached is room fit =
    outputs_done counts bs l c.args.maker.now c.args.outputs.now (with_edits {G = g.R.Rows} c.loop-index.t) c.loop-index.after c.loop-index.index c.loop-index-test.false
    (c.loop-index.invariant.funded counts bs l told reached is room fit)

pub returns-clause-room : goal.returns-clause-room
returns-clause-room g c counts bs l told reached is room fit =
    outputs_room counts bs l c.args.maker.now c.args.outputs.now (with_edits {G = g.R.Rows} c.loop-index.t) c.loop-index.after c.loop-index.index c.loop-index-test.false
    (c.loop-index.invariant.funded counts bs l told reached is room fit)
