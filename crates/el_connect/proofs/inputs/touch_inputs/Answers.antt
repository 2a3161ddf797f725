use Rattle.std.proofs.Common.{◌<◌, ◌≤◌, ◌∙◌, arith, length}
use Rattle.std.proofs.lemmas.Result.{err_from_is_err_and}
use Rattle.el_chain.proofs.CoinSteps.{err_passed}
use Rattle.el_rows.proofs.TransactionLemmas.{more_edits}
use Rattle.el_rows.specs.Transaction.{with_edits}
use Rattle.el_connect.proofs.LoopLemmas.{touches_more, touches_fail, touches_done}
use Rattle.el_connect.proofs.inputs.touch_inputs.Goals as goal

pub returns-in_err-touch_coin-clause-refused : goal.returns-in_err-touch_coin-clause-refused
returns-in_err-touch_coin-clause-refused g c counts bs l coins sum k told reached room left many few =
    let e = c.in_err-touch_coin.field-0.0 in
    let lt : c.loop-input.input < length coins = omega (arith, many, c.loop-input-test.true) in
    err_passed c.from_residual.result _ e (err_from_is_err_and c.from_residual.result c.from_residual.ensures.1)
    (touches_fail counts bs l c.args.by k c.args.first sum coins left (with_edits {G = g.R.Rows} c.loop-input.t) c.loop-input.input e lt
    (c.loop-input.invariant.touched counts bs l coins sum k told reached room left many) few
    (λ now at short. c.in_err-touch_coin.ensures.refused counts bs now sum told at short))

pub loop-input-preserved : goal.loop-input-preserved
loop-input-preserved g c = record {
  touched = λ counts bs before coins sum k told reached room left many.
      let lt : c.loop-input.input < length coins = omega (arith, many, c.loop-input-test.true) in
      touches_more counts bs before c.args.by k c.args.first sum coins left (with_edits {G = g.R.Rows} c.loop-input.t) (with_edits {G = g.R.Rows} c.touch_coin.new.t) c.loop-input.input lt
      (c.loop-input.invariant.touched counts bs before coins sum k told reached room left many)
      (λ now at. c.in_ok-touch_coin.ensures.touched counts bs now sum told at)
      (λ now at has. c.in_ok-touch_coin.ensures.room counts bs now sum k told at has);
  blocks = c.touch_coin.ensures.blocks ∙ c.loop-input.invariant.blocks;
  edits = more_edits c.loop-input.invariant.edits c.in_ok-touch_coin.ensures.edits;
}

pub returns-clause-touched : goal.returns-clause-touched
returns-clause-touched g c counts bs l coins sum k told reached room left many =
    let le : length coins ≤ c.loop-input.input = omega (arith, many, c.loop-input-test.false) in
    touches_done counts bs l c.args.by k c.args.first sum coins left (with_edits {G = g.R.Rows} c.loop-input.t) c.loop-input.input le
    (c.loop-input.invariant.touched counts bs l coins sum k told reached room left many)
