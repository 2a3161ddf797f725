use Rattle.std.proofs.Common.{inr, ◌∙◌, get_or}
use Rattle.std.proofs.lemmas.Result.{err_from_is_err_and}
use Rattle.std.proofs.lemmas.List.{get_or_default}
use Rattle.el_chain.proofs.CoinSteps.{err_passed}
use Rattle.el_rows.proofs.TransactionLemmas.{more_edits}
use Rattle.el_rows.specs.Transaction.{with_edits}
use Rattle.el_connect.proofs.LoopLemmas.{fails, no_outpoint}
use Rattle.el_connect.proofs.FullLemmas.{takes_more, takes_stop, takes_fail, takes_done}
use Rattle.el_connect.proofs.coins.take_coins.Goals as goal

pub returns-in_err-take_coin-clause-missing : goal.returns-in_err-take_coin-clause-missing
returns-in_err-take_coin-clause-missing g c counts bs start before told hold some txs outs is few =
    let e = c.in_err-take_coin.field-0.0 in
    err_passed c.from_residual.result _ e (err_from_is_err_and c.from_residual.result c.from_residual.ensures.1)
    (fails e (takes_fail counts bs start before c.args.sum c.args.by c.args.inputs.now (with_edits {G = g.R.Rows} c.loop-input.t) c.loop-input.left c.loop-input.input e few c.loop-input-test.true
    (c.loop-input.invariant.taken counts bs start before told hold some txs outs is) (λ l at short. c.in_err-take_coin.ensures.refused counts bs l told at short)))

pub returns-in-None-clause-missing : goal.returns-in-None-clause-missing
returns-in-None-clause-missing g c counts bs start before told hold some txs outs is few =
    inr (inr (takes_stop counts bs start before c.args.sum c.args.by c.args.inputs.now (with_edits {G = g.R.Rows} c.loop-input.t) (with_edits {G = g.R.Rows} c.take_coin.new.t) c.loop-input.left c.loop-input.input
    c.args.index (get_or c.args.inputs.now c.loop-input.input no_outpoint) c.in_ok-take_coin.field-0 c.loop-input-test.true (get_or_default c.args.inputs.now c.loop-input.input no_outpoint _ c.loop-input-test.true)
    c.in-None.is (c.loop-input.invariant.taken counts bs start before told hold some txs outs is) (λ l at. c.in_ok-take_coin.ensures.taken counts bs l told at some)))

pub loop-input-preserved : goal.loop-input-preserved
loop-input-preserved g c = record {
  taken = λ counts bs start before told hold some txs outs is.
      takes_more counts bs start before c.args.sum c.args.by c.args.inputs.now (with_edits {G = g.R.Rows} c.loop-input.t) (with_edits {G = g.R.Rows} c.take_coin.new.t) c.loop-input.left
      c.saturating_sub-left.result c.loop-input.input c.in-Some.value (get_or c.args.inputs.now c.loop-input.input no_outpoint) c.in_ok-take_coin.field-0 c.loop-input-test.true
      (get_or_default c.args.inputs.now c.loop-input.input no_outpoint _ c.loop-input-test.true) c.in-Some.is c.saturating_sub-left.ensures
      (c.loop-input.invariant.taken counts bs start before told hold some txs outs is) (λ l at. c.in_ok-take_coin.ensures.taken counts bs l told at some);
  blocks = c.take_coin.ensures.blocks ∙ c.loop-input.invariant.blocks;
  edits = more_edits c.loop-input.invariant.edits c.in_ok-take_coin.ensures.edits;
}

pub returns-clause-taken : goal.returns-clause-taken
returns-clause-taken g c counts bs start before told hold some txs outs is =
    takes_done counts bs start before c.args.sum c.args.by c.args.inputs.now (with_edits {G = g.R.Rows} c.loop-input.t) c.loop-input.left c.loop-input.input c.loop-input.auto.input-end c.loop-input-test.false
    (c.loop-input.invariant.taken counts bs start before told hold some txs outs is)
