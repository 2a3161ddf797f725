use Rattle.std.proofs.Common.{◌∙◌}
use Rattle.std.proofs.lemmas.Result.{err_from_is_err_and}
use Rattle.el_chain.proofs.CoinSteps.{err_passed}
use Rattle.el_rows.proofs.TransactionLemmas.{more_edits}
use Rattle.el_rows.specs.Transaction.{with_edits}
use Rattle.el_connect.proofs.TxLemmas.{small_here, small_after, txs_more, txs_refused, txs_done}
use Rattle.el_connect.proofs.transaction.connect_txs.Goals as goal

pub connect_tx-requires-clause-small : goal.connect_tx-requires-clause-small
connect_tx-requires-clause-small g c = small_here c.args.txs.now c.loop-index.index c.index-txs-index.result c.loop-index-test.true c.index-txs-index.is c.loop-index.invariant.small

pub returns-in_err-after-clause-refused : goal.returns-in_err-after-clause-refused
returns-in_err-after-clause-refused g c counts bs l told reached most between =
    let e = c.in_err-after.field-0.0 in
    err_passed c.from_residual.result _ e (err_from_is_err_and c.from_residual.result c.from_residual.ensures.1)
    (txs_refused counts bs l c.args.height c.args.txs.now (with_edits {G = g.R.Rows} c.loop-index.t) c.loop-index.after c.loop-index.index c.index-txs-index.result e c.loop-index-test.true c.index-txs-index.is
    (c.loop-index.invariant.led counts bs l told reached most between) (λ now at within here. c.in_err-after.ensures.refused counts bs now told at within here))

pub loop-index-preserved : goal.loop-index-preserved
loop-index-preserved g c = record {
  led = λ counts bs before told reached most between.
      txs_more counts bs before c.args.height c.args.txs.now (with_edits {G = g.R.Rows} c.loop-index.t) (with_edits {G = g.R.Rows} c.connect_tx.new.t) c.loop-index.after c.in_ok-after.after c.loop-index.index
      c.index-txs-index.result c.loop-index-test.true c.index-txs-index.is (c.loop-index.invariant.led counts bs before told reached most between)
      (λ now at within here. c.in_ok-after.ensures.connected counts bs now told at within here);
  small = small_after c.args.txs.now c.loop-index.index c.index-txs-index.result c.loop-index-test.true c.index-txs-index.is c.loop-index.invariant.small;
  blocks = c.connect_tx.ensures.blocks ∙ c.loop-index.invariant.blocks;
  edits = more_edits c.loop-index.invariant.edits c.in_ok-after.ensures.edits;
}

pub returns-clause-connected : goal.returns-clause-connected
returns-clause-connected g c counts bs l told reached most between =
    txs_done counts bs l c.args.height c.args.txs.now (with_edits {G = g.R.Rows} c.loop-index.t) c.loop-index.after c.loop-index.index c.loop-index-test.false
    (c.loop-index.invariant.led counts bs l told reached most between)
