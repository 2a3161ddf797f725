use Rattle.std.proofs.Common.{inr}
use Rattle.std.proofs.lemmas.Result.{err_from_is_err_and}
use Rattle.el_chain.proofs.CoinSteps.{err_passed}
use Rattle.el_connect.proofs.FullLemmas.{full_next}
use Rattle.el_connect.proofs.TxLemmas.{counted_of}
use Rattle.el_connect.proofs.transaction.connect_tx.Goals as goal

pub returns-in-Ok-clause-connected : goal.returns-in-Ok-clause-connected
returns-in-Ok-clause-connected g c counts bs l told reached most between =
    c.put_tx.ensures.connected counts bs l told reached most between
    (counted_of c.args.height c.args.tx.now l c.in-Ok.ensures.block (c.in-Ok.ensures.tx counts bs l reached.hold) (c.in-Ok.ensures.outs counts bs l reached.hold) (c.in-Ok.ensures.ins counts bs l reached.hold))

pub returns-in-Ok-clause-refused : goal.returns-in-Ok-clause-refused
returns-in-Ok-clause-refused g c counts bs l told reached most between =
    c.put_tx.ensures.refused counts bs l told reached most between
    (counted_of c.args.height c.args.tx.now l c.in-Ok.ensures.block (c.in-Ok.ensures.tx counts bs l reached.hold) (c.in-Ok.ensures.outs counts bs l reached.hold) (c.in-Ok.ensures.ins counts bs l reached.hold))

pub returns-in_err-check_coins-in-Err-clause-refused : goal.returns-in_err-check_coins-in-Err-clause-refused
returns-in_err-check_coins-in-Err-clause-refused g c counts bs l told reached most between =
    let e = c.in_err-check_coins-in-Err.field-0.0 in
    err_passed c.from_residual.result _ e (err_from_is_err_and c.from_residual.result c.from_residual.ensures.1)
    (c.in_err-check_coins-in-Err.ensures.wrong counts bs l c.args.height told reached most between)

pub returns-in_ok-check_coins-in-Err-clause-refused : goal.returns-in_ok-check_coins-in-Err-clause-refused
returns-in_ok-check_coins-in-Err-clause-refused g c counts bs l told reached most between =
    let fine = c.in_ok-check_coins-in-Err.ensures.fine counts bs l c.args.height told reached most between in
    inr (inr (full_next c.args.height c.args.index c.args.tx.now l c.in-Err.full fine
    (c.in-Err.ensures.full counts bs l fine.lists reached.hold fine.txs fine.outs fine.ins)))
