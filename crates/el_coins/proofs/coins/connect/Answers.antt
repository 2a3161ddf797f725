use Rattle.std.proofs.Common.{◌++◌, sym, length-append}
use Rattle.std.proofs.lemmas.Result.{err_from_is_err_and}
use Rattle.el_coins.proofs.CoinSteps.{fits_after}
use Rattle.el_chain.proofs.CoinSteps.{err_passed}
use Rattle.el_coins.proofs.Connecting.{connecting_begins, connecting_more, next_counted, rows_stop}
use Rattle.el_coins.proofs.coins.connect.Goals as goal

pub loop-index-init : goal.loop-index-init
loop-index-init c = record {
  bound = c.requires.money;
  few = c.requires.few;
  fit = c.requires.fit;
  stands = connecting_begins c.args.base.now c.args.changes.now c.args.tally.now (c.args.blocks.now ++ c.args.fresh.now) c.args.txs.now c.requires.stands c.requires.counted;
}

pub returns-in_err-check_rows-clause-fault : goal.returns-in_err-check_rows-clause-fault
returns-in_err-check_rows-clause-fault c =
    let m = c.loop-index.invariant.stands in
    let t = c.index-txs-index.result in
    let chain = c.args.blocks.now ++ c.args.fresh.now in
    let counts = next_counted c.args.base.now c.loop-index.changes c.loop-index.tally c.count_tx.new.tally chain c.args.txs.now c.loop-index.index t m c.loop-index-test.true c.index-txs-index.is
    c.count_tx.ensures.txs c.count_tx.ensures.outputs c.count_tx.ensures.inputs in
    let stop = rows_stop c.args.base.now c.loop-index.changes c.loop-index.tally chain c.args.txs.now c.loop-index.index _ t m c.in_err-check_rows.field-0.0
    (sym (length-append c.args.blocks.now c.args.fresh.now)) c.loop-index-test.true c.index-txs-index.is (c.in_ok-connect_tx.ensures.none m.mid m.stands)
    (c.in_err-check_rows.ensures.fault _ counts.counted counts.met) in
    err_passed c.from_residual-in_err-check_rows.result _ c.in_err-check_rows.field-0.0
    (err_from_is_err_and c.from_residual-in_err-check_rows.result c.from_residual-in_err-check_rows.ensures.1) stop

pub loop-index-preserved : goal.loop-index-preserved
loop-index-preserved c = record {
  bound = c.in_ok-connect_tx.ensures.bound;
  few = c.in_ok-check_rows.ensures.few;
  fit = fits_after c.args.txs.now c.loop-index.index c.index-txs-index.result c.loop-index-test.true c.index-txs-index.is c.loop-index.invariant.fit;
  stands =
      let m = c.loop-index.invariant.stands in
      let t = c.index-txs-index.result in
      let chain = c.args.blocks.now ++ c.args.fresh.now in
      let counts = next_counted c.args.base.now c.loop-index.changes c.loop-index.tally c.count_tx.new.tally chain c.args.txs.now c.loop-index.index t m c.loop-index-test.true c.index-txs-index.is
      c.count_tx.ensures.txs c.count_tx.ensures.outputs c.count_tx.ensures.inputs in
      connecting_more c.args.base.now c.loop-index.changes c.connect_tx.new.changes c.loop-index.tally c.count_tx.new.tally chain c.args.txs.now c.loop-index.index _ t m
      (sym (length-append c.args.blocks.now c.args.fresh.now)) c.loop-index-test.true c.index-txs-index.is counts (c.in_ok-connect_tx.ensures.none m.mid m.stands)
      (c.in_ok-check_rows.ensures.none _ counts.counted counts.met) (c.in_ok-connect_tx.ensures.after m.mid m.stands);
}
