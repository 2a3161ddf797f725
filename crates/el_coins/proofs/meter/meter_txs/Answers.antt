use Rattle.std.proofs.Common.{◌∙◌, ◌++◌, ◌∷◌, [], arith, append-nil, sym}
use Rattle.std.proofs.lemmas.List.{drop_all}
use Rattle.el_chain.specs.Coins.{coins_after}
use Rattle.el_coins.specs.within.Meters.{met_by}
use Rattle.el_coins.proofs.CoinSteps.{fits_after}
use Rattle.el_coins.proofs.Histories.{after_step}
use Rattle.el_coins.proofs.Meters.{met_step, ended}
use Rattle.el_coins.proofs.meter.meter_txs.Goals as goal

pub loop-tx-preserved : goal.loop-tx-preserved
loop-tx-preserved c = record {
  fit = fits_after c.args.txs.now c.loop-tx.tx-index c.tx-item.result c.loop-tx-test.true c.tx-item.is c.loop-tx.invariant.fit;
  stands = λ height lists coins h.
      let m = c.loop-tx.invariant.stands height lists coins h in
      let t = c.tx-item.result in
      let lt = c.loop-tx-test.true in (
        m.0 ++ met_by m.1 t ∷ [],
        coins_after height t m.1,
        c.in_ok-meter_tx.ensures height m.0 m.1 m.2,
        met_step height c.loop-tx.tx-index c.args.txs.now t m.1 m.0 _ lt c.tx-item.is m.3,
        m.4 ∙ after_step height c.loop-tx.tx-index c.args.txs.now t m.1 lt c.tx-item.is,
      );
}

pub returns : goal.returns
returns c = λ height lists coins h.
    let m = c.loop-tx.invariant.stands height lists coins h in
    let none = drop_all c.loop-tx.tx-index c.args.txs.now (let e = c.loop-tx-test.false in omega arith) in
    let so = rw none at m.3 in
    let is = rw none at m.4 in
    ended _ _ _ _ _ m.2 (sym (append-nil m.0) ∙ so) is
