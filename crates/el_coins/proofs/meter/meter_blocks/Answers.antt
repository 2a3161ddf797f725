use Rattle.std.proofs.Common.{◌∙◌, ◌++◌, ◌+◌, refl, arith, append-nil, sym}
use Rattle.std.proofs.lemmas.List.{drop_all}
use Rattle.el_chain.specs.Coins.{coins_after_all}
use Rattle.el_coins.specs.within.Meters.{met_in}
use Rattle.el_coins.proofs.Histories.{fit_after}
use Rattle.el_coins.proofs.Meters.{blocks_step, coins_step, ended}
use Rattle.el_coins.proofs.meter.meter_blocks.Goals as goal

pub loop-placed-init : goal.loop-placed-init
loop-placed-init c = record {
  fit = c.requires;
  stands = λ height lists coins h. (height, lists, coins, h, refl, refl);
}

pub loop-placed-preserved : goal.loop-placed-preserved
loop-placed-preserved c = record {
  fit = fit_after c.args.blocks.now c.loop-placed.placed-index c.placed-item.result c.loop-placed-test.true c.placed-item.is c.loop-placed.invariant.fit;
  stands = λ height lists coins h.
      let m = c.loop-placed.invariant.stands height lists coins h in
      let b = c.placed-item.result in
      let lt = c.loop-placed-test.true in (
        m.0 + 1,
        m.1 ++ met_in m.0 c.as_slice.result.now m.2,
        coins_after_all m.0 c.as_slice.result.now m.2,
        c.in_ok-meter_txs.ensures m.0 m.1 m.2 m.3,
        blocks_step m.0 c.loop-placed.placed-index c.args.blocks.now b c.as_slice.result.now m.2 m.1 _ lt c.placed-item.is c.as_slice.ensures m.4,
        m.5 ∙ coins_step m.0 c.loop-placed.placed-index c.args.blocks.now b c.as_slice.result.now m.2 lt c.placed-item.is c.as_slice.ensures,
      );
}

pub returns : goal.returns
returns c = λ height lists coins h.
    let m = c.loop-placed.invariant.stands height lists coins h in
    let none = drop_all c.loop-placed.placed-index c.args.blocks.now (let e = c.loop-placed-test.false in omega arith) in
    let so = rw none at m.4 in
    let is = rw none at m.5 in
    ended _ _ _ _ _ m.3 (sym (append-nil m.1) ∙ so) is
