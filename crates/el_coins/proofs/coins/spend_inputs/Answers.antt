use Rattle.std.proofs.Common.{◌∙◌, sym, arith}
use Rattle.el_chain.specs.Coins.{without}
use Rattle.el_coins.proofs.CoinSteps.{input_step}
use Rattle.el_coins.proofs.coins.spend_inputs.Goals as goal

pub loop-number-preserved : goal.loop-number-preserved
loop-number-preserved c = record {
  less = let less = c.in_ok-take_coin.ensures.less in omega arith;
  stands = λ coins h.
      let m = c.loop-number.invariant.stands coins h in
      let here = sym c.if-not-branch.false ∙ c.in_ok-take_coin.ensures.there m.0 m.1 in
      let step = input_step c.loop-number.number c.args.inputs.now c.index-inputs-number.result m.0 c.loop-number-test.true c.index-inputs-number.is here in
      (without c.index-inputs-number.result.from m.0, c.in_ok-take_coin.ensures.taken m.0 m.1, m.2 ∙ step.0, m.3 ∙ step.1);
}
