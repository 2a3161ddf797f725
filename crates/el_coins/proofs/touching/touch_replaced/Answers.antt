use Rattle.std.proofs.Common.{arith, refl}
use Rattle.el_chain.specs.declared.coin.Coin.{Coin}
use Rattle.el_chain.specs.History.{has_own}
use Rattle.el_coins.proofs.TouchLemmas.{made_ends, made_step}
use Rattle.el_coins.proofs.touching.touch_replaced.Goals as goal

pub loop-index-preserved : goal.loop-index-preserved
loop-index-preserved c = λ coins h s. made_step (λ (m : Coin). has_own s.0 coins m.outpoint) (has_own s.0 coins) c.args.txid c.args.outputs.now c.loop-index.index c.index-outputs-index.result _ _ _ _
    (λ m. refl) c.loop-index-test.true c.index-outputs-index.is (c.loop-index.invariant coins h s) (c.in_ok-touch_coin.ensures coins h s)

pub returns : goal.returns
returns c = λ coins h s. made_ends (λ (m : Coin). has_own s.0 coins m.outpoint) c.args.txid c.args.outputs.now c.loop-index.index _ _
    (let e = c.loop-index-test.false in omega arith) (c.loop-index.invariant coins h s)
