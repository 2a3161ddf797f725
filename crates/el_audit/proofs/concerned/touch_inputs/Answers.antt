use Rattle.std.proofs.Common.{arith}
use Rattle.el_tx.specs.declared.types.TxIn.{TxIn}
use Rattle.el_chain.specs.History.{has_own}
use Rattle.el_chain.proofs.TouchLemmas.{any_step}
use Rattle.el_audit.proofs.Walks.{any_ends}
use Rattle.el_audit.proofs.concerned.touch_inputs.Goals as goal

pub loop-input-preserved : goal.loop-input-preserved
loop-input-preserved c = λ is_named coins h s named. any_step (λ (i : TxIn). has_own s.0 coins i.from) c.args.inputs.now c.loop-input.input-index c.input-item.result _ _ _ _
    c.loop-input-test.true c.input-item.is (c.loop-input.invariant is_named coins h s named) (c.in_ok-touch_coin.ensures is_named coins h s named)

pub returns : goal.returns
returns c = λ is_named coins h s named. any_ends (λ (i : TxIn). has_own s.0 coins i.from) c.args.inputs.now c.loop-input.input-index _ _
    (let e = c.loop-input-test.false in omega arith) (c.loop-input.invariant is_named coins h s named)
