use Rattle.std.proofs.Common.{◌∙◌, arith}
use Rattle.std.proofs.lemmas.List.{drop_all}
use Rattle.el_chain.specs.Coins.{without}
use Rattle.el_audit.proofs.Walks.{input_step}
use Rattle.el_audit.proofs.owned.take_all.Goals as goal

pub loop-input-preserved : goal.loop-input-preserved
loop-input-preserved c = λ is_named coins h.
    let m = c.loop-input.invariant is_named coins h in
    let i = c.input-item.result in (
      without i.from m.0,
      c.in_ok-take.ensures is_named m.0 m.1,
      m.2 ∙ input_step c.args.inputs.now c.loop-input.input-index i m.0 c.loop-input-test.true c.input-item.is,
    )

pub returns : goal.returns
returns c = λ is_named coins h.
    let m = c.loop-input.invariant is_named coins h in
    let none = drop_all c.loop-input.input-index c.args.inputs.now (let e = c.loop-input-test.false in omega arith) in
    let is = rw none at m.2 in
    rw is m.1
