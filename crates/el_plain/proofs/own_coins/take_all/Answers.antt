use Rattle.std.proofs.Common.{◌∙◌, arith}
use Rattle.std.proofs.lemmas.List.{drop_all}
use Rattle.el_chain.specs.Coins.{without}
use Rattle.el_coins.proofs.Histories.{drop_step}
use Rattle.el_plain.proofs.own_coins.take_all.Goals as goal

pub loop-input-preserved : goal.loop-input-preserved
loop-input-preserved c = λ script_hash coins h.
    let m = c.loop-input.invariant script_hash coins h in
    let i = c.input-item.result in (
      without i.from m.0,
      c.in_ok-take.ensures script_hash m.0 m.1,
      m.2 ∙ drop_step c.args.inputs.now c.loop-input.input-index i m.0 c.loop-input-test.true c.input-item.is,
    )

pub returns : goal.returns
returns c = λ script_hash coins h.
    let m = c.loop-input.invariant script_hash coins h in
    let none = drop_all c.loop-input.input-index c.args.inputs.now (let e = c.loop-input-test.false in omega arith) in
    let is = rw none at m.2 in
    rw is m.1
