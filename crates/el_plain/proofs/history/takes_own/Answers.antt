use Rattle.std.proofs.Common.{◌∙◌, sym, ap, arith}
use Rattle.std.proofs.lemmas.List.{drop_all}
use Rattle.std.specs.List.{list_any}
use Rattle.el_tx.specs.declared.types.TxIn.{TxIn}
use Rattle.el_chain.specs.History.{has_own}
use Rattle.el_plain.proofs.Histories.{spends_step, spends_stop}
use Rattle.el_plain.proofs.history.takes_own.Goals as goal

pub returns-then-contains : goal.returns-then-contains
returns-then-contains c = λ script_hash coins h.
    sym (c.loop-input.invariant script_hash coins h
    ∙ spends_stop script_hash coins c.args.inputs.now c.loop-input.input-index c.input-item.result c.loop-input-test.true c.input-item.is
    (sym (h c.input-item.result.from) ∙ sym c.contains.ensures ∙ c.if-contains.true))

pub loop-input-preserved : goal.loop-input-preserved
loop-input-preserved c = λ script_hash coins h.
    c.loop-input.invariant script_hash coins h
    ∙ spends_step script_hash coins c.args.inputs.now c.loop-input.input-index c.input-item.result c.loop-input-test.true c.input-item.is
    (sym (h c.input-item.result.from) ∙ sym c.contains.ensures ∙ c.if-contains.false)

pub returns : goal.returns
returns c = λ script_hash coins h.
    let none = drop_all c.loop-input.input-index c.args.inputs.now (let e = c.loop-input-test.false in omega arith) in
    sym (c.loop-input.invariant script_hash coins h ∙ ap (list_any (λ (x : TxIn). has_own script_hash coins x.from)) none)
