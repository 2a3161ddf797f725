use Rattle.std.proofs.lemmas.Result.{err_from_is_err_and}
use Rattle.el_tx.specs.within.Reading.{input_at, inputs_at}
use Rattle.el_tx.proofs.Loop.{goes_on, ends, is_done}
use Rattle.el_tx.proofs.reading_parts.inputs_of.Goals as goal

pub returns-in_err-input : goal.returns-in_err-input
returns-in_err-input c =
    let p = err_from_is_err_and c.from_residual-in_err-input.result c.from_residual-in_err-input.ensures.1 in
    rw (p.1, p.2) (ends (λ _. input_at) c.in_err-input.field-0.0 c.loop.inputs c.args.count c.loop.counter c.loop.c (inputs_at c.args.count c.args.c.now) c.loop-test.true c.in_err-input.ensures c.loop.invariant)

pub loop-preserved : goal.loop-preserved
loop-preserved c =
    rw c.in_ok-push.ensures.ok (goes_on (λ _. input_at) c.loop.inputs c.args.count c.loop.counter c.loop.c c.in_ok-input.input c.input_of.new.c (inputs_at c.args.count c.args.c.now) c.loop-test.true c.in_ok-input.ensures c.loop.invariant)

pub returns : goal.returns
returns c = is_done (λ _. input_at) c.loop.inputs c.args.count c.loop.counter c.loop.c (inputs_at c.args.count c.args.c.now) c.loop-test.false c.loop.invariant
