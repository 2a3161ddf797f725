use Rattle.std.proofs.Common.{◌≡◌, ◌∙◌, sym, ap, subst, ◌+◌, Ok}
use Rattle.std.proofs.lemmas.Result.{err_from_is_err_and}
use Rattle.std.proofs.lemmas.List.Sums.{sum_by_push}
use Rattle.el_tx.specs.declared.types.TxOut.{TxOut}
use Rattle.el_tx.specs.within.Reading.{Fails, next_output_at, outputs_at}
use Rattle.el_tx.proofs.Loop.{goes_on, ends, is_done, next_output}
use Rattle.el_tx.proofs.reading_parts.outputs_of.Goals as goal

pub returns-in_err-output : goal.returns-in_err-output
returns-in_err-output c =
    let p = err_from_is_err_and c.from_residual-in_err-output.result c.from_residual-in_err-output.ensures.1 in
    let same = next_output c.loop.outputs c.len.result c.loop.sum c.loop.c c.len.ensures c.loop.invariant.sum in
    let fails = subst (λ r. Fails c.in_err-output.field-0.0 r) same c.in_err-output.ensures.output in
    rw (p.1, p.2) (ends next_output_at c.in_err-output.field-0.0 c.loop.outputs c.args.count c.loop.counter c.loop.c (outputs_at c.args.count c.args.c.now) c.loop-test.true fails c.loop.invariant.read)

pub loop-preserved : goal.loop-preserved
loop-preserved c =
    let output = c.in_ok-output.output in
    let same = next_output c.loop.outputs c.len.result c.loop.sum c.loop.c c.len.ensures c.loop.invariant.sum in
    let read : next_output_at c.loop.outputs c.loop.c ≡ Ok (output, c.output_of.new.c) = sym same ∙ c.in_ok-output.ensures.output in
    rw (c.in_ok-push.ensures.ok, c.value.ensures) (record {
      sum = ap (λ k. k + output.value) c.loop.invariant.sum ∙ sym (sum_by_push (λ (o : TxOut). o.value) c.loop.outputs output);
      bound = c.in_ok-output.ensures.bound;
      read = goes_on next_output_at c.loop.outputs c.args.count c.loop.counter c.loop.c output c.output_of.new.c (outputs_at c.args.count c.args.c.now) c.loop-test.true read c.loop.invariant.read;
    })

pub returns : goal.returns
returns c = is_done next_output_at c.loop.outputs c.args.count c.loop.counter c.loop.c (outputs_at c.args.count c.args.c.now) c.loop-test.false c.loop.invariant.read
