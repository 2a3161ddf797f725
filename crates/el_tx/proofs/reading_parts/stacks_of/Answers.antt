use Rattle.std.proofs.Common.{[], sym, ◌∙◌}
use Rattle.std.proofs.lemmas.Result.{err_from_is_err_and}
use Rattle.std.proofs.lemmas.List.{nil_from_length}
use Rattle.el_tx.specs.within.Reading.{stacks_at}
use Rattle.el_tx.proofs.Loop.{stack_goes_on, stack_ends, stacks_done}
use Rattle.el_tx.proofs.reading_parts.stacks_of.Goals as goal

pub returns-in_err-witness : goal.returns-in_err-witness
returns-in_err-witness c =
    let p = err_from_is_err_and c.from_residual-in_err-witness.result c.from_residual-in_err-witness.ensures.1 in
    rw (p.1, p.2) (stack_ends c.in_err-witness.field-0.0 c.loop-input.full c.next.new.self.rest.items c.in-Some.input c.loop-input.input-iterator.rest.items c.loop-input.c (stacks_at [] c.args.inputs c.args.c.now) c.in-Some.ensures.steps.0 c.in_err-witness.ensures c.loop-input.invariant)

pub loop-input-preserved : goal.loop-input-preserved
loop-input-preserved c =
    rw (c.in_ok-push.ensures.ok, c.with_witness.ensures) (stack_goes_on c.loop-input.full c.next.new.self.rest.items c.in-Some.input c.loop-input.input-iterator.rest.items c.loop-input.c c.in_ok-witness.witness c.stack_of.new.c (stacks_at [] c.args.inputs c.args.c.now) c.in-Some.ensures.steps.0 c.in_ok-witness.ensures c.loop-input.invariant)

pub returns : goal.returns
returns c =
    let none = nil_from_length c.loop-input.input-iterator.rest.items (sym c.loop-input.input-iterator.rest.ok.0 ∙ c.in-None.ensures.steps.0) in
    stacks_done c.loop-input.full c.loop-input.input-iterator.rest.items c.loop-input.c (stacks_at [] c.args.inputs c.args.c.now) none c.loop-input.invariant
