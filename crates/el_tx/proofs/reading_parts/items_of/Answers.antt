use Rattle.std.proofs.lemmas.Result.{err_from_is_err_and}
use Rattle.el_tx.specs.within.Reading.{sized_at, items_at}
use Rattle.el_tx.proofs.Loop.{goes_on, ends, is_done}
use Rattle.el_tx.proofs.reading_parts.items_of.Goals as goal

pub returns-in_err-item : goal.returns-in_err-item
returns-in_err-item c =
    let p = err_from_is_err_and c.from_residual.result c.from_residual.ensures.1 in
    rw (p.1, p.2) (ends (λ _. sized_at) c.in_err-item.field-0.0 c.loop.items c.args.count c.loop.counter c.loop.c (items_at c.args.count c.args.c.now) c.loop-test.true c.in_err-item.ensures c.loop.invariant)

pub loop-preserved : goal.loop-preserved
loop-preserved c =
    rw c.in_ok-push.ensures.ok (goes_on (λ _. sized_at) c.loop.items c.args.count c.loop.counter c.loop.c c.in_ok-item.item c.sized_of.new.c (items_at c.args.count c.args.c.now) c.loop-test.true c.in_ok-item.ensures c.loop.invariant)

pub returns : goal.returns
returns c = is_done (λ _. sized_at) c.loop.items c.args.count c.loop.counter c.loop.c (items_at c.args.count c.args.c.now) c.loop-test.false c.loop.invariant
