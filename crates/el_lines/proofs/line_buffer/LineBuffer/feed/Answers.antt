use Rattle.std.proofs.Common.{drop, ap, sym, subst, rules}
use Rattle.el_lines.specs.LineStates.{LineState, BufferState, WasFed}
use Rattle.el_lines.proofs.Standing.{fed_more, fed_skipped, fed_ended}
use Rattle.el_lines.proofs.line_buffer.LineBuffer.feed.Goals as goal

pub returns-then-not-self-clause-at : goal.returns-then-not-self-clause-at
returns-then-not-self-clause-at c = λ fed given at.
    fed_more c.args.self.now.state c.add.new.self.state fed c.args.bytes.now given at (search rules) c.in_ok-add.ensures.added

pub returns-in_ok-add-in-Some-clause-at : goal.returns-in_ok-add-in-Some-clause-at
returns-in_ok-add-in-Some-clause-at c = λ fed given at.
    let s : LineState = record { limit = c.self.inside.limit; rest = drop c.self.inside.start c.self.inside.bytes.items; skips = c.self.inside.skips } in
    let here : WasFed s fed given = subst (λ (x : LineState). WasFed x fed given) (sym (ap (λ (x : BufferState). x.state) c.self.view_is)) at in
    fed_ended s c.add-in-Some.new.self.state fed c.args.bytes.now given c.in-Some.end here (search rules) c.in-Some.ensures.found
    (rw (← c.bytes_from.ensures) c.in_ok-add-in-Some.ensures.added)

pub returns-in-None-clause-at : goal.returns-in-None-clause-at
returns-in-None-clause-at c = λ fed given at.
    let s : LineState = record { limit = c.self.inside.limit; rest = drop c.self.inside.start c.self.inside.bytes.items; skips = c.self.inside.skips } in
    let here : WasFed s fed given = subst (λ (x : LineState). WasFed x fed given) (sym (ap (λ (x : BufferState). x.state) c.self.view_is)) at in
    fed_skipped s fed c.args.bytes.now given here (search rules) c.in-None.ensures.found
