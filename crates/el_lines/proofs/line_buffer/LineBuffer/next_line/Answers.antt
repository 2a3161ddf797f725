use Rattle.std.proofs.Common.{◌≡◌, ◌+◌, [], length, drop, take, Some, true, ap, sym, refl, ◌∙◌, arith}
use Rattle.el_lines.specs.Lines.{line, too_long}
use Rattle.el_lines.specs.LineStates.{LineState, BufferState}
use Rattle.el_lines.proofs.Standing.{next_ended, next_long, next_none, long_event, short_event, not_all}
use Rattle.el_lines.proofs.line_buffer.LineBuffer.next_line.Goals as goal

pub returns-in-Some-clause-next : goal.returns-in-Some-clause-next
returns-in-Some-clause-next c = λ fed given at.
    let s = c.args.self.now.state in
    let end = c.in-Some.end in
    let limit = ap (λ (x : BufferState). x.state.limit) c.self.view_is in
    let is = c.pass.ensures.passed ∙ ap (λ (x : LineState). record x { rest = drop (end + 1) x.rest }) c.in-Some.ensures.same in
    let next = next_ended s c.pass.new.self.state fed given end at c.in-Some.ensures.found is in
    (next.0 ∙ ap Some (long_event s.limit s.rest end c.in-Some.ensures.found.inside (omega arith)), next.1)

pub returns-in-Some-clause-none : goal.returns-in-Some-clause-none
returns-in-Some-clause-none c = λ fed given at all.
    let s = c.args.self.now.state in
    let end = c.in-Some.end in
    let is = c.pass.ensures.passed ∙ ap (λ (x : LineState). record x { rest = drop (end + 1) x.rest }) c.in-Some.ensures.same in
    let next = next_ended s c.pass.new.self.state fed given end at c.in-Some.ensures.found is in
    absurd (not_all _ given _ next.0 all)

pub returns-in_err-line-in-Some-2-clause-none : goal.returns-in_err-line-in-Some-2-clause-none
returns-in_err-line-in-Some-2-clause-none c = λ fed given at all.
    let s = c.args.self.now.state in
    let end = c.in-Some.end in
    let next = next_ended s _ fed given end at c.in-Some.ensures.found refl in
    absurd (not_all _ given _ next.0 all)

pub returns-in_err-line-in-Some-2-clause-too_long : goal.returns-in_err-line-in-Some-2-clause-too_long
returns-in_err-line-in-Some-2-clause-too_long c = λ fed given at long.
    let s = c.args.self.now.state in
    let end = c.in-Some.end in
    let limit = ap (λ (x : BufferState). x.state.limit) c.self.view_is in
    let next = next_ended s _ fed given end at c.in-Some.ensures.found refl in
    let short = short_event s.limit s.rest end c.in-Some.ensures.found.inside (omega arith) in
    absurd (let both : Some too_long ≡ Some (line (take end s.rest)) = sym long ∙ next.0 ∙ ap Some short in cc)

pub returns-in_ok-line-in-Some-2-clause-next : goal.returns-in_ok-line-in-Some-2-clause-next
returns-in_ok-line-in-Some-2-clause-next c = λ fed given at.
    let s = c.args.self.now.state in
    let end = c.in-Some.end in
    let limit = ap (λ (x : BufferState). x.state.limit) c.self.view_is in
    let is = c.pass-in-Some-2.ensures.passed ∙ ap (λ (x : LineState). record x { rest = drop (end + 1) x.rest }) c.in-Some.ensures.same in
    let next = next_ended s c.pass-in-Some-2.new.self.state fed given end at c.in-Some.ensures.found is in
    let short = short_event s.limit s.rest end c.in-Some.ensures.found.inside (omega arith) in
    let copied : c.in_ok-line-in-Some-2.line ≡ take end s.rest = c.in_ok-line-in-Some-2.ensures ∙ ap (λ (x : LineState). take end x.rest) c.in-Some.ensures.same in
    (next.0 ∙ ap Some short ∙ ap (λ b. Some (line b)) (sym copied), next.1)

pub returns-in_ok-line-in-Some-2-clause-none : goal.returns-in_ok-line-in-Some-2-clause-none
returns-in_ok-line-in-Some-2-clause-none c = λ fed given at all.
    let s = c.args.self.now.state in
    let end = c.in-Some.end in
    let next = next_ended s _ fed given end at c.in-Some.ensures.found refl in
    absurd (not_all _ given _ next.0 all)

pub returns-in_ok-line-in-Some-2-clause-too_long : goal.returns-in_ok-line-in-Some-2-clause-too_long
returns-in_ok-line-in-Some-2-clause-too_long c = λ fed given at long.
    let s = c.args.self.now.state in
    let end = c.in-Some.end in
    let limit = ap (λ (x : BufferState). x.state.limit) c.self.view_is in
    let next = next_ended s _ fed given end at c.in-Some.ensures.found refl in
    let short = short_event s.limit s.rest end c.in-Some.ensures.found.inside (omega arith) in
    absurd (let both : Some too_long ≡ Some (line (take end s.rest)) = sym long ∙ next.0 ∙ ap Some short in cc)

pub returns-in-None-clause-next : goal.returns-in-None-clause-next
returns-in-None-clause-next c = λ fed given at.
    let s = c.args.self.now.state in
    let limit = ap (λ (x : BufferState). x.state.limit) c.self.view_is in
    let rest = ap (λ (x : LineState). length x.rest) c.in-None.ensures.same in
    let is = c.skip.ensures.skipped ∙ ap (λ (x : LineState). record { limit = x.limit; rest = []; skips = true }) c.in-None.ensures.same in
    next_long s c.skip.new.self.state fed given at c.in-None.ensures.found (omega arith) is

pub returns-in-None-clause-none : goal.returns-in-None-clause-none
returns-in-None-clause-none c = λ fed given at all.
    let s = c.args.self.now.state in
    let limit = ap (λ (x : BufferState). x.state.limit) c.self.view_is in
    let rest = ap (λ (x : LineState). length x.rest) c.in-None.ensures.same in
    let next = next_long s _ fed given at c.in-None.ensures.found (omega arith) refl in
    absurd (not_all _ given _ next.0 all)

pub returns-in-None-2-clause-next : goal.returns-in-None-2-clause-next
returns-in-None-2-clause-next c = λ fed given at.
    let s = c.args.self.now.state in
    let limit = ap (λ (x : BufferState). x.state.limit) c.self.view_is in
    let rest = ap (λ (x : LineState). length x.rest) c.in-None.ensures.same in
    (next_none s fed given at c.in-None.ensures.found (omega arith), rw (c.leave_out_given.ensures.same, c.in-None.ensures.same) at)

pub returns-in-None-2-clause-too_long : goal.returns-in-None-2-clause-too_long
returns-in-None-2-clause-too_long c = λ fed given at long.
    let s = c.args.self.now.state in
    let limit = ap (λ (x : BufferState). x.state.limit) c.self.view_is in
    let rest = ap (λ (x : LineState). length x.rest) c.in-None.ensures.same in
    absurd (not_all _ given _ long (next_none s fed given at c.in-None.ensures.found (omega arith)))
