use Rattle.std.proofs.Common.{sym, ap, subst, ◌∙◌, refl, List}
use Rattle.el_replies.specs.Spending.{asked_ghosts}
use Rattle.el_side.specs.Beneath.{ghosts}
use Rattle.el_world.specs.World.{closes_memory}
use Rattle.el_sessions.specs.Sessions.{Subscription}
use Rattle.el_sessions.specs.Watching.{Follows}
use Rattle.el_sessions.proofs.Counting.{follows_same}
use Rattle.el_core.specs.State.{ClientState}
use Rattle.el_core.specs.within.Clients.{loses, departs, answers, left_if}
use Rattle.el_core.proofs.Losing.{idly}
use Rattle.el_core.proofs.client.client_turn.Goals as goal
use Rattle.std.proofs.Common.{inl}
use Rattle.el_core.specs.within.RowBounds.{ClientReads, EventReads}
use Rattle.el_core.proofs.LineRows.{met_reads, none_within, within_more}

pub returns-then-is_lost-clause-turn : goal.returns-then-is_lost-clause-turn
returns-then-is_lost-clause-turn g c = λ side at'.
    loses c.closing.result (sym c.is_lost.ensures ∙ c.if-is_lost.true) refl (c.closing.ensures ∙ ap closes_memory c.peer-peer.ensures) refl (idly (asked_ghosts (ghosts g.G.Ledger g.A.Archive) g.Y.Relay) _ _ c.args.archive.now c.args.relay.now _ _ refl refl)

pub returns-in-Err-clause-turn : goal.returns-in-Err-clause-turn
returns-in-Err-clause-turn g c = λ side at'.
    departs c.closing-in-Err.result (sym c.is_lost.ensures ∙ c.if-is_lost.false) c.in-Err.ensures.line refl (c.closing-in-Err.ensures ∙ ap closes_memory c.peer-peer.ensures) refl (idly (asked_ghosts (ghosts g.G.Ledger g.A.Archive) g.Y.Relay) _ _ c.args.archive.now c.args.relay.now _ _ refl refl)

pub returns-in-Ok-None-clause-done : goal.returns-in-Ok-None-clause-done
returns-in-Ok-None-clause-done g c =
    let all = rw c.in-Ok-None.field-0-is at c.in-Ok-None.ensures.none in
    let same = rw c.in-Ok-None.field-0-is at c.in-Ok-None.ensures.unchanged in
    rw same (record { given_all = all; kept = sym c.is_lost.ensures ∙ c.if-is_lost.false })

pub returns-in-Ok-Some-clause-turn : goal.returns-in-Ok-Some-clause-turn
returns-in-Ok-Some-clause-turn g c = λ side at'.
    let gives = rw c.in-Ok-Some.field-0-is at c.in-Ok-Some.ensures.met in
    let same = c.in-Ok-Some.ensures.same in
    let answered = rw (same, c.answer-outs.ensures.same) at (c.answer-outs.ensures.answers side at') in
    answers c.answer-outs.result.0 c.in-Ok-Some.met c.next_line.new.self.buffer c.answer-outs.new.client.session c.answer-outs.result.1 (sym c.is_lost.ensures ∙ c.if-is_lost.false) c.in-Ok-Some.ensures.limit gives answered
    (ap (λ (d : ClientState). left_if c.answer-outs.result.1 d) (c.answer-outs.ensures.same ∙ ap (λ (d : ClientState). record d { session = c.answer-outs.new.client.session }) same)) refl

pub returns-in-Err-clause-watched : goal.returns-in-Err-clause-watched
returns-in-Err-clause-watched g c = rw c.in-Err.ensures.same (follows_same c.args.client.now.session.subs c.args.watched.now)

pub returns-in-Ok-None-clause-watched : goal.returns-in-Ok-None-clause-watched
returns-in-Ok-None-clause-watched g c =
    let same = rw c.in-Ok-None.field-0-is at c.in-Ok-None.ensures.unchanged in
    rw same (follows_same c.args.client.now.session.subs c.args.watched.now)

pub returns-in-Ok-None-clause-idle : goal.returns-in-Ok-None-clause-idle
returns-in-Ok-None-clause-idle g c = (rw c.in-Ok-None.field-0-is at c.in-Ok-None.ensures.unchanged, refl)

pub returns-in-Ok-Some-clause-watched : goal.returns-in-Ok-Some-clause-watched
returns-in-Ok-Some-clause-watched g c =
    let same = ap (λ (d : ClientState). d.session.subs) c.in-Ok-Some.ensures.same in
    subst (λ (l : List Subscription). Follows l c.answer-outs.new.client.session.subs c.args.watched.now c.answer-outs.new.watched) same c.answer-outs.ensures.watched

pub returns-then-is_lost-clause-rows : goal.returns-then-is_lost-clause-rows
returns-then-is_lost-clause-rows g c = λ chain stood cached. none_within (ClientReads chain (g.G.Ledger.buckets c.args.ledger.now) c.args.client.now) _ _ (inl refl) refl

pub returns-in-Err-clause-rows : goal.returns-in-Err-clause-rows
returns-in-Err-clause-rows g c = λ chain stood cached. none_within (ClientReads chain (g.G.Ledger.buckets c.args.ledger.now) c.args.client.now) _ _ (inl refl) refl

pub returns-in-Ok-None-clause-rows : goal.returns-in-Ok-None-clause-rows
returns-in-Ok-None-clause-rows g c = λ chain stood cached. none_within (ClientReads chain (g.G.Ledger.buckets c.args.ledger.now) c.args.client.now) _ _ (inl refl) refl

pub returns-in-Ok-Some-clause-rows : goal.returns-in-Ok-Some-clause-rows
returns-in-Ok-Some-clause-rows g c = λ chain stood cached.
    let gives = rw c.in-Ok-Some.field-0-is at c.in-Ok-Some.ensures.met in
    within_more (EventReads chain (g.G.Ledger.buckets c.args.ledger.now) c.in-Ok-Some.met) (ClientReads chain (g.G.Ledger.buckets c.args.ledger.now) c.args.client.now) _ _
    (met_reads chain (g.G.Ledger.buckets c.args.ledger.now) c.args.client.now c.in-Ok-Some.met c.next_line.new.self.buffer (sym c.is_lost.ensures ∙ c.if-is_lost.false) gives)
    (c.answer-outs.ensures.rows chain stood cached)
