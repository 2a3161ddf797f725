use Rattle.std.proofs.Common.{◌∙◌, sym, ap, refl, Option}
use Rattle.el_replies.specs.Spending.{asked_ghosts}
use Rattle.el_side.specs.Beneath.{ghosts}
use Rattle.el_core.specs.State.{work_of_surplus}
use Rattle.el_core.specs.within.Clients.{gone, speaker_after}
use Rattle.el_core.specs.declared.out.Outs.{Outs}
use Rattle.el_core.proofs.Losing.{idly}
use Rattle.el_core.proofs.Measured.{steps_of, speaker_gone, speaker_stays, turned_less, turned_gone, turned_waits, turned_fewer, on_some}
use Rattle.el_core.proofs.Numbers.{up_to_turned}
use Rattle.el_core.proofs.server.Server.turn_client.Goals as goal
use Rattle.std.proofs.Common.{inl, Some}
use Rattle.el_core.specs.within.RowBounds.{ClientReads, SpeakerReads}
use Rattle.el_core.proofs.LineRows.{none_within, spoken_reads, within_more}

pub returns-in_default-place_of-clause-speaker_steps : goal.returns-in_default-place_of-clause-speaker_steps
returns-in_default-place_of-clause-speaker_steps g c = λ side at'.
    rw (← c.self.view_is) (gone c.in-Some.p c.in-Some.is c.in_default-place_of.ensures.place refl refl (idly (asked_ghosts (ghosts g.G.Ledger g.A.Archive) g.Y.Relay) _ _ c.args.archive.now c.args.relay.now _ _ refl refl))

pub returns-then-not-stays-clause-speaker_steps : goal.returns-then-not-stays-clause-speaker_steps
returns-then-not-stays-clause-speaker_steps g c = λ side at'.
    let t = c.turn-outs.ensures.turn in
    rw (← c.self.view_is) (steps_of _ _ side _ _ _ c.turn-outs.result.0 c.turn-outs.result.1 c.in-Some.p c.in-Some-place_of.i c.in-Some.is c.in-Some-place_of.ensures.place t
    (λ d left said. said side (rw (← c.self.view_is) at at')) refl
    (λ peer. speaker_gone c.turn-outs.result.0 t.left (sym t.stays_is ∙ c.if-not-stays.true)))

pub returns-then-not-stays-clause-less : goal.returns-then-not-stays-clause-less
returns-then-not-stays-clause-less g c =
    rw (← c.self.view_is) (rw c.in-Some.is
    (on_some c.turn-outs.result.0 _ (turned_gone _ c.in-Some.p c.in-Some-place_of.i (work_of_surplus c.self.inside.surplus) _ _ c.turn-outs.result.0 c.turn-outs.result.1 c.turn-outs.ensures.turn)))

pub returns-in-Some-outs-clause-speaker_steps : goal.returns-in-Some-outs-clause-speaker_steps
returns-in-Some-outs-clause-speaker_steps g c = λ side at'.
    let t = c.turn-outs.ensures.turn in
    rw (← c.in-Some-outs.is, ← c.self.view_is) (steps_of _ _ side _ _ _ c.turn-outs.result.0 c.turn-outs.result.1 c.in-Some.p c.in-Some-place_of.i c.in-Some.is c.in-Some-place_of.ensures.place t
    (λ d left said. said side (rw (← c.self.view_is) at at')) refl
    (λ peer. c.in-Some.is ∙ speaker_stays c.turn-outs.result.0 t.left _ c.in-Some.p t.client (sym t.stays_is ∙ c.if-not-stays.false) c.in-Some-outs.is t.same peer))

pub returns-in-Some-outs-clause-less : goal.returns-in-Some-outs-clause-less
returns-in-Some-outs-clause-less g c =
    rw (← c.self.view_is) (rw c.in-Some.is
    (turned_less _ c.in-Some.p c.in-Some-place_of.i (work_of_surplus c.self.inside.surplus) _ _ c.turn-outs.result.0 _ c.turn-outs.result.1 c.turn-outs.ensures.turn c.in-Some-outs.is))

pub returns-in-None-clause-speaker_steps : goal.returns-in-None-clause-speaker_steps
returns-in-None-clause-speaker_steps g c = λ side at'.
    let t = c.turn-outs.ensures.turn in
    rw (← c.in-None.is, ← c.self.view_is) (steps_of _ _ side _ _ _ c.turn-outs.result.0 c.turn-outs.result.1 c.in-Some.p c.in-Some-place_of.i c.in-Some.is c.in-Some-place_of.ensures.place t
    (λ d left said. said side (rw (← c.self.view_is) at at')) refl
    (λ peer. ap (λ (x : Option Outs). speaker_after x t.left) (sym c.in-None.is)))

pub returns-then-not-stays-clause-numbers : goal.returns-then-not-stays-clause-numbers
returns-then-not-stays-clause-numbers g c = λ last up. (up_to_turned _ c.in-Some-place_of.i last _ _ c.turn-outs.result.0 c.turn-outs.result.1 c.turn-outs.ensures.turn (rw (← c.self.view_is) at up))

pub returns-in-Some-outs-clause-numbers : goal.returns-in-Some-outs-clause-numbers
returns-in-Some-outs-clause-numbers g c = λ last up. (up_to_turned _ c.in-Some-place_of.i last _ _ c.turn-outs.result.0 c.turn-outs.result.1 c.turn-outs.ensures.turn (rw (← c.self.view_is) at up))

pub returns-in-None-clause-numbers : goal.returns-in-None-clause-numbers
returns-in-None-clause-numbers g c = λ last up. (up_to_turned _ c.in-Some-place_of.i last _ _ c.turn-outs.result.0 c.turn-outs.result.1 c.turn-outs.ensures.turn (rw (← c.self.view_is) at up))

pub returns-then-not-stays-clause-waits : goal.returns-then-not-stays-clause-waits
returns-then-not-stays-clause-waits g c = rw (← c.self.view_is) (turned_waits _ c.in-Some-place_of.i _ _ c.turn-outs.result.0 c.turn-outs.result.1 c.turn-outs.ensures.turn)

pub returns-then-not-stays-clause-fewer : goal.returns-then-not-stays-clause-fewer
returns-then-not-stays-clause-fewer g c = rw (← c.self.view_is) (turned_fewer _ c.in-Some-place_of.i _ _ c.turn-outs.result.0 c.turn-outs.result.1 c.turn-outs.ensures.turn)

pub returns-in-Some-outs-clause-waits : goal.returns-in-Some-outs-clause-waits
returns-in-Some-outs-clause-waits g c = rw (← c.self.view_is) (turned_waits _ c.in-Some-place_of.i _ _ c.turn-outs.result.0 c.turn-outs.result.1 c.turn-outs.ensures.turn)

pub returns-in-Some-outs-clause-fewer : goal.returns-in-Some-outs-clause-fewer
returns-in-Some-outs-clause-fewer g c = rw (← c.self.view_is) (turned_fewer _ c.in-Some-place_of.i _ _ c.turn-outs.result.0 c.turn-outs.result.1 c.turn-outs.ensures.turn)

pub returns-in-None-clause-waits : goal.returns-in-None-clause-waits
returns-in-None-clause-waits g c = rw (← c.self.view_is) (turned_waits _ c.in-Some-place_of.i _ _ c.turn-outs.result.0 c.turn-outs.result.1 c.turn-outs.ensures.turn)

pub returns-in-None-clause-fewer : goal.returns-in-None-clause-fewer
returns-in-None-clause-fewer g c = rw (← c.self.view_is) (turned_fewer _ c.in-Some-place_of.i _ _ c.turn-outs.result.0 c.turn-outs.result.1 c.turn-outs.ensures.turn)

pub returns-in_default-clause-rows : goal.returns-in_default-clause-rows
returns-in_default-clause-rows g c = λ chain stood cached. rw (← c.self.view_is) (none_within (SpeakerReads chain _ _ _) _ _ (inl refl) refl)

pub returns-in_default-place_of-clause-rows : goal.returns-in_default-place_of-clause-rows
returns-in_default-place_of-clause-rows g c = λ chain stood cached. rw (← c.self.view_is) (none_within (SpeakerReads chain _ _ _) _ _ (inl refl) refl)

pub returns-then-not-stays-clause-rows : goal.returns-then-not-stays-clause-rows
returns-then-not-stays-clause-rows g c =
    let place = c.in-Some-place_of.ensures.place in
    rw (← c.self.view_is) (λ chain stood cached. within_more (ClientReads chain _ place.0) (SpeakerReads chain _ _ _) _ _
    (spoken_reads chain _ _ _ c.in-Some-place_of.i place.0 (c.in-Some.is ∙ ap Some (sym place.2)) place.1)
    (c.turn-outs.ensures.rows chain place.0 stood cached place.1))

pub returns-in-Some-outs-clause-rows : goal.returns-in-Some-outs-clause-rows
returns-in-Some-outs-clause-rows g c =
    let place = c.in-Some-place_of.ensures.place in
    rw (← c.self.view_is) (λ chain stood cached. within_more (ClientReads chain _ place.0) (SpeakerReads chain _ _ _) _ _
    (spoken_reads chain _ _ _ c.in-Some-place_of.i place.0 (c.in-Some.is ∙ ap Some (sym place.2)) place.1)
    (c.turn-outs.ensures.rows chain place.0 stood cached place.1))

pub returns-in-None-clause-rows : goal.returns-in-None-clause-rows
returns-in-None-clause-rows g c =
    let place = c.in-Some-place_of.ensures.place in
    rw (← c.self.view_is) (λ chain stood cached. within_more (ClientReads chain _ place.0) (SpeakerReads chain _ _ _) _ _
    (spoken_reads chain _ _ _ c.in-Some-place_of.i place.0 (c.in-Some.is ∙ ap Some (sym place.2)) place.1)
    (c.turn-outs.ensures.rows chain place.0 stood cached place.1))
