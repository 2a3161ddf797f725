use Rattle.std.proofs.Common.{◌≡◌, true≢false, Some, sym, ap, ◌∙◌}
use Rattle.std.specs.Map.{lookup}
use Rattle.el_sessions.specs.Sessions.{is_subscribed, subscribed, same_script}
use Rattle.el_sessions.specs.within.Slots.{slots_of, live}
use Rattle.el_sessions.proofs.Numbered.{held_noted, held_live, is_kept}
use Rattle.el_sessions.proofs.session.Subs.note.Goals as goal

pub invariant_of-self : goal.invariant_of-self
invariant_of-self c =
    let i = c.self.inside in
    let is : lookup (same_script c.args.s.now) i.map.entries ≡ Some c.in-Some.held = sym c.find.ensures ∙ c.in-Some.is in
    rw c.put.ensures ((held_noted (slots_of i.slots.value) i.map.entries i.next c.self.invariant c.args.s.now c.in-Some.held is c.keep.new.map.entries c.args.told
    (is_kept c.keep.result _ i.map.entries c.args.s.now _ is c.keep.ensures.absent c.keep.ensures.ok) (is_kept c.keep.result _ i.map.entries c.args.s.now _ is c.keep.ensures.absent c.keep.ensures.len)).0)

pub returns-in-Some-clause-noted : goal.returns-in-Some-clause-noted
returns-in-Some-clause-noted c = λ held.
    let i = c.self.inside in
    let is : lookup (same_script c.args.s.now) i.map.entries ≡ Some c.in-Some.held = sym c.find.ensures ∙ c.in-Some.is in
    ap live c.put.ensures
    ∙ (held_noted (slots_of i.slots.value) i.map.entries i.next c.self.invariant c.args.s.now c.in-Some.held is c.keep.new.map.entries c.args.told
    (is_kept c.keep.result _ i.map.entries c.args.s.now _ is c.keep.ensures.absent c.keep.ensures.ok) (is_kept c.keep.result _ i.map.entries c.args.s.now _ is c.keep.ensures.absent c.keep.ensures.len)).1
    ∙ ap (subscribed c.args.s.now c.args.told) c.self.view_is

pub returns-in-Some-clause-same : goal.returns-in-Some-clause-same
returns-in-Some-clause-same c = λ none.
    let i = c.self.inside in
    absurd (true≢false (held_live (slots_of i.slots.value) i.map.entries i.next c.self.invariant c.args.s.now _ (sym c.find.ensures ∙ c.in-Some.is) ∙ ap (is_subscribed c.args.s.now) c.self.view_is ∙ none))

pub returns-in_default-clause-noted : goal.returns-in_default-clause-noted
returns-in_default-clause-noted c = λ some.
    let i = c.self.inside in
    absurd (true≢false (sym (held_live (slots_of i.slots.value) i.map.entries i.next c.self.invariant c.args.s.now _ (sym c.find.ensures ∙ c.in_default.is) ∙ ap (is_subscribed c.args.s.now) c.self.view_is ∙ some)))
