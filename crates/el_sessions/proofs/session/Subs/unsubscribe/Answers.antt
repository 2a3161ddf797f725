use Rattle.std.proofs.Common.{sym, ap, ◌∙◌}
use Rattle.el_sessions.specs.Sessions.{is_subscribed, unsubscribed}
use Rattle.el_sessions.specs.within.Slots.{slots_of, live}
use Rattle.el_sessions.proofs.Scripts.{nothing_dropped}
use Rattle.el_sessions.proofs.Numbered.{held_dropped, held_live}
use Rattle.el_sessions.proofs.session.Subs.unsubscribe.Goals as goal

pub invariant_of-self : goal.invariant_of-self
invariant_of-self c =
    let i = c.self.inside in
    rw c.put.ensures ((held_dropped (slots_of i.slots.value) i.map.entries i.next c.self.invariant c.args.s.now c.in-Some.held (sym c.drop_one.ensures.was ∙ c.in-Some.is) c.drop_one.new.map.entries c.in-Some.ensures.gone c.in-Some.ensures.len).0)

pub returns-in-Some-clause-gone : goal.returns-in-Some-clause-gone
returns-in-Some-clause-gone c =
    let i = c.self.inside in
    ap live c.put.ensures
    ∙ (held_dropped (slots_of i.slots.value) i.map.entries i.next c.self.invariant c.args.s.now c.in-Some.held (sym c.drop_one.ensures.was ∙ c.in-Some.is) c.drop_one.new.map.entries c.in-Some.ensures.gone c.in-Some.ensures.len).1
    ∙ ap (unsubscribed c.args.s.now) c.self.view_is

pub returns-in-Some-clause-was : goal.returns-in-Some-clause-was
returns-in-Some-clause-was c =
    let i = c.self.inside in
    held_live (slots_of i.slots.value) i.map.entries i.next c.self.invariant c.args.s.now _ (sym c.drop_one.ensures.was ∙ c.in-Some.is) ∙ ap (is_subscribed c.args.s.now) c.self.view_is

pub returns-in-None-clause-was : goal.returns-in-None-clause-was
returns-in-None-clause-was c =
    let i = c.self.inside in
    held_live (slots_of i.slots.value) i.map.entries i.next c.self.invariant c.args.s.now _ (sym c.drop_one.ensures.was ∙ c.in-None.is) ∙ ap (is_subscribed c.args.s.now) c.self.view_is

pub returns-in-None-clause-gone : goal.returns-in-None-clause-gone
returns-in-None-clause-gone c =
    let i = c.self.inside in
    sym (nothing_dropped c.args.s.now (live (slots_of i.slots.value))
    (sym (held_live (slots_of i.slots.value) i.map.entries i.next c.self.invariant c.args.s.now _ (sym c.drop_one.ensures.was ∙ c.in-None.is))))
    ∙ ap (unsubscribed c.args.s.now) c.self.view_is
