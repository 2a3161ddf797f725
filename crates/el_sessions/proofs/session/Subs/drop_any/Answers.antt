use Rattle.std.proofs.Common.{◌∙◌, sym, ap}
use Rattle.el_sessions.specs.Sessions.{is_subscribed}
use Rattle.el_sessions.specs.within.Slots.{slots_of}
use Rattle.el_sessions.proofs.Numbered.{key_live}
use Rattle.el_sessions.proofs.session.Subs.drop_any.Goals as goal

pub returns-clause-some : goal.returns-clause-some
returns-clause-some c =
    let i = c.self.inside in
    (sym (ap (is_subscribed c.in-Some.s.now) c.self.view_is) ∙ key_live (slots_of i.slots.value) i.map.entries i.next c.self.invariant _ c.in-Some.s.now c.in-Some.field-0-1.now (sym c.in-Some.ensures.entry), c.unsubscribe.ensures.gone)
