use Rattle.std.proofs.Common.{ap, ◌∙◌, refl}
use Rattle.std.specs.Prelude.{is_some}
use Rattle.el_sessions.specs.Sessions.{is_subscribed}
use Rattle.el_sessions.specs.within.Slots.{slots_of}
use Rattle.el_sessions.proofs.Numbered.{held_live}
use Rattle.el_sessions.proofs.session.Subs.holds.Goals as goal

pub returns : goal.returns
returns c =
    let i = c.self.inside in
    c.is_some.ensures ∙ ap is_some c.find.ensures ∙ held_live (slots_of i.slots.value) i.map.entries i.next c.self.invariant c.args.s.now _ refl ∙ ap (is_subscribed c.args.s.now) c.self.view_is
