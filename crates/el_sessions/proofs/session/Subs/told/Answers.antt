use Rattle.std.proofs.Common.{◌∙◌, sym, ap}
use Rattle.std.specs.Map.{lookup}
use Rattle.el_sessions.specs.Sessions.{same_script}
use Rattle.el_sessions.specs.within.Slots.{slots_of}
use Rattle.el_sessions.proofs.Numbered.{told_held}
use Rattle.el_sessions.proofs.session.Subs.told.Goals as goal

pub returns-in-Some : goal.returns-in-Some
returns-in-Some c =
    let i = c.self.inside in
    told_held (slots_of i.slots.value) i.map.entries i.next c.self.invariant c.args.s.now _ (sym c.find.ensures ∙ c.in-Some.is) ∙ ap (lookup (same_script c.args.s.now)) c.self.view_is

pub returns-in-None : goal.returns-in-None
returns-in-None c =
    let i = c.self.inside in
    told_held (slots_of i.slots.value) i.map.entries i.next c.self.invariant c.args.s.now _ (sym c.find.ensures ∙ c.in-None.is) ∙ ap (lookup (same_script c.args.s.now)) c.self.view_is
