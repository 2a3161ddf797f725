use Rattle.std.proofs.Common.{ap, ◌∙◌}
use Rattle.el_sessions.specs.Sessions.{is_subscribed, subscribed}
use Rattle.el_sessions.specs.within.Slots.{slots_of, live}
use Rattle.el_sessions.proofs.Numbered.{held_added, no_entry}
use Rattle.el_sessions.proofs.session.Subs.add.Goals as goal

pub invariant_of-self-2 : goal.invariant_of-self-2
invariant_of-self-2 c =
    let i = c.self.inside in
    let none = no_entry (slots_of i.slots.value) i.map.entries i.next c.self.invariant c.args.s (ap (is_subscribed c.args.s) c.self.view_is ∙ c.requires) in
    rw c.put.ensures ((held_added (slots_of i.slots.value) i.map.entries i.next c.self.invariant c.keep.new.map.entries c.args.s c.args.told none c.in_ok-keep.ensures.ok c.in_ok-keep.ensures.len).0)

pub returns-clause-ok : goal.returns-clause-ok
returns-clause-ok c =
    let i = c.self.inside in
    let none = no_entry (slots_of i.slots.value) i.map.entries i.next c.self.invariant c.args.s (ap (is_subscribed c.args.s) c.self.view_is ∙ c.requires) in
    ap live c.put.ensures
    ∙ (held_added (slots_of i.slots.value) i.map.entries i.next c.self.invariant c.keep.new.map.entries c.args.s c.args.told none c.in_ok-keep.ensures.ok c.in_ok-keep.ensures.len).1
    ∙ ap (subscribed c.args.s c.args.told) c.self.view_is
