use Rattle.std.proofs.Common.{◌≡◌, List, ap, ◌∙◌, subst}
use Rattle.std.specs.List.{IsDistinct}
use Rattle.std.specs.Map.{keys_of}
use Rattle.std.proofs.lemmas.Result.{IfOk-weaker}
use Rattle.el_sessions.specs.Sessions.{Subscription, held_among, same_script}
use Rattle.el_sessions.specs.within.Slots.{slots_of}
use Rattle.el_sessions.proofs.Numbered.{distinct_live}
use Rattle.el_sessions.proofs.Ordered.{scripts_of, sorted_in_order}
use Rattle.el_sessions.proofs.session.Subs.held_among.Goals as goal

pub returns-in_err-places-clause-once : goal.returns-in_err-places-clause-once
returns-in_err-places-clause-once c =
    let i = c.self.inside in
    subst (λ (l : List Subscription). IsDistinct same_script (keys_of l)) c.self.view_is (distinct_live (slots_of i.slots.value) i.map.entries i.next c.self.invariant)

pub returns-clause-once : goal.returns-clause-once
returns-clause-once c =
    let i = c.self.inside in
    subst (λ (l : List Subscription). IsDistinct same_script (keys_of l)) c.self.view_is (distinct_live (slots_of i.slots.value) i.map.entries i.next c.self.invariant)

pub returns-clause-held : goal.returns-clause-held
returns-clause-held c =
    let i = c.self.inside in
    let all : scripts_of c.as_slice.result.now ≡ held_among c.args.scripts.now c.args.self.now =
    ap scripts_of c.as_slice.ensures.value
    ∙ sorted_in_order (slots_of i.slots.value) i.map.entries i.next c.self.invariant c.args.scripts.now c.requires c.in_ok-places.places.items c.in_ok-places.ensures
    ∙ ap (held_among c.args.scripts.now) c.self.view_is in
    IfOk-weaker c.scripts_of.result _ _ (λ held is. is ∙ all) c.scripts_of.ensures
