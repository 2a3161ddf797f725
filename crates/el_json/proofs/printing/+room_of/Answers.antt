use Rattle.std.proofs.Common.{◌≡◌, ◌∙◌, ◌+◌, ◌-◌, ◌^◌, ℕ, [], List, min, drop, sym, ap, subst, arith}
use Rattle.std.proofs.Math.Nat.{min-eq_left}
use Rattle.std.proofs.lemmas.List.{drop_all}
use Rattle.serde_json.specs.View.{items_view, members_view}
use Rattle.serde_json.specs.declared.value.Value.{Value}
use Rattle.serde_json.proofs.Views.{Entry}
use Rattle.el_json.specs.within.Room as spec
use Rattle.el_json.proofs.printing.+room_of.Goals as goal

pub items_room-returns : goal.items_room-returns
items_room-returns t c =
    let l = c.loop-item in
    let xs = c.deref-item-items.result.now in
    let none : drop l.item-index xs ≡ [] = drop_all l.item-index xs (omega arith) in
    let plus : l.room ≡ l.room + 0 = omega arith in
    let P : List Value → Type 0 = λ ys. min (l.room + spec.items_room (items_view ys)) (2 ^ 64 - 1)
    ≡ min (3 + spec.items_room (items_view xs)) (2 ^ 64 - 1) in
    let Q : List Value → Type 0 = λ ys. l.room ≡ min (3 + spec.items_room (items_view ys)) (2 ^ 64 - 1) in
    subst Q c.deref-item-items.ensures.value (sym (min-eq_left l.invariant.0) ∙ ap (λ (n : ℕ). min n (2 ^ 64 - 1)) plus ∙ subst P none l.invariant.1)

pub members_room-returns : goal.members_room-returns
members_room-returns t c =
    let l = c.loop-name in
    let plus : l.room ≡ l.room + 0 = omega arith in
    let P : List Entry → Type 0 = λ es. min (l.room + spec.members_room (members_view es)) (2 ^ 64 - 1)
    ≡ min (3 + spec.members_room (members_view c.args.map.now.entries)) (2 ^ 64 - 1) in
    sym (min-eq_left l.invariant.0) ∙ ap (λ (n : ℕ). min n (2 ^ 64 - 1)) plus ∙ subst P c.in-None.ensures.steps.0 l.invariant.1
