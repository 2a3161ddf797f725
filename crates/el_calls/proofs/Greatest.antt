-- The first of the versions that are served, the greatest first, is the greatest that is shared.
use Rattle.std.proofs.Common.{◌≡◌, Bool, true, false, true≢false, Option, Some, None, refl, sym, ◌∙◌, subst}
use Rattle.std.specs.Prelude.{IfSome, IfNone}
use Rattle.el_sessions.specs.declared.session.Version.{Version}
use Rattle.el_sessions.specs.declared.session.Version.TheVariants as version
use Rattle.el_calls.specs.declared.call.VersionParts.{VersionParts}
use Rattle.el_calls.specs.Versions.{parts_of, is_up_to, lies_within, greatest_shared, IsGreatest}

module _ (least most : VersionParts) where
  abbrev within : Version → Bool
  within v = lies_within least most v

  never : (v : Version) (P : Type 0) → within v ≡ false → within v ≡ true → P
  never v P not_it in_it = absurd (true≢false (sym in_it ∙ not_it))

  up_142 : (other : Version) → within other ≡ true → is_up_to (parts_of other) (parts_of version.V142) ≡ true
  up_142 version.V14 in_it = refl
  up_142 version.V141 in_it = refl
  up_142 version.V142 in_it = refl

  up_141 : within version.V142 ≡ false → (other : Version) → within other ≡ true → is_up_to (parts_of other) (parts_of version.V141) ≡ true
  up_141 not_it version.V14 in_it = refl
  up_141 not_it version.V141 in_it = refl
  up_141 not_it version.V142 in_it = never version.V142 _ not_it in_it

  up_14 : within version.V142 ≡ false → within version.V141 ≡ false → (other : Version) → within other ≡ true → is_up_to (parts_of other) (parts_of version.V14) ≡ true
  up_14 not_it nor_it version.V14 in_it = refl
  up_14 not_it nor_it version.V141 in_it = never version.V141 _ nor_it in_it
  up_14 not_it nor_it version.V142 in_it = never version.V142 _ not_it in_it

  none_of : within version.V142 ≡ false → within version.V141 ≡ false → within version.V14 ≡ false → (other : Version) → within other ≡ false
  none_of a b c version.V14 = c
  none_of a b c version.V141 = b
  none_of a b c version.V142 = a

  abbrev Pinned : Option Version → Type 0
  Pinned found = IfSome found (IsGreatest least most) × IfNone found ((other : Version) → within other ≡ false)

  by : (a b c : Bool) → within version.V142 ≡ a → within version.V141 ≡ b → within version.V14 ≡ c → Pinned (greatest_shared least most)
  by true b c one two three =
      let found : greatest_shared least most ≡ Some version.V142 = rw one refl in
      subst Pinned (sym found) ((one, up_142), tt)
  by false true c one two three =
      let found : greatest_shared least most ≡ Some version.V141 = rw (one, two) refl in
      subst Pinned (sym found) ((two, up_141 one), tt)
  by false false true one two three =
      let found : greatest_shared least most ≡ Some version.V14 = rw (one, two, three) refl in
      subst Pinned (sym found) ((three, up_14 one two), tt)
  by false false false one two three =
      let found : greatest_shared least most ≡ None = rw (one, two, three) refl in
      subst Pinned (sym found) (tt, none_of one two three)

  pub pinned : (found : Option Version) → found ≡ greatest_shared least most → Pinned found
  pinned found is = subst Pinned (sym is) (by (within version.V142) (within version.V141) (within version.V14) refl refl refl)
