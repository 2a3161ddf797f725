-- Places by rising number are those of the subscriptions in their order.
use Rattle.std.proofs.Common.{◌≡◌, ℕ, zero, suc, ◌+◌, ◌-◌, ◌<◌, ◌≤◌, eqb, eqb-true, Bool, true, false, true≢false, if◌then◌else◌, ◌||◌, List, [], ◌∷◌, ◌++◌, length, map, slice_get, Option, Some, None, refl, sym, ap, ◌∙◌, subst, arith}
use Rattle.std.specs.Prelude.{⊤, nat_eq, option_map}
use Rattle.std.specs.List.{AllByRecursion, IsDistinct, list_any, slice_index}
use Rattle.std.specs.List.Sorted.{IsPermutation, IsNonDecreasing, IsNonDecreasingBy, IsStrictlyIncreasing}
use Rattle.std.specs.Map.{lookup}
use Rattle.std.specs.Option.{option_to_list}
use Rattle.std.proofs.lemmas.Bool.{false_from_ne_true, or_parts}
use Rattle.std.proofs.lemmas.List.{length-map, get_or-map}
use Rattle.std.proofs.lemmas.List.Sorted.{list_any-IsPermutation, IsPermutation-map}
use Rattle.std.proofs.lemmas.Map.Keys.{IsDistinct-head, IsDistinct-tail, IsDistinct-cons, IsDistinct-IsPermutation, IsStrictlyIncreasing-from_distinct}
use Rattle.el_base.specs.declared.hash.Hash32.{Hash32}
use Rattle.el_sessions.specs.Sessions.{Subscription, same_script, held_among}
use Rattle.el_sessions.specs.declared.slots.Held.{Held}
use Rattle.el_sessions.specs.declared.slots.Place.{Place}
use Rattle.el_sessions.specs.within.Slots.{live, AreHeld, places_found, places_of_one, ArePlaces}
use Rattle.el_sessions.proofs.Scripts.{one_script, itself}
use Rattle.el_sessions.proofs.Numbered.{Slot, one_slot, one_sub}

abbrev pub numbers : List Place → List ℕ
numbers places = map (λ (p : Place). p.number) places

-- the slot of that number has one of the script hashes
abbrev pub slot_among : List Hash32 → Slot → Bool
slot_among scripts None = false
slot_among scripts (Some sub) = list_any (same_script sub.0) scripts

abbrev pub among_at : List Hash32 → List Slot → ℕ → Bool
among_at scripts [] n = false
among_at scripts (x ∷ xs) zero = slot_among scripts x
among_at scripts (x ∷ xs) (suc n) = among_at scripts xs n

-- ---- which numbers are found
none_among : (slots : List Slot) (n : ℕ) → among_at [] slots n ≡ false
none_among [] n = refl
none_among (None ∷ xs) zero = refl
none_among (Some x ∷ xs) zero = refl
none_among (x ∷ xs) (suc n) = none_among xs n

one_more : (s : Hash32) (ss : List Hash32) (slots : List Slot) (n : ℕ) → among_at (s ∷ ss) slots n ≡ (among_at (s ∷ []) slots n || among_at ss slots n)
one_more s ss [] n = refl
one_more s ss (None ∷ xs) zero = refl
one_more s ss (Some x ∷ xs) zero = by (same_script x.0 s) (list_any (same_script x.0) ss)
  where
    by : (a b : Bool) → (a || b) ≡ ((a || false) || b)
    by true b = refl
    by false b = refl
one_more s ss (x ∷ xs) (suc n) = one_more s ss xs n

here_among : (s : Hash32) (slots : List Slot) (n : ℕ) (told : Option Hash32) → slice_get slots n ≡ Some (Some (s, told)) → among_at (s ∷ []) slots n ≡ true
here_among s [] n told at = absurd cc
here_among s (None ∷ xs) zero told at = absurd (let e = one_slot _ _ at in cc)
here_among s (Some x ∷ xs) zero told at =
    let is : x ≡ (s, told) = one_sub x (s, told) (one_slot _ _ at) in
    ap (λ (t : Bool). t || false) (subst (λ (y : Subscription). same_script y.0 s ≡ true) (sym is) (itself s))
here_among s (x ∷ xs) (suc n) told at = here_among s xs n told at

among_here : (s : Hash32) (slots : List Slot) (n : ℕ) → among_at (s ∷ []) slots n ≡ true → (told : Option Hash32) × (slice_get slots n ≡ Some (Some (s, told)))
among_here s [] n is = absurd (true≢false (sym is))
among_here s (None ∷ xs) zero is = absurd (true≢false (sym is))
among_here s (Some x ∷ xs) zero is =
    let e : same_script x.0 s ≡ true = plain (same_script x.0 s) is in
    (x.1, ap (λ (k : Hash32). Some (Some (k, x.1))) (one_script x.0 s e))
  where
    plain : (a : Bool) → (a || false) ≡ true → a ≡ true
    plain true e = refl
    plain false e = e
among_here s (x ∷ xs) (suc n) is = among_here s xs n is

differs_at : (s : Hash32) (ss : List Hash32) (slots : List Slot) (n : ℕ) (told : Option Hash32) → slice_get slots n ≡ Some (Some (s, told))
    → AllByRecursion (λ (k : Hash32). same_script s k ≡ false) ss → among_at ss slots n ≡ false
differs_at s ss [] n told at apart = absurd cc
differs_at s ss (None ∷ xs) zero told at apart = refl
differs_at s ss (Some x ∷ xs) zero told at apart =
    let is : x ≡ (s, told) = one_sub x (s, told) (one_slot _ _ at) in
    subst (λ (y : Subscription). list_any (same_script y.0) ss ≡ false) (sym is) (none ss apart)
  where
    none : (ks : List Hash32) → AllByRecursion (λ (k : Hash32). same_script s k ≡ false) ks → list_any (same_script s) ks ≡ false
    none [] a = refl
    none (k ∷ ks) a = rw a.0 (none ks a.1)
differs_at s ss (x ∷ xs) (suc n) told at apart = differs_at s ss xs n told at apart

equal_number : (m : ℕ) → nat_eq m m ≡ true
equal_number m = grind arith

flips : (a b : ℕ) → eqb a b ≡ eqb b a
flips a b = grind arith

same_bool : (a b : Bool) → (a ≡ true → b ≡ true) → (b ≡ true → a ≡ true) → a ≡ b
same_bool true b there back = sym (there refl)
same_bool false true there back = back refl
same_bool false false there back = refl

module _ (slots : List Slot) (entries : List (Hash32 × Held)) (next : ℕ) (are : AreHeld slots entries next) where
  exact_one : (s : Hash32) (o : Option Held) → lookup (same_script s) entries ≡ o → (n : ℕ)
      → list_any (nat_eq n) (numbers (option_to_list (option_map (λ (held : Held). record { number = held.number; script_hash = s }) o))) ≡ among_at (s ∷ []) slots n
  exact_one s None is n = same_bool _ _ (λ e. absurd (true≢false (sym e))) (λ e.
      let there = among_here s slots n e in
      absurd (let f : ◌≡◌ {A = Option Held} None (Some (record { told = there.0; number = n })) = sym is ∙ are.found n (s, there.0) there.1 in cc))
  exact_one s (Some held) is n = same_bool _ _
      (λ e.
      let same : n ≡ held.number = eqb-true n held.number (plain (nat_eq n held.number) e) in
      subst (λ (k : ℕ). among_at (s ∷ []) slots k ≡ true) (sym same) (here_among s slots held.number held.told (are.kept s held is)))
      (λ e.
      let there = among_here s slots n e in
      let f : ◌≡◌ {A = Option Held} (Some held) (Some (record { told = there.0; number = n })) = sym is ∙ are.found n (s, there.0) there.1 in
      let same : held ≡ record { told = there.0; number = n } = cc in
      let is : held.number ≡ n = ap (λ (h : Held). h.number) same in
      subst (λ (k : ℕ). (nat_eq n k || false) ≡ true) (sym is) (itself_too n))
    where
      plain : (a : Bool) → (a || false) ≡ true → a ≡ true
      plain true e = refl
      plain false e = e

      itself_too : (k : ℕ) → (nat_eq k k || false) ≡ true
      itself_too k = rw (equal_number k) refl

  any_append : (n : ℕ) (xs ys : List Place) → list_any (nat_eq n) (numbers (xs ++ ys)) ≡ (list_any (nat_eq n) (numbers xs) || list_any (nat_eq n) (numbers ys))
  any_append n [] ys = refl
  any_append n (x ∷ xs) ys = ap (λ (b : Bool). nat_eq n x.number || b) (any_append n xs ys) ∙ both (nat_eq n x.number) (list_any (nat_eq n) (numbers xs)) (list_any (nat_eq n) (numbers ys))
    where
      both : (a b c : Bool) → (a || (b || c)) ≡ ((a || b) || c)
      both true b c = refl
      both false b c = refl

  pub exact : (scripts : List Hash32) (n : ℕ) → list_any (nat_eq n) (numbers (places_found entries scripts)) ≡ among_at scripts slots n
  exact [] n = sym (none_among slots n)
  exact (s ∷ ss) n =
      any_append n (places_of_one entries s) (places_found entries ss)
      ∙ ap (λ (b : Bool). b || list_any (nat_eq n) (numbers (places_found entries ss))) (exact_one s (lookup (same_script s) entries) refl n)
      ∙ ap (λ (b : Bool). among_at (s ∷ []) slots n || b) (exact ss n) ∙ sym (one_more s ss slots n)

  -- each number once
  all_apart : (n : ℕ) (ns : List ℕ) → list_any (nat_eq n) ns ≡ false → AllByRecursion (λ (m : ℕ). eqb n m ≡ false) ns
  all_apart n [] none = tt
  all_apart n (m ∷ ms) none = let parts = or_parts (nat_eq n m) (list_any (nat_eq n) ms) none in (parts.0, all_apart n ms parts.1)

  pub each_once : (scripts : List Hash32) → IsDistinct same_script scripts → IsDistinct eqb (numbers (places_found entries scripts))
  unfolding IsDistinct
  each_once [] distinct = tt
  each_once (s ∷ ss) distinct = by (lookup (same_script s) entries) refl (each_once ss (IsDistinct-tail same_script s ss distinct))
    where
      by : (o : Option Held) → lookup (same_script s) entries ≡ o → IsDistinct eqb (numbers (places_found entries ss))
          → IsDistinct eqb (numbers (option_to_list (option_map (λ (held : Held). record { number = held.number; script_hash = s }) o) ++ places_found entries ss))
      by None is rest = rest
      by (Some held) is rest = IsDistinct-cons eqb held.number (numbers (places_found entries ss))
          (all_apart held.number (numbers (places_found entries ss))
          (exact ss held.number ∙ differs_at s ss slots held.number held.told (are.kept s held is) (IsDistinct-head same_script s ss distinct)))
          rest

-- ---- each has the script hash that stands at its number
abbrev pub own : Hash32 → Option Slot → Bool
own s None = false
own s (Some None) = false
own s (Some (Some sub)) = same_script s sub.0

abbrev pub is_strange : List Slot → Place → Bool
is_strange slots p = if own p.script_hash (slice_get slots p.number) then false else true

none_strange : (slots : List Slot) (entries : List (Hash32 × Held)) (next : ℕ) → AreHeld slots entries next → (scripts : List Hash32)
    → list_any (is_strange slots) (places_found entries scripts) ≡ false
none_strange slots entries next are [] = refl
none_strange slots entries next are (s ∷ ss) = by (lookup (same_script s) entries) refl (none_strange slots entries next are ss)
  where
    by : (o : Option Held) → lookup (same_script s) entries ≡ o → list_any (is_strange slots) (places_found entries ss) ≡ false
        → list_any (is_strange slots) (option_to_list (option_map (λ (held : Held). record { number = held.number; script_hash = s }) o) ++ places_found entries ss) ≡ false
    by None is rest = rest
    by (Some held) is rest =
        let here : own s (slice_get slots held.number) ≡ true = rw (are.kept s held is) (itself s) in
        rw here rest

-- ---- by rising numbers
abbrev pub Rises : ℕ → List Place → Type 0
Rises least [] = ⊤
Rises least (p ∷ ps) = (least ≤ p.number) × Rises (p.number + 1) ps

next : (k : ℕ) → suc k + 1 ≡ suc (k + 1)
next k = omega arith

rises_from : (ps : List Place) (least : ℕ) → IsStrictlyIncreasing (numbers ps) → ((p : Place) (rest : List Place) → ps ≡ p ∷ rest → least ≤ p.number) → Rises least ps
rises_from [] least up first = tt
rises_from (p ∷ []) least up first = (first p [] refl, tt)
rises_from (p ∷ q ∷ ps) least up first = (
  first p (q ∷ ps) refl,
  rises_from (q ∷ ps) (p.number + 1) (λ k lt. subst (λ (n : ℕ). slice_index (numbers (p ∷ q ∷ ps)) (suc k) < slice_index (numbers (p ∷ q ∷ ps)) n) (next k) (up (suc k) (omega (arith, lt))))
      (λ x rest is.
      let e : q ≡ x = cc in
      let step : p.number < q.number = up 0 (omega arith) in
      subst (λ (y : Place). p.number + 1 ≤ y.number) e (omega (arith, step))),
)

not_below : (ps : List Place) (least n : ℕ) → Rises least ps → n < least → list_any (nat_eq n) (numbers ps) ≡ false
not_below [] least n up lt = refl
not_below (p ∷ ps) least n up lt =
    let le = up.0 in
    let never : nat_eq n p.number ≡ false = false_from_ne_true _ (λ e. let is = eqb-true n p.number e in omega (arith, is, le, lt)) in
    rw never (not_below ps (p.number + 1) n up.1 (omega (arith, le, lt)))

higher : (ps : List Place) (least : ℕ) → Rises least ps → list_any (nat_eq least) (numbers ps) ≡ false → Rises (least + 1) ps
higher [] least up none = tt
higher (p ∷ ps) least up none =
    let parts = or_parts (nat_eq least p.number) (list_any (nat_eq least) (numbers ps)) none in
    let le = up.0 in
    (above least p.number parts.0 le, up.1)
  where
    above : (a b : ℕ) → nat_eq a b ≡ false → a ≤ b → a + 1 ≤ b
    above a b never le = grind arith

-- the places of a list of slots of which the first has that number
abbrev pub Stand : ℕ → List Slot → List Hash32 → List Place → Type 0
Stand first slots scripts ps =
    Rises first ps × ((k : ℕ) → list_any (nat_eq (first + k)) (numbers ps) ≡ among_at scripts slots k)
    × AllByRecursion (λ (p : Place). (k : ℕ) (sub : Subscription) → p.number ≡ first + k → slice_get slots k ≡ Some (Some sub) → p.script_hash ≡ sub.0) ps

abbrev pub scripts_of : List Place → List Hash32
scripts_of ps = map (λ (p : Place). p.script_hash) ps

all_later : (first : ℕ) (x : Slot) (xs : List Slot) (ps : List Place)
    → AllByRecursion (λ (p : Place). (k : ℕ) (sub : Subscription) → p.number ≡ first + k → slice_get (x ∷ xs) k ≡ Some (Some sub) → p.script_hash ≡ sub.0) ps
    → AllByRecursion (λ (p : Place). (k : ℕ) (sub : Subscription) → p.number ≡ (first + 1) + k → slice_get xs k ≡ Some (Some sub) → p.script_hash ≡ sub.0) ps
all_later first x xs [] all = tt
all_later first x xs (p ∷ ps) all = ((λ k sub is at. all.0 (suc k) sub (omega (arith, is)) at), all_later first x xs ps all.1)

passed : (first : ℕ) (x : Slot) (xs : List Slot) (scripts : List Hash32) (ps : List Place) → slot_among scripts x ≡ false → Stand first (x ∷ xs) scripts ps → Stand (first + 1) xs scripts ps
passed first x xs scripts ps never stand =
    let first_is : first + 0 ≡ first = omega arith in
    let none : list_any (nat_eq first) (numbers ps) ≡ false = subst (λ (n : ℕ). list_any (nat_eq n) (numbers ps) ≡ false) first_is (stand.1 0 ∙ never) in (
      higher ps first stand.0 none,
      (λ k.
          let next : first + suc k ≡ (first + 1) + k = omega arith in
          subst (λ (n : ℕ). list_any (nat_eq n) (numbers ps) ≡ among_at scripts xs k) next (stand.1 (suc k))),
      all_later first x xs ps stand.2,
    )

reached : (first : ℕ) (x : Subscription) (xs : List Slot) (scripts : List Hash32) (ps : List Place) → slot_among scripts (Some x) ≡ true → Stand first (Some x ∷ xs) scripts ps
    → (p : Place) × (rest : List Place) × (ps ≡ p ∷ rest) × (p.script_hash ≡ x.0) × Stand (first + 1) xs scripts rest
reached first x xs scripts [] some stand = absurd (true≢false (sym (stand.1 0 ∙ some)))
reached first x xs scripts (p ∷ ps) some stand =
    let first_is : first + 0 ≡ first = omega arith in
    let found : list_any (nat_eq first) (numbers (p ∷ ps)) ≡ true = subst (λ (n : ℕ). list_any (nat_eq n) (numbers (p ∷ ps)) ≡ true) first_is (stand.1 0 ∙ some) in
    let le = stand.0.0 in
    let later : list_any (nat_eq first) (numbers ps) ≡ false = not_below ps (p.number + 1) first stand.0.1 (omega (arith, le)) in
    let is : first ≡ p.number = eqb-true first p.number (first_of (nat_eq first p.number) (list_any (nat_eq first) (numbers ps)) found later) in (
      p,
      ps,
      refl,
      stand.2.0 0 x (omega (arith, is)) refl,
      (
        subst (λ (n : ℕ). Rises (n + 1) ps) (sym is) stand.0.1,
        (λ k.
            let next : first + suc k ≡ (first + 1) + k = omega arith in
            let never : nat_eq ((first + 1) + k) p.number ≡ false = false_from_ne_true _ (λ e. let z = eqb-true ((first + 1) + k) p.number e in omega (arith, z, is)) in
            sym (ap (λ (b : Bool). b || list_any (nat_eq ((first + 1) + k)) (numbers ps)) never)
            ∙ subst (λ (n : ℕ). list_any (nat_eq n) (numbers (p ∷ ps)) ≡ among_at scripts xs k) next (stand.1 (suc k))),
        all_later first (Some x) xs ps stand.2.1,
      ),
    )
  where
    first_of : (a b : Bool) → (a || b) ≡ true → b ≡ false → a ≡ true
    first_of true b e never = refl
    first_of false b e never = absurd (true≢false (sym e ∙ never))

pub in_order : (slots : List Slot) (first : ℕ) (scripts : List Hash32) (ps : List Place) → Stand first slots scripts ps → scripts_of ps ≡ held_among scripts (live slots)
in_order [] first scripts [] stand = refl
in_order [] first scripts (p ∷ ps) stand = absurd (
    let le = stand.0.0 in
    let there : first + (p.number - first) ≡ p.number = omega (arith, le) in
    let e : list_any (nat_eq p.number) (numbers (p ∷ ps)) ≡ false = subst (λ (n : ℕ). list_any (nat_eq n) (numbers (p ∷ ps)) ≡ false) there (stand.1 (p.number - first)) in
    let equal : nat_eq p.number p.number ≡ true = equal_number p.number in
    true≢false (sym (ap (λ (b : Bool). b || list_any (nat_eq p.number) (numbers ps)) equal) ∙ e))
in_order (None ∷ xs) first scripts ps stand = in_order xs (first + 1) scripts ps (passed first None xs scripts ps refl stand)
in_order (Some x ∷ xs) first scripts ps stand = by (list_any (same_script x.0) scripts) refl (λ rest stands. in_order xs (first + 1) scripts rest stands)
  where
    by : (b : Bool) → list_any (same_script x.0) scripts ≡ b → ((rest : List Place) → Stand (first + 1) xs scripts rest → scripts_of rest ≡ held_among scripts (live xs)) → scripts_of ps ≡ held_among scripts (x ∷ live xs)
    by false never later = rw never (later ps (passed first (Some x) xs scripts ps never stand))
    by true some later =
        let r = reached first x xs scripts ps some stand in
        ap scripts_of r.2 ∙ ap (λ (k : Hash32). k ∷ scripts_of r.1) r.3 ∙ ap (λ (l : List Hash32). x.0 ∷ l) (later r.1 r.4) ∙ rw some refl

-- ---- sorted, they are those of the subscriptions in their order
own_true : (b : Bool) → (if b then false else true) ≡ false → b ≡ true
own_true true e = refl
own_true false e = absurd (true≢false e)

strange : (slots : List Slot) (ps : List Place) → list_any (is_strange slots) ps ≡ false
    → AllByRecursion (λ (p : Place). (k : ℕ) (sub : Subscription) → p.number ≡ 0 + k → slice_get slots k ≡ Some (Some sub) → p.script_hash ≡ sub.0) ps
strange slots [] none = tt
strange slots (p ∷ ps) none =
    let parts = or_parts (is_strange slots p) (list_any (is_strange slots) ps) none in (
      (λ k sub is at.
          let same : p.number ≡ k = omega (arith, is) in
          let there : slice_get slots p.number ≡ Some (Some sub) = ap (slice_get slots) same ∙ at in
          one_script p.script_hash sub.0 (own_true (same_script p.script_hash sub.0) (sym (ap (λ (o : Option Slot). if own p.script_hash o then false else true) there) ∙ parts.0))),
      strange slots ps parts.1,
    )

none_falls : (ps : List Place) → IsNonDecreasingBy (λ (p : Place). p.number) ps → IsNonDecreasing (numbers ps)
none_falls [] up i j d le lt = absurd (omega (arith, lt))
none_falls (p ∷ ps) up i j d le lt =
    let long : j < length (p ∷ ps) = rw (length-map (p ∷ ps) (λ (q : Place). q.number)) at lt in
    rw (get_or-map (λ (q : Place). q.number) (p ∷ ps) i p d (omega (arith, le, long)), get_or-map (λ (q : Place). q.number) (p ∷ ps) j p d long) (up i j p le long)

module _ (slots : List Slot) (entries : List (Hash32 × Held)) (next : ℕ) (are : AreHeld slots entries next) (scripts : List Hash32) (distinct : IsDistinct same_script scripts)
    (places : List Place) (they : ArePlaces (places_found entries scripts) places) where
  moved : IsPermutation (numbers (places_found entries scripts)) (numbers places)
  moved = IsPermutation-map _ _ _ they.same

  falls : IsNonDecreasing (numbers places)
  falls = none_falls places they.ordered

  up : IsStrictlyIncreasing (numbers places)
  up = IsStrictlyIncreasing-from_distinct (numbers places) falls
      (IsDistinct-IsPermutation eqb flips (numbers (places_found entries scripts)) (numbers places) moved (each_once slots entries next are scripts distinct))

  there : (k : ℕ) → list_any (nat_eq (0 + k)) (numbers places) ≡ among_at scripts slots k
  there k =
      let zero_more : 0 + k ≡ k = omega arith in
      rw zero_more (sym (list_any-IsPermutation (nat_eq k) (numbers (places_found entries scripts)) (numbers places) moved) ∙ exact slots entries next are scripts k)

  pub sorted_in_order : scripts_of places ≡ held_among scripts (live slots)
  sorted_in_order =
      in_order slots 0 scripts places (
        rises_from places 0 up (λ p rest is. omega arith),
        there,
        strange slots places (sym (list_any-IsPermutation (is_strange slots) (places_found entries scripts) places they.same) ∙ none_strange slots entries next are scripts),
      )
