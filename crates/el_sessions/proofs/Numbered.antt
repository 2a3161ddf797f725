-- Subscriptions by their numbers, as they come and go.
use Rattle.std.proofs.Common.{◌≡◌, ◌≢◌, ◌⊎◌, inl, inr, ℕ, zero, suc, ◌+◌, ◌<◌, ◌≤◌, Bool, true, false, true≢false, if◌then◌else◌, ◌||◌, List, [], ◌∷◌, ◌++◌, length, slice_get, Option, Some, None, is_some, refl, sym, ap, ◌∙◌, subst, arith}
use Rattle.std.specs.Prelude.{option_map, Result, Ok, Err, OnOk, OnErr}
use Rattle.std.specs.List.{AllByRecursion, IsDistinct}
use Rattle.std.specs.Map.{lookup, keys_of}
use Rattle.std.proofs.lemmas.Map.Keys.{IsDistinct-cons}
use Rattle.el_base.specs.declared.hash.Hash32.{Hash32}
use Rattle.el_sessions.specs.Sessions.{Subscription, same_script, is_to, is_subscribed, subscribed, unsubscribed}
use Rattle.el_sessions.specs.declared.slots.Held.{Held}
use Rattle.el_sessions.specs.within.Slots.{put_at, live, AreHeld}
use Rattle.el_sessions.proofs.Scripts.{one_script, itself, either_way, comes_last}

abbrev pub Slot : Type 0
Slot = Option Subscription

-- ---- what stands at a number
pub put_same : (slots : List Slot) (n : ℕ) (x : Slot) → n ≤ length slots → slice_get (put_at slots n x) n ≡ Some x
put_same [] zero x le = refl
put_same [] (suc n) x le = absurd (omega (arith, le))
put_same (y ∷ ys) zero x le = refl
put_same (y ∷ ys) (suc n) x le = put_same ys n x (omega (arith, le))

pub put_other : (slots : List Slot) (n m : ℕ) (x : Slot) → n ≤ length slots → m ≢ n → slice_get (put_at slots n x) m ≡ slice_get slots m
put_other [] zero zero x le other = absurd (other refl)
put_other [] zero (suc m) x le other = refl
put_other [] (suc n) m x le other = absurd (omega (arith, le))
put_other (y ∷ ys) zero zero x le other = absurd (other refl)
put_other (y ∷ ys) zero (suc m) x le other = refl
put_other (y ∷ ys) (suc n) zero x le other = refl
put_other (y ∷ ys) (suc n) (suc m) x le other = put_other ys n m x (omega (arith, le)) (λ e. other (ap suc e))

pub longer : (slots : List Slot) (x : Slot) → length (put_at slots (length slots) x) ≡ length slots + 1
longer [] x = refl
longer (y ∷ ys) x = let e = longer ys x in omega (arith, e)

pub as_long : (slots : List Slot) (n : ℕ) (x : Slot) → n < length slots → length (put_at slots n x) ≡ length slots
as_long [] n x lt = absurd (omega (arith, lt))
as_long (y ∷ ys) zero x lt = refl
as_long (y ∷ ys) (suc n) x lt = ap suc (as_long ys n x (omega (arith, lt)))

pub inside : (slots : List Slot) (n : ℕ) (x : Slot) → slice_get slots n ≡ Some x → n < length slots
inside [] n x at = absurd cc
inside (y ∷ ys) zero x at = omega arith
inside (y ∷ ys) (suc n) x at = omega (arith, inside ys n x at)

same_number : (n m : ℕ) → (n ≡ m) ⊎ (n ≢ m)
same_number zero zero = inl refl
same_number zero (suc m) = inr (λ e. omega (arith, e))
same_number (suc n) zero = inr (λ e. omega (arith, e))
same_number (suc n) (suc m) = elim (same_number n m) [
  | inl e ↦ inl (ap suc e)
  | inr never ↦ inr (λ e. never (omega (arith, e)))
]

pub one_slot : (x y : Slot) → ◌≡◌ {A = Option Slot} (Some x) (Some y) → x ≡ y
one_slot x y e = cc

pub one_sub : (x y : Subscription) → ◌≡◌ {A = Slot} (Some x) (Some y) → x ≡ y
one_sub x y e = cc

some_not_none : (x : Subscription) → ◌≡◌ {A = Slot} (Some x) None → ⊥
some_not_none x e = cc

-- ---- the subscriptions that are held
pub live_added : (slots : List Slot) (sub : Subscription) → live (put_at slots (length slots) (Some sub)) ≡ live slots ++ sub ∷ []
live_added [] sub = refl
live_added (None ∷ ys) sub = live_added ys sub
live_added (Some x ∷ ys) sub = ap (λ (l : List Subscription). x ∷ l) (live_added ys sub)

pub is_live : (slots : List Slot) (n : ℕ) (s : Hash32) (told : Option Hash32) → slice_get slots n ≡ Some (Some (s, told))
    → is_subscribed s (live slots) ≡ true
is_live [] n s told at = absurd cc
is_live (None ∷ ys) zero s told at = absurd (some_not_none (s, told) (sym (one_slot _ _ at)))
is_live (None ∷ ys) (suc n) s told at = is_live ys n s told at
is_live (Some x ∷ ys) zero s told at =
    let is : x ≡ (s, told) = one_sub x (s, told) (one_slot _ _ at) in
    let e : is_to s x ≡ true = subst (λ (y : Subscription). same_script s y.0 ≡ true) (sym is) (itself s) in
    ap (λ (t : Bool). t || is_subscribed s (live ys)) e
is_live (Some x ∷ ys) (suc n) s told at = second (is_to s x) (is_subscribed s (live ys)) (is_live ys n s told at)
  where
    second : (a b : Bool) → b ≡ true → (a || b) ≡ true
    second true b e = refl
    second false b e = e

pub has_slot : (slots : List Slot) (s : Hash32) → is_subscribed s (live slots) ≡ true
    → (n : ℕ) × (told : Option Hash32) × (slice_get slots n ≡ Some (Some (s, told)))
has_slot [] s is = absurd (true≢false (sym is))
has_slot (None ∷ ys) s is =
    let there = has_slot ys s is in
    (suc there.0, there.1, there.2)
has_slot (Some x ∷ ys) s is = by (is_to s x) refl (λ some. has_slot ys s some)
  where
    by : (b : Bool) → is_to s x ≡ b → (is_subscribed s (live ys) ≡ true → (n : ℕ) × (told : Option Hash32) × (slice_get ys n ≡ Some (Some (s, told)))) → (n : ℕ) × (told : Option Hash32) × (slice_get (Some x ∷ ys) n ≡ Some (Some (s, told)))
    by true e rest = (0, x.1, ap (λ (k : Hash32). Some (Some (k, x.1))) (sym (one_script s x.0 e)))
    by false e rest =
        let there = rest (sym (ap (λ (t : Bool). t || is_subscribed s (live ys)) e) ∙ is) in
        (suc there.0, there.1, there.2)

-- the script hash stands at that number alone
abbrev pub StandsOnce : List Slot → ℕ → Hash32 → Type 0
StandsOnce slots n s = (m : ℕ) (told : Option Hash32) → slice_get slots m ≡ Some (Some (s, told)) → m ≡ n

once_later : (x : Slot) (ys : List Slot) (n : ℕ) (s : Hash32) → StandsOnce (x ∷ ys) (suc n) s → StandsOnce ys n s
once_later x ys n s once m told at = let e = once (suc m) told at in omega (arith, e)

not_first : (x : Subscription) (ys : List Slot) (n : ℕ) (s : Hash32) → StandsOnce (Some x ∷ ys) (suc n) s → is_to s x ≡ false
not_first x ys n s once = by (is_to s x) refl
  where
    by : (b : Bool) → is_to s x ≡ b → b ≡ false
    by false e = refl
    by true e = absurd (let z = once 0 x.1 (ap (λ (k : Hash32). Some (Some (k, x.1))) (sym (one_script s x.0 e))) in omega (arith, z))

first_is : (x : Subscription) (s : Hash32) (told : Option Hash32) → ◌≡◌ {A = Option Slot} (Some (Some x)) (Some (Some (s, told))) → (is_to s x ≡ true) × (x ≡ (s, told))
first_is x s told at =
    let is : x ≡ (s, told) = one_sub x (s, told) (one_slot _ _ at) in
    (subst (λ (y : Subscription). same_script s y.0 ≡ true) (sym is) (itself s), is)

pub live_dropped : (slots : List Slot) (n : ℕ) (s : Hash32) (told : Option Hash32) → slice_get slots n ≡ Some (Some (s, told)) → StandsOnce slots n s
    → live (put_at slots n None) ≡ unsubscribed s (live slots)
live_dropped [] n s told at once = absurd cc
live_dropped (None ∷ ys) zero s told at once = absurd (some_not_none (s, told) (sym (one_slot _ _ at)))
live_dropped (None ∷ ys) (suc n) s told at once = live_dropped ys n s told at (once_later None ys n s once)
live_dropped (Some x ∷ ys) zero s told at once = rw (first_is x s told at).0 refl
live_dropped (Some x ∷ ys) (suc n) s told at once =
    rw (not_first x ys n s once) (ap (λ (l : List Subscription). x ∷ l) (live_dropped ys n s told at (once_later (Some x) ys n s once)))

pub live_noted : (slots : List Slot) (n : ℕ) (s : Hash32) (was told : Option Hash32) → slice_get slots n ≡ Some (Some (s, was)) → StandsOnce slots n s
    → live (put_at slots n (Some (s, told))) ≡ subscribed s told (live slots)
live_noted [] n s was told at once = absurd cc
live_noted (None ∷ ys) zero s was told at once = absurd (some_not_none (s, was) (sym (one_slot _ _ at)))
live_noted (None ∷ ys) (suc n) s was told at once = live_noted ys n s was told at (once_later None ys n s once)
live_noted (Some x ∷ ys) zero s was told at once =
    let first = first_is x s was at in
    rw first.0 (ap (λ (k : Hash32). (k, told) ∷ live ys) (sym (ap (λ (y : Subscription). y.0) first.1)))
live_noted (Some x ∷ ys) (suc n) s was told at once =
    rw (not_first x ys n s once) (ap (λ (l : List Subscription). x ∷ l) (live_noted ys n s was told at (once_later (Some x) ys n s once)))

-- what was told last of it
pub told_live : (slots : List Slot) (n : ℕ) (s : Hash32) (told : Option Hash32) → slice_get slots n ≡ Some (Some (s, told)) → StandsOnce slots n s
    → lookup (same_script s) (live slots) ≡ Some told
told_live [] n s told at once = absurd cc
told_live (None ∷ ys) zero s told at once = absurd (some_not_none (s, told) (sym (one_slot _ _ at)))
told_live (None ∷ ys) (suc n) s told at once = told_live ys n s told at (once_later None ys n s once)
told_live (Some x ∷ ys) zero s told at once =
    let first = first_is x s told at in
    rw first.0 (ap (λ (y : Subscription). Some y.1) first.1)
told_live (Some x ∷ ys) (suc n) s told at once = rw (not_first x ys n s once) (told_live ys n s told at (once_later (Some x) ys n s once))

pub none_told : (s : Hash32) (subs : List Subscription) → is_subscribed s subs ≡ false → lookup (same_script s) subs ≡ None
none_told s [] none = refl
none_told s (x ∷ xs) none = by (is_to s x) refl (λ never. none_told s xs never)
  where
    by : (b : Bool) → is_to s x ≡ b → (is_subscribed s xs ≡ false → lookup (same_script s) xs ≡ None) → lookup (same_script s) (x ∷ xs) ≡ None
    by true e rest = absurd (true≢false (sym (ap (λ (t : Bool). t || is_subscribed s xs) e) ∙ none))
    by false e rest = rw e (rest (sym (ap (λ (t : Bool). t || is_subscribed s xs) e) ∙ none))

-- ---- how many there are
as_many : (s : Hash32) (told : Option Hash32) (subs : List Subscription) → is_subscribed s subs ≡ true → length (subscribed s told subs) ≡ length subs
as_many s told [] none = absurd (true≢false (sym none))
as_many s told (x ∷ xs) some = here (is_to s x) refl (λ rest. as_many s told xs rest)
  where
    here : (b : Bool) → is_to s x ≡ b → (is_subscribed s xs ≡ true → length (subscribed s told xs) ≡ length xs) → length (subscribed s told (x ∷ xs)) ≡ length (x ∷ xs)
    here true e rest = rw e refl
    here false e rest = rw e (ap suc (rest (sym (ap (λ (t : Bool). t || is_subscribed s xs) e) ∙ some)))

pub one_fewer : (s : Hash32) (subs : List Subscription) → is_subscribed s subs ≡ true → length (unsubscribed s subs) + 1 ≡ length subs
one_fewer s [] none = absurd (true≢false (sym none))
one_fewer s (x ∷ xs) some = here (is_to s x) refl (λ rest. one_fewer s xs rest)
  where
    here : (b : Bool) → is_to s x ≡ b → (is_subscribed s xs ≡ true → length (unsubscribed s xs) + 1 ≡ length xs) → length (unsubscribed s (x ∷ xs)) + 1 ≡ length (x ∷ xs)
    here true e rest = rw e (omega arith)
    here false e rest =
        let fewer = rest (sym (ap (λ (t : Bool). t || is_subscribed s xs) e) ∙ some) in
        rw e (omega (arith, fewer))

-- ---- no script hash stands twice
abbrev AllApart : List Slot → Type 0
AllApart xs = (m n : ℕ) (s t : Hash32) (told again : Option Hash32) → slice_get xs m ≡ Some (Some (s, told)) → slice_get xs n ≡ Some (Some (t, again)) → same_script s t ≡ true → n ≡ m

none_is : (x : Subscription) (xs : List Slot) → ((n : ℕ) (t : Hash32) (again : Option Hash32) → slice_get xs n ≡ Some (Some (t, again)) → same_script x.0 t ≡ false)
    → AllByRecursion (λ (k : Hash32). same_script x.0 k ≡ false) (keys_of (live xs))
none_is x [] never = tt
none_is x (None ∷ xs) never = none_is x xs (λ n t again at. never (suc n) t again at)
none_is x (Some y ∷ xs) never = (never 0 y.0 y.1 refl, none_is x xs (λ n t again at. never (suc n) t again at))

fewer_apart : (x : Slot) (xs : List Slot) → AllApart (x ∷ xs) → AllApart xs
fewer_apart x xs far m n s t told again at there e = let z = far (suc m) (suc n) s t told again at there e in omega (arith, z)

distinct_of : (xs : List Slot) → AllApart xs → IsDistinct same_script (keys_of (live xs))
unfolding IsDistinct
distinct_of [] far = tt
distinct_of (None ∷ xs) far = distinct_of xs (fewer_apart None xs far)
distinct_of (Some x ∷ xs) far = IsDistinct-cons same_script x.0 (keys_of (live xs))
    (none_is x xs (λ n t again at. elim (either_way (same_script x.0 t)) [
      | inl e ↦ absurd (let z = far 0 (suc n) x.0 t x.1 again refl at e in omega (arith, z))
      | inr e ↦ e
    ]))
    (distinct_of xs (fewer_apart (Some x) xs far))

-- what is kept already doesn't fail
pub is_kept : {T E : Type 0} (r : Result T E) (P : Type 0) (entries : List (Hash32 × Held)) (s : Hash32) (held : Held) → lookup (same_script s) entries ≡ Some held
    → OnErr r (lookup (same_script s) entries ≡ None) → OnOk r P → P
is_kept (Ok x) P entries s held is absent ok = ok
is_kept (Err e) P entries s held is absent ok = absurd (let f : ◌≡◌ {A = Option Held} (Some held) None = sym is ∙ absent in cc)

key_found : (es : List (Hash32 × Held)) (k : ℕ) (s : Hash32) (held : Held) → slice_get es k ≡ Some (s, held) → is_some (lookup (same_script s) es) ≡ true
key_found [] k s held at = absurd cc
key_found (e ∷ es) zero s held at =
    let is : e ≡ (s, held) = cc in
    rw (subst (λ (x : Hash32 × Held). same_script s x.0 ≡ true) (sym is) (itself s)) refl
key_found (e ∷ es) (suc k) s held at = by (same_script s e.0) (key_found es k s held at)
  where
    by : (b : Bool) → is_some (lookup (same_script s) es) ≡ true → is_some (if b then Some e.1 else lookup (same_script s) es) ≡ true
    by true rest = refl
    by false rest = rest

-- ---- the map beside them
module _ (slots : List Slot) (entries : List (Hash32 × Held)) (next : ℕ) (are : AreHeld slots entries next) where
  pub stands_once : (s : Hash32) (held : Held) → lookup (same_script s) entries ≡ Some held → StandsOnce slots held.number s
  stands_once s held is m told at =
      let e : ◌≡◌ {A = Option Held} (Some held) (Some (record { told = told; number = m })) = sym is ∙ are.found m (s, told) at in
      let same : held ≡ record { told = told; number = m } = cc in
      sym (ap (λ (h : Held). h.number) same)

  pub held_live : (s : Hash32) (o : Option Held) → lookup (same_script s) entries ≡ o → is_some o ≡ is_subscribed s (live slots)
  held_live s (Some held) is = sym (is_live slots held.number s held.told (are.kept s held is))
  held_live s None is = by (is_subscribed s (live slots)) refl
    where
      by : (b : Bool) → is_subscribed s (live slots) ≡ b → false ≡ b
      by false e = refl
      by true e =
          let there = has_slot slots s e in
          absurd (let f : ◌≡◌ {A = Option Held} None (Some (record { told = there.1; number = there.0 })) = sym is ∙ are.found there.0 (s, there.1) there.2 in cc)

  pub told_held : (s : Hash32) (o : Option Held) → lookup (same_script s) entries ≡ o → option_map (λ (h : Held). h.told) o ≡ lookup (same_script s) (live slots)
  told_held s (Some held) is = sym (told_live slots held.number s held.told (are.kept s held is) (stands_once s held is))
  told_held s None is = sym (none_told s (live slots) (sym (held_live s None is)))

  -- a key of the map is a script hash that is held
  pub key_live : (k : ℕ) (s : Hash32) (held : Held) → slice_get entries k ≡ Some (s, held) → is_subscribed s (live slots) ≡ true
  key_live k s held at = sym (held_live s _ refl) ∙ key_found entries k s held at

  pub no_entry : (s : Hash32) → is_subscribed s (live slots) ≡ false → lookup (same_script s) entries ≡ None
  no_entry s none = by (lookup (same_script s) entries) refl
    where
      by : (o : Option Held) → lookup (same_script s) entries ≡ o → o ≡ None
      by None e = refl
      by (Some held) e = absurd (true≢false (held_live s (Some held) e ∙ none))

  apart : (s : Hash32) (held other : Held) (t : Hash32) → lookup (same_script s) entries ≡ Some held → lookup (same_script t) entries ≡ Some other
      → same_script s t ≡ false → other.number ≢ held.number
  apart s held other t is at never e =
      let a = are.kept s held is in
      let b = subst (λ (n : ℕ). slice_get slots n ≡ Some (Some (t, other.told))) e (are.kept t other at) in
      let f : ◌≡◌ {A = Option Slot} (Some (Some (s, held.told))) (Some (Some (t, other.told))) = sym a ∙ b in
      let same : s ≡ t = ap (λ (y : Subscription). y.0) (one_sub _ _ (one_slot _ _ f)) in
      true≢false (sym (subst (λ (k : Hash32). same_script s k ≡ true) same (itself s)) ∙ never)

  -- one more
  pub held_added : (new : List (Hash32 × Held)) (s : Hash32) (told : Option Hash32) → lookup (same_script s) entries ≡ None
      → ((t : Hash32) → lookup (same_script t) new ≡ (if same_script s t then Some (record { told = told; number = next }) else lookup (same_script t) entries))
      → length new ≡ length entries + (if is_some (lookup (same_script s) entries) then 0 else 1)
      → (AreHeld (put_at slots next (Some (s, told))) new (next + 1)) × (live (put_at slots next (Some (s, told))) ≡ subscribed s told (live slots))
  held_added new s told none updates len =
      let last : length slots ≡ next = are.next_is in
      let le : next ≤ length slots = omega (arith, last) in
      let grew : live (put_at slots next (Some (s, told))) ≡ live slots ++ (s, told) ∷ [] = subst (λ (n : ℕ). live (put_at slots n (Some (s, told))) ≡ live slots ++ (s, told) ∷ []) last (live_added slots (s, told)) in
      let fresh : is_subscribed s (live slots) ≡ false = sym (held_live s None none) in (
        record {
          next_is = subst (λ (n : ℕ). length (put_at slots n (Some (s, told))) ≡ n + 1) last (longer slots (Some (s, told)));
          many = len ∙ ap (λ (o : Option Held). length entries + (if is_some o then 0 else 1)) none ∙ ap (λ (n : ℕ). n + 1) are.many ∙ sym (ap length grew ∙ one_more (live slots));
          kept = λ t held at. by t held at (same_script s t) refl;
          found = λ n sub at. elim (same_number n next) [
            | inl is ↦
                let here : ◌≡◌ {A = Option Slot} (Some (Some sub)) (Some (Some (s, told))) = sym at ∙ ap (slice_get (put_at slots next (Some (s, told)))) is ∙ put_same slots next (Some (s, told)) le in
                let that : sub ≡ (s, told) = one_sub _ _ (one_slot _ _ here) in
                rw (that, is) (updates s ∙ ap (λ (b : Bool). if b then Some (record { told = told; number = next }) else lookup (same_script s) entries) (itself s))
            | inr never ↦
                let old : slice_get slots n ≡ Some (Some sub) = sym (put_other slots next n (Some (s, told)) le never) ∙ at in
                let is = are.found n sub old in
                let other : same_script s sub.0 ≡ false = not_it sub.0 _ is in
                updates sub.0 ∙ ap (λ (b : Bool). if b then Some (record { told = told; number = next }) else lookup (same_script sub.0) entries) other ∙ is
          ];
        },
        grew ∙ sym (comes_last s told (live slots) fresh),
      )
    where
      one_more : (subs : List Subscription) → length (subs ++ (s, told) ∷ []) ≡ length subs + 1
      one_more [] = refl
      one_more (x ∷ xs) = let e = one_more xs in omega (arith, e)

      not_it : (t : Hash32) (held : Held) → lookup (same_script t) entries ≡ Some held → same_script s t ≡ false
      not_it t held is = elim (either_way (same_script s t)) [
        | inl e ↦ absurd (let f : ◌≡◌ {A = Option Held} None (Some held) = sym none ∙ subst (λ (k : Hash32). lookup (same_script k) entries ≡ Some held) (sym (one_script s t e)) is in cc)
        | inr e ↦ e
      ]

      by : (t : Hash32) (held : Held) → lookup (same_script t) new ≡ Some held → (b : Bool) → same_script s t ≡ b → slice_get (put_at slots next (Some (s, told))) held.number ≡ Some (Some (t, held.told))
      by t held at true e =
          let f : ◌≡◌ {A = Option Held} (Some (record { told = told; number = next })) (Some held) = sym (rw e at (updates t)) ∙ at in
          let same : record { told = told; number = next } ≡ held = cc in
          let last : length slots ≡ next = are.next_is in
          subst (λ (h : Held). slice_get (put_at slots next (Some (s, told))) h.number ≡ Some (Some (t, h.told))) same
          (put_same slots next (Some (s, told)) (omega (arith, last)) ∙ ap (λ (k : Hash32). Some (Some (k, told))) (one_script s t e))
      by t held at false e =
          let old : lookup (same_script t) entries ≡ Some held = sym (rw e at (updates t)) ∙ at in
          let there = are.kept t held old in
          let last : length slots ≡ next = are.next_is in
          let lt = inside slots held.number _ there in
          put_other slots next held.number (Some (s, told)) (omega (arith, last)) (λ e. omega (arith, e, lt, last)) ∙ there

  -- one that is there is told anew, or dropped
  module _ (s : Hash32) (held : Held) (is : lookup (same_script s) entries ≡ Some held) where
    there : slice_get slots held.number ≡ Some (Some (s, held.told))
    there = are.kept s held is

    within : held.number < length slots
    within = inside slots held.number _ there

    pub held_noted : (new : List (Hash32 × Held)) (told : Option Hash32)
        → ((t : Hash32) → lookup (same_script t) new ≡ (if same_script s t then Some (record { told = told; number = held.number }) else lookup (same_script t) entries))
        → length new ≡ length entries + (if is_some (lookup (same_script s) entries) then 0 else 1)
        → (AreHeld (put_at slots held.number (Some (s, told))) new next) × (live (put_at slots held.number (Some (s, told))) ≡ subscribed s told (live slots))
    held_noted new told updates len =
        let seen = live_noted slots held.number s held.told told there (stands_once s held is) in
        let lt = within in (
          record {
            next_is = as_long slots held.number (Some (s, told)) within ∙ are.next_is;
            many = len ∙ ap (λ (o : Option Held). length entries + (if is_some o then 0 else 1)) is ∙ none_more (length entries) ∙ are.many ∙ sym (ap length seen ∙ as_many s told (live slots) (is_live slots held.number s held.told there));
            kept = λ t other at. by t other at (same_script s t) refl;
            found = λ n sub at. elim (same_number n held.number) [
              | inl e ↦
                  let here : ◌≡◌ {A = Option Slot} (Some (Some sub)) (Some (Some (s, told))) = sym at ∙ ap (slice_get (put_at slots held.number (Some (s, told)))) e ∙ put_same slots held.number (Some (s, told)) (omega (arith, lt)) in
                  let that : sub ≡ (s, told) = one_sub _ _ (one_slot _ _ here) in
                  rw (that, e) (updates s ∙ ap (λ (b : Bool). if b then Some (record { told = told; number = held.number }) else lookup (same_script s) entries) (itself s))
              | inr never ↦
                  let old : slice_get slots n ≡ Some (Some sub) = sym (put_other slots held.number n (Some (s, told)) (omega (arith, lt)) never) ∙ at in
                  let known = are.found n sub old in
                  updates sub.0 ∙ ap (λ (b : Bool). if b then Some (record { told = told; number = held.number }) else lookup (same_script sub.0) entries) (differs n sub never old) ∙ known
            ];
          },
          seen,
        )
      where
        none_more : (n : ℕ) → n + 0 ≡ n
        none_more n = omega arith

        differs : (n : ℕ) (sub : Subscription) → n ≢ held.number → slice_get slots n ≡ Some (Some sub) → same_script s sub.0 ≡ false
        differs n sub never old = elim (either_way (same_script s sub.0)) [
          | inl e ↦ absurd (never (stands_once s held is n sub.1 (old ∙ ap (λ (k : Hash32). Some (Some (k, sub.1))) (sym (one_script s sub.0 e)))))
          | inr e ↦ e
        ]

        by : (t : Hash32) (other : Held) → lookup (same_script t) new ≡ Some other → (b : Bool) → same_script s t ≡ b → slice_get (put_at slots held.number (Some (s, told))) other.number ≡ Some (Some (t, other.told))
        by t other at true e =
            let f : ◌≡◌ {A = Option Held} (Some (record { told = told; number = held.number })) (Some other) = sym (rw e at (updates t)) ∙ at in
            let same : record { told = told; number = held.number } ≡ other = cc in
            let lt = within in
            subst (λ (h : Held). slice_get (put_at slots held.number (Some (s, told))) h.number ≡ Some (Some (t, h.told))) same
            (put_same slots held.number (Some (s, told)) (omega (arith, lt)) ∙ ap (λ (k : Hash32). Some (Some (k, told))) (one_script s t e))
        by t other at false e =
            let old : lookup (same_script t) entries ≡ Some other = sym (rw e at (updates t)) ∙ at in
            let lt = within in
            put_other slots held.number other.number (Some (s, told)) (omega (arith, lt)) (apart s held other t is old e) ∙ are.kept t other old

    pub held_dropped : (new : List (Hash32 × Held))
        → ((t : Hash32) → lookup (same_script t) new ≡ (if same_script s t then None else lookup (same_script t) entries))
        → length new + 1 ≡ length entries
        → (AreHeld (put_at slots held.number None) new next) × (live (put_at slots held.number None) ≡ unsubscribed s (live slots))
    held_dropped new updates len =
        let seen = live_dropped slots held.number s held.told there (stands_once s held is) in
        let lt = within in (
          record {
            next_is = as_long slots held.number None within ∙ are.next_is;
            many =
                let fewer = one_fewer s (live slots) (is_live slots held.number s held.told there) in
                let known = are.many in
                let shown = ap length seen in
                omega (arith, fewer, known, shown, len);
            kept = λ t other at. by t other at (same_script s t) refl;
            found = λ n sub at. elim (same_number n held.number) [
              | inl e ↦ absurd (some_not_none sub (one_slot _ _ (sym at ∙ ap (slice_get (put_at slots held.number None)) e ∙ put_same slots held.number None (omega (arith, lt)))))
              | inr never ↦
                  let old : slice_get slots n ≡ Some (Some sub) = sym (put_other slots held.number n None (omega (arith, lt)) never) ∙ at in
                  let known = are.found n sub old in
                  updates sub.0 ∙ ap (λ (b : Bool). if b then None else lookup (same_script sub.0) entries) (differs n sub never old) ∙ known
            ];
          },
          seen,
        )
      where
        differs : (n : ℕ) (sub : Subscription) → n ≢ held.number → slice_get slots n ≡ Some (Some sub) → same_script s sub.0 ≡ false
        differs n sub never old = elim (either_way (same_script s sub.0)) [
          | inl e ↦ absurd (never (stands_once s held is n sub.1 (old ∙ ap (λ (k : Hash32). Some (Some (k, sub.1))) (sym (one_script s sub.0 e)))))
          | inr e ↦ e
        ]

        by : (t : Hash32) (other : Held) → lookup (same_script t) new ≡ Some other → (b : Bool) → same_script s t ≡ b → slice_get (put_at slots held.number None) other.number ≡ Some (Some (t, other.told))
        by t other at true e = absurd (let f : ◌≡◌ {A = Option Held} None (Some other) = sym (rw e at (updates t)) ∙ at in cc)
        by t other at false e =
            let old : lookup (same_script t) entries ≡ Some other = sym (rw e at (updates t)) ∙ at in
            let lt = within in
            put_other slots held.number other.number None (omega (arith, lt)) (apart s held other t is old e) ∙ are.kept t other old

  pub distinct_live : IsDistinct same_script (keys_of (live slots))
  distinct_live = distinct_of slots (λ m n s t told again at there e.
      let same : s ≡ t = one_script s t e in
      stands_once s _ (are.found m (s, told) at) n again (there ∙ ap (λ (k : Hash32). Some (Some (k, again))) (sym same)))
