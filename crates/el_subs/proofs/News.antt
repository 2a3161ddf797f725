-- Laws of what is told of subscriptions.
use Rattle.std.proofs.Common.{◌≡◌, ◌⊎◌, inl, inr, ℕ, zero, suc, ◌+◌, ◌≤◌, ◌<◌, Bool, true, false, not, if◌then◌else◌, ◌||◌, List, [], ◌∷◌, ◌++◌, length, drop, get_or, Option, Some, None, refl, sym, ap, ◌∙◌, subst, arith, append-nil, append_assoc, true≢false}
use Rattle.std.specs.Prelude.{filter}
use Rattle.std.specs.List.{AllByRecursion, IsDistinct, list_any}
use Rattle.std.specs.Map.{keys_of, lookup}
use Rattle.std.specs.Option.{option_eq}
use Rattle.std.proofs.lemmas.List.{drop_all}
use Rattle.std.proofs.lemmas.Map.Keys.{IsDistinct-head, IsDistinct-tail, IsDistinct-cons}
use Rattle.el_base.specs.declared.hash.Hash32.{Hash32}
use Rattle.el_block.specs.Blocks.{AllDiffer}
use Rattle.el_chain.specs.Headers.{same_hash}
use Rattle.el_chain.proofs.TouchLemmas.{hash_gives}
use Rattle.el_sessions.specs.Sessions.{Subscription, same_script, is_to, is_subscribed, subscribed, held_among}
use Rattle.el_sessions.proofs.Scripts.{one_script, itself, either_way, turned}
use Rattle.el_subs.specs.Told.{is_news, retold, news, marked, IsTold, AllTold, OthersTold, is_touched, cost_of}
use Rattle.el_subs.specs.within.Partly.{one_to, noted, all_noted, all_news}

status_is_same : (a : Option Hash32) → option_eq same_hash a a ≡ true
status_is_same None = refl
status_is_same (Some a) = itself a

same_told : (a b : Option Hash32) → option_eq same_hash a b ≡ true → a ≡ b
same_told None None e = refl
same_told None (Some b) e = absurd (true≢false (sym e))
same_told (Some a) None e = absurd (true≢false (sym e))
same_told (Some a) (Some b) e = ap Some (hash_gives a b e)

-- what is left begins with the next one
first_left : (scripts : List Hash32) (i : ℕ) (d : Hash32) → i < length scripts → drop i scripts ≡ get_or scripts i d ∷ drop (i + 1) scripts
first_left [] i d lt = absurd (omega (arith, lt))
first_left (x ∷ xs) zero d lt = refl
first_left (x ∷ xs) (suc i) d lt =
    let e : suc (i + 1) ≡ suc i + 1 = omega (arith) in
    first_left xs i d (omega (arith, lt)) ∙ ap (λ (n : ℕ). get_or xs i d ∷ drop n (x ∷ xs)) e

pub not_false : (b : Bool) → not b ≡ false → b ≡ true
not_false true e = refl
not_false false e = absurd (true≢false e)

pub not_true : (b : Bool) → not b ≡ true → b ≡ false
not_true false e = refl
not_true true e = absurd (true≢false (sym e))

-- ---- one script hash

-- whether it is there, by what is kept of it
is_there : (s : Hash32) (told : Option Hash32) (subs : List Subscription) → lookup (same_script s) subs ≡ Some told → is_subscribed s subs ≡ true
is_there s told [] at = absurd cc
is_there s told (x ∷ xs) at = by (is_to s x) refl (λ e. is_there s told xs e)
  where
    by : (b : Bool) → is_to s x ≡ b → (lookup (same_script s) xs ≡ Some told → is_subscribed s xs ≡ true) → is_subscribed s (x ∷ xs) ≡ true
    by true e rest = ap (λ (b : Bool). b || is_subscribed s xs) e
    by false e rest = ap (λ (b : Bool). b || is_subscribed s xs) e ∙ rest (rw e at at)

is_absent : (s : Hash32) (subs : List Subscription) → lookup (same_script s) subs ≡ None → is_subscribed s subs ≡ false
is_absent s [] none = refl
is_absent s (x ∷ xs) none = by (is_to s x) refl (λ e. is_absent s xs e)
  where
    by : (b : Bool) → is_to s x ≡ b → (lookup (same_script s) xs ≡ None → is_subscribed s xs ≡ false) → is_subscribed s (x ∷ xs) ≡ false
    by true e rest = absurd (let bad : ◌≡◌ {A = Option (Option Hash32)} (Some x.1) None = rw e at none in cc)
    by false e rest = ap (λ (b : Bool). b || is_subscribed s xs) e ∙ rest (rw e at none)

-- what was told of it is told again
told_again : (s : Hash32) (told : Option Hash32) (subs : List Subscription) → lookup (same_script s) subs ≡ Some told → subscribed s told subs ≡ subs
told_again s told [] at = absurd cc
told_again s told (x ∷ xs) at = by (is_to s x) refl (λ e. told_again s told xs e)
  where
    by : (b : Bool) → is_to s x ≡ b → (lookup (same_script s) xs ≡ Some told → subscribed s told xs ≡ xs) → subscribed s told (x ∷ xs) ≡ x ∷ xs
    by true e rest =
        let is : ◌≡◌ {A = Option (Option Hash32)} (Some x.1) (Some told) = rw e at at in
        let same : x.1 ≡ told = cc in
        rw e (ap (λ (t : Option Hash32). (x.0, t) ∷ xs) (sym same))
    by false e rest = rw e (ap (λ (l : List Subscription). x ∷ l) (rest (rw e at at)))

-- the script hashes stay
pub keys_noted : (s : Hash32) (told : Option Hash32) (subs : List Subscription) → is_subscribed s subs ≡ true → keys_of (subscribed s told subs) ≡ keys_of subs
keys_noted s told [] none = absurd (true≢false (sym none))
keys_noted s told (x ∷ xs) some = by (is_to s x) refl (λ rest. keys_noted s told xs rest)
  where
    by : (b : Bool) → is_to s x ≡ b → (is_subscribed s xs ≡ true → keys_of (subscribed s told xs) ≡ keys_of xs) → keys_of (subscribed s told (x ∷ xs)) ≡ keys_of (x ∷ xs)
    by true e rest = rw e refl
    by false e rest = rw e (ap (λ (l : List Hash32). x.0 ∷ l) (rest (sym (ap (λ (b : Bool). b || is_subscribed s xs) e) ∙ some)))

-- it is noted, where it is there
pub keys_told : (s : Hash32) (told now : Option Hash32) (subs next : List Subscription) → lookup (same_script s) subs ≡ Some told
    → (is_subscribed s subs ≡ true → next ≡ subscribed s now subs) → keys_of next ≡ keys_of subs
keys_told s told now subs next at set =
    let there = is_there s told subs at in
    ap (λ (l : List Subscription). keys_of l) (set there) ∙ keys_noted s now subs there

module _ (status : Hash32 → Option Hash32) where
  -- what is told isn't told again
  no_news : (sub : Subscription) → IsTold status sub → is_news status sub ≡ false
  no_news sub told = ap (λ (t : Option Hash32). not (option_eq same_hash (status sub.0) t)) told ∙ ap not (status_is_same (status sub.0))

  told_nothing : (s : Hash32) (told : Option Hash32) → told ≡ status s → news status ((s, told) ∷ []) ≡ []
  told_nothing s told is = rw (no_news (s, told) is) refl

  -- there is no subscription to it
  pub one_absent : (s : Hash32) (found subs : List Subscription) → lookup (same_script s) subs ≡ None
      → (found ≡ found ++ news status (one_to s subs)) × (subs ≡ noted status s subs)
  one_absent s found subs none = (rw none (sym (append-nil found)), rw (is_absent s subs none) refl)

  -- its status is the one told last
  pub one_same : (s : Hash32) (told now : Option Hash32) (found subs : List Subscription) → lookup (same_script s) subs ≡ Some told
      → option_eq same_hash now told ≡ true → now ≡ status s
      → (found ≡ found ++ news status (one_to s subs)) × (subs ≡ noted status s subs)
  one_same s told now found subs at same is =
      let last : told ≡ status s = sym (same_told now told same) ∙ is in (
        rw at (sym (append-nil found) ∙ ap (λ (l : List Subscription). found ++ l) (sym (told_nothing s told last))),
        rw (is_there s told subs at) (sym (ap (λ (t : Option Hash32). subscribed s t subs) (sym last) ∙ told_again s told subs at)),
      )

  -- it isn't
  pub one_told : (s : Hash32) (told now : Option Hash32) (found after subs next : List Subscription) → lookup (same_script s) subs ≡ Some told
      → option_eq same_hash now told ≡ false → now ≡ status s
      → after ≡ found ++ (s, now) ∷ [] → (is_subscribed s subs ≡ true → next ≡ subscribed s now subs)
      → (after ≡ found ++ news status (one_to s subs)) × (next ≡ noted status s subs)
  one_told s told now found after subs next at other is pushed set =
      let there = is_there s told subs at in
      let new : is_news status (s, told) ≡ true = ap not (ap (λ (t : Option Hash32). option_eq same_hash t told) (sym is) ∙ other) in
      let one : news status ((s, told) ∷ []) ≡ (s, now) ∷ [] = rw new (ap (λ (t : Option Hash32). (s, t) ∷ []) (sym is)) in (
        pushed ∙ ap (λ (l : List Subscription). found ++ l) (sym (rw at one)),
        set there ∙ rw there (ap (λ (t : Option Hash32). subscribed s t subs) is),
      )

  -- ---- those of the script hashes to which there is a subscription, one after the other

  -- of one that is none of them nothing is told
  passed_noted : (scripts : List Hash32) (x : Subscription) (xs : List Subscription) → AllByRecursion (λ (s : Hash32). same_script x.0 s ≡ false) scripts
      → all_noted status scripts (x ∷ xs) ≡ x ∷ all_noted status scripts xs
  passed_noted [] x xs none = refl
  passed_noted (s ∷ scripts) x xs none =
      let other : is_to s x ≡ false = turned x.0 s false none.0 in
      ap (all_noted status scripts) (by (is_subscribed s xs) refl other) ∙ passed_noted scripts x (noted status s xs) none.1
    where
      by : (b : Bool) → is_subscribed s xs ≡ b → is_to s x ≡ false → noted status s (x ∷ xs) ≡ x ∷ noted status s xs
      by true e other = rw (other, e) refl
      by false e other = rw (other, e) refl

  passed_news : (scripts : List Hash32) (x : Subscription) (xs : List Subscription) → AllByRecursion (λ (s : Hash32). same_script x.0 s ≡ false) scripts
      → all_news status scripts (x ∷ xs) ≡ all_news status scripts xs
  passed_news [] x xs none = refl
  passed_news (s ∷ scripts) x xs none =
      let other : is_to s x ≡ false = turned x.0 s false none.0 in
      let one : one_to s (x ∷ xs) ≡ one_to s xs = rw other refl in
      let rest : noted status s (x ∷ xs) ≡ x ∷ noted status s xs = by (is_subscribed s xs) refl other in
      ap (λ (l : List Subscription). news status l ++ all_news status scripts (noted status s (x ∷ xs))) one
      ∙ ap (λ (l : List Subscription). news status (one_to s xs) ++ l) (ap (all_news status scripts) rest ∙ passed_news scripts x (noted status s xs) none.1)
    where
      by : (b : Bool) → is_subscribed s xs ≡ b → is_to s x ≡ false → noted status s (x ∷ xs) ≡ x ∷ noted status s xs
      by true e other = rw (other, e) refl
      by false e other = rw (other, e) refl

  none_held : (scripts : List Hash32) (s : Hash32) (keys : List Hash32) → AllByRecursion (λ (k : Hash32). same_script s k ≡ false) keys
      → AllByRecursion (λ (k : Hash32). same_script s k ≡ false) (filter (λ (k : Hash32). list_any (same_script k) scripts) keys)
  none_held scripts s [] none = tt
  none_held scripts s (k ∷ keys) none = by (list_any (same_script k) scripts) refl (none_held scripts s keys none.1)
    where
      by : (b : Bool) → list_any (same_script k) scripts ≡ b → AllByRecursion (λ (k : Hash32). same_script s k ≡ false) (filter (λ (k : Hash32). list_any (same_script k) scripts) keys)
          → AllByRecursion (λ (k : Hash32). same_script s k ≡ false) (filter (λ (k : Hash32). list_any (same_script k) scripts) (k ∷ keys))
      by true e rest = rw e (none.0, rest)
      by false e rest = rw e rest

  split_news : (x : Subscription) (xs : List Subscription) → news status (x ∷ xs) ≡ news status (x ∷ []) ++ news status xs
  split_news x xs = by (is_news status x) refl
    where
      by : (b : Bool) → is_news status x ≡ b → news status (x ∷ xs) ≡ news status (x ∷ []) ++ news status xs
      by true e = rw e refl
      by false e = rw e refl

  -- where the others were told, all are
  pub held_told : (touched : List Hash32) (subs : List Subscription) → IsDistinct same_script (keys_of subs) → OthersTold status touched subs
      → (all_noted status (held_among touched subs) subs ≡ marked status subs) × (all_news status (held_among touched subs) subs ≡ news status subs)
  held_told touched [] distinct others = (refl, refl)
  held_told touched (x ∷ xs) distinct others = by (list_any (same_script x.0) touched) refl (held_told touched xs (IsDistinct-tail same_script x.0 (keys_of xs) distinct) others.1)
    where
      scripts : List Hash32
      scripts = held_among touched xs

      none : AllByRecursion (λ (k : Hash32). same_script x.0 k ≡ false) scripts
      none = none_held touched x.0 (keys_of xs) (IsDistinct-head same_script x.0 (keys_of xs) distinct)

      by : (b : Bool) → list_any (same_script x.0) touched ≡ b → (all_noted status scripts xs ≡ marked status xs) × (all_news status scripts xs ≡ news status xs)
          → (all_noted status (held_among touched (x ∷ xs)) (x ∷ xs) ≡ marked status (x ∷ xs)) × (all_news status (held_among touched (x ∷ xs)) (x ∷ xs) ≡ news status (x ∷ xs))
      by true e rest =
          let one : noted status x.0 (x ∷ xs) ≡ retold status x ∷ xs = rw (itself x.0) refl in
          let first : one_to x.0 (x ∷ xs) ≡ x ∷ [] = rw (itself x.0) refl in (
            rw e (ap (all_noted status scripts) one ∙ passed_noted scripts (retold status x) xs none ∙ ap (λ (l : List Subscription). retold status x ∷ l) rest.0),
            rw e (ap (λ (l : List Subscription). news status l ++ all_news status scripts (noted status x.0 (x ∷ xs))) first
                ∙ ap (λ (l : List Subscription). news status (x ∷ []) ++ all_news status scripts l) one
                ∙ ap (λ (l : List Subscription). news status (x ∷ []) ++ l) (passed_news scripts (retold status x) xs none ∙ rest.1)
                ∙ sym (split_news x xs)),
          )
      by false e rest =
          let told : IsTold status x = others.0 e in
          let same : x ≡ retold status x = ap (λ (t : Option Hash32). (x.0, t)) told in (
            rw e (passed_noted scripts x xs none ∙ ap (λ (l : List Subscription). x ∷ l) rest.0 ∙ ap (λ (y : Subscription). y ∷ marked status xs) same),
            rw e (passed_news scripts x xs none ∙ rest.1 ∙ sym (split_news x xs ∙ rw (no_news x told) refl)),
          )

  -- one script hash more: what is left to tell completes the whole
  pub goes_on : (scripts : List Hash32) (i : ℕ) (d : Hash32) (found after subs next whole all : List Subscription) → i < length scripts
      → (found ++ all_news status (drop i scripts) subs ≡ whole) × (all_noted status (drop i scripts) subs ≡ all)
      → (after ≡ found ++ news status (one_to (get_or scripts i d) subs)) × (next ≡ noted status (get_or scripts i d) subs)
      → (after ++ all_news status (drop (i + 1) scripts) next ≡ whole) × (all_noted status (drop (i + 1) scripts) next ≡ all)
  goes_on scripts i d found after subs next whole all lt so_far told =
      let s : Hash32 = get_or scripts i d in
      let first : drop i scripts ≡ s ∷ drop (i + 1) scripts = first_left scripts i d lt in
      let rest : (found ++ all_news status (s ∷ drop (i + 1) scripts) subs ≡ whole) × (all_noted status (s ∷ drop (i + 1) scripts) subs ≡ all) =
      subst (λ (l : List Hash32). (found ++ all_news status l subs ≡ whole) × (all_noted status l subs ≡ all)) first so_far in (
        ap (λ (l : List Subscription). l ++ all_news status (drop (i + 1) scripts) next) told.0
            ∙ ap (λ (l : List Subscription). (found ++ news status (one_to s subs)) ++ all_news status (drop (i + 1) scripts) l) told.1
            ∙ append_assoc found (news status (one_to s subs)) (all_news status (drop (i + 1) scripts) (noted status s subs)) ∙ rest.0,
        ap (all_noted status (drop (i + 1) scripts)) told.1 ∙ rest.1,
      )

  -- none is left
  pub told_all : (scripts : List Hash32) (i : ℕ) (found subs whole all : List Subscription) → length scripts ≤ i
      → (found ++ all_news status (drop i scripts) subs ≡ whole) × (all_noted status (drop i scripts) subs ≡ all)
      → (found ≡ whole) × (subs ≡ all)
  told_all scripts i found subs whole all le so_far =
      let rest : (found ++ all_news status [] subs ≡ whole) × (all_noted status [] subs ≡ all) =
      subst (λ (l : List Hash32). (found ++ all_news status l subs ≡ whole) × (all_noted status l subs ≡ all)) (drop_all i scripts le) so_far in
      (sym (append-nil found) ∙ rest.0, rest.1)

  -- once all are told, each is
  pub marked_are_told : (subs : List Subscription) → AllTold status (marked status subs)
  marked_are_told [] = tt
  marked_are_told (x ∷ xs) = (refl, marked_are_told xs)

-- ---- what they cost

module _ (cost : Hash32 → ℕ) (touched : List Hash32) where
  -- one that isn't touched costs nothing
  pub held_cost : (subs : List Subscription) → cost_of cost touched (held_among touched subs) ≡ cost_of cost touched (keys_of subs)
  held_cost [] = refl
  held_cost (x ∷ xs) = by (list_any (same_hash x.0) touched) refl (held_cost xs)
    where
      by : (b : Bool) → list_any (same_hash x.0) touched ≡ b → cost_of cost touched (held_among touched xs) ≡ cost_of cost touched (keys_of xs)
          → cost_of cost touched (held_among touched (x ∷ xs)) ≡ cost_of cost touched (keys_of (x ∷ xs))
      by true e rest = rw e (rw e (omega (arith, rest)))
      by false e rest = rw e (omega (arith, rest))

  -- each of them is touched
  all_touched : (subs : List Subscription) → AllByRecursion (λ (s : Hash32). list_any (same_hash s) touched ≡ true) (held_among touched subs)
  all_touched [] = tt
  all_touched (x ∷ xs) = by (list_any (same_hash x.0) touched) refl (all_touched xs)
    where
      by : (b : Bool) → list_any (same_hash x.0) touched ≡ b → AllByRecursion (λ (s : Hash32). list_any (same_hash s) touched ≡ true) (held_among touched xs)
          → AllByRecursion (λ (s : Hash32). list_any (same_hash s) touched ≡ true) (held_among touched (x ∷ xs))
      by true e rest = rw e (e, rest)
      by false e rest = rw e rest

  next_cost : (scripts : List Hash32) (i : ℕ) (d : Hash32) → AllByRecursion (λ (k : Hash32). list_any (same_hash k) touched ≡ true) scripts → i < length scripts
      → cost_of cost touched (drop i scripts) ≡ cost (get_or scripts i d) + cost_of cost touched (drop (i + 1) scripts)
  next_cost [] i d all lt = absurd (omega (arith, lt))
  next_cost (y ∷ ys) zero d all lt = rw all.0 refl
  next_cost (y ∷ ys) (suc i) d all lt =
      let e : suc (i + 1) ≡ suc i + 1 = omega (arith) in
      next_cost ys i d all.1 (omega (arith, lt)) ∙ ap (λ (n : ℕ). cost (get_or ys i d) + cost_of cost touched (drop n (y ∷ ys))) e

  pub rows_on : (subs : List Subscription) (scripts : List Hash32) (i : ℕ) (d : Hash32) (a b total : ℕ) → scripts ≡ held_among touched subs → i < length scripts
      → b ≤ a + cost (get_or scripts i d) → a + cost_of cost touched (drop i scripts) ≤ total → b + cost_of cost touched (drop (i + 1) scripts) ≤ total
  rows_on subs scripts i d a b total are lt step before =
      let e = next_cost scripts i d (rw are (all_touched subs)) lt in
      omega (arith, e, step, before)

-- ---- the touched script hashes differ

pub distinct_touched : (scripts : List Hash32) → AllDiffer scripts → IsDistinct same_script scripts
unfolding IsDistinct
distinct_touched [] differ = tt
distinct_touched (s ∷ scripts) differ = IsDistinct-cons same_script s scripts (apart scripts differ.0) (distinct_touched scripts differ.1)
  where
    apart : (ks : List Hash32) → AllByRecursion (λ (k : Hash32). s ≡ k → ⊥) ks → AllByRecursion (λ (k : Hash32). same_script s k ≡ false) ks
    apart [] none = tt
    apart (k ∷ ks) none = (
      elim (either_way (same_script s k)) [
        | inl e ↦ absurd (none.0 (one_script s k e))
        | inr e ↦ e
      ],
      apart ks none.1,
    )
