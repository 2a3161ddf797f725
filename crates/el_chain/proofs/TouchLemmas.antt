-- Script hashes that are touched, one coin, output and transaction after the other.
use Rattle.std.proofs.Common.{◌≡◌, ℕ, ◌+◌, ◌<◌, Bool, true, false, ◌||◌, List, [], ◌∷◌, ◌++◌, length, get_or, drop, refl, ap, sym, ◌∙◌, true≢false, if◌then◌else◌}
use Rattle.std.proofs.lemmas.List.{get_or_default}
use Rattle.std.proofs.lemmas.Slice.Eq.{bytes_eq-Decides}
use Rattle.std.proofs.Math.Bool.{or-false, or_assoc}
use Rattle.std.proofs.lemmas.List.Folds.{list_any-append}
use Rattle.std.specs.List.{list_any}
use Rattle.std.specs.Str.{bytes_eq}
use Rattle.el_base.specs.declared.hash.Hash32.{Hash32}
use Rattle.el_base.proofs.Lists.{left_at}
use Rattle.el_chain.specs.Headers.{same_hash}

-- one hash is the other exactly where they are equal
pub hash_gives : (a b : Hash32) → same_hash a b ≡ true → a ≡ b
hash_gives a b h = ap (λ (bytes : List ℕ). record { 0 = bytes }) ((bytes_eq-Decides a.0 b.0).0 h)

pub hash_from : (a b : Hash32) → a ≡ b → same_hash a b ≡ true
hash_from a b e = (bytes_eq-Decides a.0 b.0).1 (ap (λ (h : Hash32). h.0) e)

any_more : (s x : Hash32) (old : List Hash32) → list_any (same_hash s) (old ++ x ∷ []) ≡ (list_any (same_hash s) old || same_hash s x)
any_more s x old = list_any-append (same_hash s) old (x ∷ []) ∙ ap (λ (b : Bool). list_any (same_hash s) old || b) (or-false (same_hash s x))

there_already : (s x : Hash32) (old : List Hash32) → list_any (same_hash x) old ≡ true → same_hash s x ≡ true → list_any (same_hash s) old ≡ true
there_already s x old h e = rw (hash_gives s x e) h

-- one script hash is added, unless it is there
pub any_added : (s x : Hash32) (old new : List Hash32) → new ≡ (if list_any (same_hash x) old then old else old ++ x ∷ [])
    → list_any (same_hash s) new ≡ (list_any (same_hash s) old || same_hash s x)
any_added s x old new is = ap (list_any (same_hash s)) is ∙ by (list_any (same_hash x) old) refl
  where
    by : (b : Bool) → list_any (same_hash x) old ≡ b
        → list_any (same_hash s) (if list_any (same_hash x) old then old else old ++ x ∷ []) ≡ (list_any (same_hash s) old || same_hash s x)
    by false e = rw e (any_more s x old)
    by true e = rw e (also (same_hash s x) refl)
      where
        also : (b : Bool) → same_hash s x ≡ b → list_any (same_hash s) old ≡ (list_any (same_hash s) old || same_hash s x)
        also false f = rw f (sym (or-false (list_any (same_hash s) old)))
        also true f = rw (f, there_already s x old e f) refl

-- bytes are compared either way round
turned : (a b : List ℕ) → bytes_eq a b ≡ bytes_eq b a
turned a b = by (bytes_eq a b) (bytes_eq b a) refl refl
  where
    by : (x y : Bool) → bytes_eq a b ≡ x → bytes_eq b a ≡ y → x ≡ y
    by true true e f = refl
    by false false e f = refl
    by true false e f = absurd (true≢false (sym ((bytes_eq-Decides b a).1 (sym ((bytes_eq-Decides a b).0 e))) ∙ f))
    by false true e f = absurd (true≢false (sym ((bytes_eq-Decides a b).1 (sym ((bytes_eq-Decides b a).0 f))) ∙ e))

pub same_turned : (s x : Hash32) → same_hash s x ≡ bytes_eq x.0 s.0
same_turned s x = turned s.0 x.0

-- one more of a list
pub any_step : {T : Type 0} (f : T → Bool) (xs : List T) (i : ℕ) (x d : T) (before now all : Bool) → i < length xs → x ≡ get_or xs i d
    → (before || list_any f (drop i xs)) ≡ all → now ≡ (before || f x) → (now || list_any f (drop (i + 1) xs)) ≡ all
any_step f xs i x d before now all lt is' h added =
    let is : x ≡ get_or xs i x = is' ∙ get_or_default xs i d x lt in
    let left = left_at xs i x lt is in
    ap (λ (b : Bool). b || list_any f (drop (i + 1) xs)) added ∙ or_assoc before (f x) (list_any f (drop (i + 1) xs))
    ∙ ap (λ l. before || list_any f l) (sym left) ∙ h

pub or_nothing : (a b : Bool) → b ≡ false → a ≡ (a || b)
or_nothing a b e = rw e (sym (or-false a))
