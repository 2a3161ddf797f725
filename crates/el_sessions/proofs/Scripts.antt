-- Script hashes that are one, and subscriptions as they come and go.
use Rattle.std.proofs.Common.{◌≡◌, ◌⊎◌, inl, inr, ℕ, Bool, true, false, true≢false, ◌||◌, List, [], ◌∷◌, ◌++◌, Option, refl, sym, ap, ◌∙◌, subst}
use Rattle.std.proofs.lemmas.Slice.Eq.{bytes_eq-Decides}
use Rattle.el_base.specs.declared.hash.Hash32.{Hash32}
use Rattle.el_sessions.specs.Sessions.{Subscription, same_script, is_to, is_subscribed, subscribed, unsubscribed}

of_bytes : List ℕ → Hash32
of_bytes l = record { 0 = l }

pub one_script : (a b : Hash32) → same_script a b ≡ true → a ≡ b
unfolding of_bytes
one_script a b e = ap of_bytes ((bytes_eq-Decides a.0 b.0).0 e)

pub itself : (s : Hash32) → same_script s s ≡ true
itself s = (bytes_eq-Decides s.0 s.0).1 refl

pub either_way : (b : Bool) → (b ≡ true) ⊎ (b ≡ false)
either_way true = inl refl
either_way false = inr refl

pub turned : (a b : Hash32) (r : Bool) → same_script a b ≡ r → same_script b a ≡ r
turned a b true e = subst (λ (k : Hash32). same_script k a ≡ true) (one_script a b e) (itself a)
turned a b false e = by (same_script b a) refl
  where
    by : (t : Bool) → same_script b a ≡ t → t ≡ false
    by false is = refl
    by true is = absurd (true≢false (sym (subst (λ (k : Hash32). same_script a k ≡ true) (sym (one_script b a is)) (itself a)) ∙ e))

-- ---- one that isn't there comes last
pub comes_last : (s : Hash32) (told : Option Hash32) (subs : List Subscription) → is_subscribed s subs ≡ false
    → subscribed s told subs ≡ subs ++ (s, told) ∷ []
comes_last s told [] none = refl
comes_last s told (x ∷ xs) none = by (is_to s x) refl (λ no. comes_last s told xs no)
  where
    by : (b : Bool) → is_to s x ≡ b → (is_subscribed s xs ≡ false → subscribed s told xs ≡ xs ++ (s, told) ∷ []) → subscribed s told (x ∷ xs) ≡ (x ∷ xs) ++ (s, told) ∷ []
    by true is rest = absurd (true≢false (sym (ap (λ (t : Bool). t || is_subscribed s xs) is) ∙ none))
    by false is rest = rw is (ap (λ (l : List Subscription). x ∷ l) (rest (sym (ap (λ (t : Bool). t || is_subscribed s xs) is) ∙ none)))

-- ---- nor can it be dropped, nor noted
pub nothing_dropped : (s : Hash32) (subs : List Subscription) → is_subscribed s subs ≡ false → unsubscribed s subs ≡ subs
nothing_dropped s [] none = refl
nothing_dropped s (x ∷ xs) none = by (is_to s x) refl (λ no. nothing_dropped s xs no)
  where
    by : (b : Bool) → is_to s x ≡ b → (is_subscribed s xs ≡ false → unsubscribed s xs ≡ xs) → unsubscribed s (x ∷ xs) ≡ x ∷ xs
    by true is rest = absurd (true≢false (sym (ap (λ (t : Bool). t || is_subscribed s xs) is) ∙ none))
    by false is rest = rw is (ap (λ (l : List Subscription). x ∷ l) (rest (sym (ap (λ (t : Bool). t || is_subscribed s xs) is) ∙ none)))
