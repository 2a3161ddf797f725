-- Fronts of lists, as loops over rows build them.
use Rattle.std.proofs.Common.{◌≡◌, inl, inr, ℕ, zero, suc, ◌-◌, ◌≤◌, min, List, [], ◌∷◌, ◌++◌, length, map, take, drop, slice_get, Some, option_map, refl, ap, sym, ◌∙◌, arith}
use Rattle.std.proofs.lemmas.Bool.{cases_lt}
use Rattle.std.proofs.lemmas.List.{take_all}

-- one row more
pub one_more : {X F Y : Type 0} (fields : X → F) (f : X → Y) (g : F → Y) → ((x : X) → g (fields x) ≡ f x) → (xs : List X) (n : ℕ) (row : F)
    → Some row ≡ option_map fields (slice_get xs n) → map f (take n xs) ++ g row ∷ [] ≡ map f (take (suc n) xs)
one_more fields f g same [] n row e = absurd cc
one_more fields f g same (x ∷ xs) zero row e = by row e
  where
    by : (r : _) → Some r ≡ Some (fields x) → g r ∷ [] ≡ f x ∷ []
    by r is = ap (λ y. y ∷ []) (ap g (cc) ∙ same x)
one_more fields f g same (x ∷ xs) (suc n) row e = ap (λ ys. f x ∷ ys) (one_more fields f g same xs n row e)

pub slice_drop : {X : Type 0} (xs : List X) (k n : ℕ) → k ≤ n → slice_get (drop k xs) (n - k) ≡ slice_get xs n
slice_drop xs zero n le = let same : n - 0 ≡ n = omega arith in ap (slice_get xs) same
slice_drop [] (suc k) n le = refl
slice_drop (x ∷ xs) (suc k) zero le = absurd (omega arith)
slice_drop (x ∷ xs) (suc k) (suc n) le =
    let same : suc n - suc k ≡ n - k = omega arith in
    ap (slice_get (drop k xs)) same ∙ slice_drop xs k n (omega arith)

-- past the end there is no more to take
pub take_short : {X : Type 0} (m k : ℕ) (xs : List X) → k ≡ min m (length xs) → take k xs ≡ take m xs
take_short m k xs is = elim (cases_lt m (length xs)) [
  | inl lt ↦ let same : k ≡ m = omega arith in ap (λ (j : ℕ). take j xs) same
  | inr le ↦ let long : length xs ≤ k = omega arith in take_all k xs long ∙ sym (take_all m xs le)
]
