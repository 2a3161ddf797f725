-- Places in lists, and the greatest place whose node passes a test.
use Rattle.std.proofs.Common.{◌≡◌, ◌≢◌, ◌⊎◌, inl, inr, ℕ, zero, suc, ◌+◌, ◌<◌, ◌≤◌, Bool, true, false, cond, List, [], ◌∷◌, ◌++◌, length, take, set, Option, None, Some, refl, sym, ap, ◌∙◌, arith}
use Rattle.std.specs.List.{slice_get, list_any}
use Rattle.std.specs.Option.{option_or}
use Rattle.std.proofs.lemmas.Bool.{cases_Bool, or_cases, or_left, or_right, false≢true}
use Rattle.std.proofs.lemmas.Option.{none-some, same_Some}
use Rattle.el_chain.specs.declared.node.Node.{Node}
use Rattle.el_headers.specs.within.Tables.{greatest_from}

-- two hashes are one exactly where they are equal
-- one place has one element
pub at_one : {X : Type 0} (xs : List X) (i : ℕ) (x y : X) → slice_get xs i ≡ Some x → slice_get xs i ≡ Some y → x ≡ y
at_one xs i x y h k = same_Some x y (sym h ∙ k)

pub at_there : {X : Type 0} (xs : List X) (i : ℕ) → i < length xs → (x : X) × (slice_get xs i ≡ Some x)
at_there [] i lt = absurd (omega arith)
at_there (x ∷ xs) zero lt = (x, refl)
at_there (x ∷ xs) (suc i) lt = at_there xs i (omega arith)

-- a list that grows at its end
pub at_left : {X : Type 0} (xs ys : List X) (i : ℕ) (x : X) → slice_get xs i ≡ Some x → slice_get (xs ++ ys) i ≡ Some x
at_left [] ys i x h = absurd (none-some x h)
at_left (y ∷ xs) ys zero x h = h
at_left (y ∷ xs) ys (suc i) x h = at_left xs ys i x h

pub at_last : {X : Type 0} (xs : List X) (x : X) → slice_get (xs ++ x ∷ []) (length xs) ≡ Some x
at_last [] x = refl
at_last (y ∷ xs) x = at_last xs x

pub at_more : {X : Type 0} (xs : List X) (x : X) (i : ℕ) (y : X) → slice_get (xs ++ x ∷ []) i ≡ Some y
    → (slice_get xs i ≡ Some y) ⊎ ((i ≡ length xs) × (y ≡ x))
at_more [] x zero y h = inr (refl, sym (same_Some x y h))
at_more [] x (suc i) y h = absurd (none-some y h)
at_more (z ∷ zs) x zero y h = inl h
at_more (z ∷ zs) x (suc i) y h = elim (at_more zs x i y h) [ inl k ↦ inl k | inr k ↦ inr (ap suc k.0, k.1) ]

-- one element is set
pub set_here : {X : Type 0} (xs : List X) (i : ℕ) (v : X) → i < length xs → slice_get (set xs i v) i ≡ Some v
set_here [] i v lt = absurd (omega arith)
set_here (x ∷ xs) zero v lt = refl
set_here (x ∷ xs) (suc i) v lt = set_here xs i v (omega arith)

pub set_other : {X : Type 0} (xs : List X) (i j : ℕ) (v : X) → j ≢ i → slice_get (set xs i v) j ≡ slice_get xs j
set_other [] i j v ne = refl
set_other (x ∷ xs) zero zero v ne = absurd (ne refl)
set_other (x ∷ xs) zero (suc j) v ne = refl
set_other (x ∷ xs) (suc i) zero v ne = refl
set_other (x ∷ xs) (suc i) (suc j) v ne = set_other xs i j v (λ e. ne (ap suc e))

-- a front of a list
pub in_front : {X : Type 0} (n : ℕ) (xs : List X) (i : ℕ) (x : X) → slice_get xs i ≡ Some x → i < n → slice_get (take n xs) i ≡ Some x
in_front n [] i x h lt = absurd (none-some x h)
in_front zero (y ∷ xs) i x h lt = absurd (omega arith)
in_front (suc n) (y ∷ xs) zero x h lt = h
in_front (suc n) (y ∷ xs) (suc i) x h lt = in_front n xs i x h (omega arith)

pub of_front : {X : Type 0} (n : ℕ) (xs : List X) (i : ℕ) (x : X) → slice_get (take n xs) i ≡ Some x → (slice_get xs i ≡ Some x) × (i < n)
of_front zero xs i x h = absurd (none-some x h)
of_front (suc n) [] i x h = absurd (none-some x h)
of_front (suc n) (y ∷ xs) zero x h = (h, omega arith)
of_front (suc n) (y ∷ xs) (suc i) x h = let rest = of_front n xs i x h in (rest.0, let lt = rest.1 in omega arith)

-- some element passes a test
pub any_at : {X : Type 0} (test : X → Bool) (xs : List X) → list_any test xs ≡ true → (i : ℕ) × (x : X) × (slice_get xs i ≡ Some x) × (test x ≡ true)
any_at test [] h = absurd (false≢true h)
any_at test (x ∷ xs) h = elim (or_cases (test x) (list_any test xs) h) [
  | inl here ↦ (0, x, refl, here)
  | inr later ↦ let rest = any_at test xs later in (suc rest.0, rest.1, rest.2, rest.3)
]

pub any_from : {X : Type 0} (test : X → Bool) (xs : List X) (i : ℕ) (x : X) → slice_get xs i ≡ Some x → test x ≡ true → list_any test xs ≡ true
any_from test [] i x h passes = absurd (none-some x h)
any_from test (y ∷ xs) zero x h passes = or_left (test y) (list_any test xs) (ap test (same_Some y x h) ∙ passes)
any_from test (y ∷ xs) (suc i) x h passes = or_right (test y) (list_any test xs) (any_from test xs i x h passes)

-- The greatest place that passes, where the list grows at its end.
pub greatest_more : (n m : ℕ) (test : Node → Bool) (xs : List Node) (x : Node) → m ≡ n + length xs
    → greatest_from n test (xs ++ x ∷ []) ≡ cond (test x) (Some m) (greatest_from n test xs)
greatest_more n m test [] x at = let e : n ≡ m = omega arith in rw e refl
greatest_more n m test (y ∷ ys) x at =
    let rest = greatest_more (n + 1) m test ys x (omega arith) in
    elim (cases_Bool (test x)) [
      | inl h ↦ let e : greatest_from (n + 1) test (ys ++ x ∷ []) ≡ Some m = rest ∙ rw h refl in rw (e, h) refl
      | inr h ↦ let e : greatest_from (n + 1) test (ys ++ x ∷ []) ≡ greatest_from (n + 1) test ys = rest ∙ rw h refl in rw (e, h) refl
    ]

-- the greatest place is one that passes
pub greatest_passes : (n : ℕ) (test : Node → Bool) (xs : List Node) (g : ℕ) → greatest_from n test xs ≡ Some g
    → (i : ℕ) × (x : Node) × (g ≡ n + i) × (slice_get xs i ≡ Some x) × (test x ≡ true)
greatest_passes n test [] g h = absurd (none-some g h)
greatest_passes n test (y ∷ ys) g h = go (greatest_from (n + 1) test ys) refl (cases_Bool (test y)) (λ j e. greatest_passes (n + 1) test ys j e)
  where
    go : (o : Option ℕ) → greatest_from (n + 1) test ys ≡ o → (test y ≡ true) ⊎ (test y ≡ false)
        → ((j : ℕ) → greatest_from (n + 1) test ys ≡ Some j → (i : ℕ) × (x : Node) × (j ≡ n + 1 + i) × (slice_get ys i ≡ Some x) × (test x ≡ true))
        → (i : ℕ) × (x : Node) × (g ≡ n + i) × (slice_get (y ∷ ys) i ≡ Some x) × (test x ≡ true)
    go (Some j) e b later =
        let is : j ≡ g = same_Some j g (sym (ap (λ (o : Option ℕ). option_or o (cond (test y) (Some n) None)) e) ∙ h) in
        let rest = later j e in
        let at : j ≡ n + 1 + rest.0 = rest.2 in
        (suc rest.0, rest.1, omega arith, rest.3, rest.4)
    go None e (inl b) later =
        let is : n ≡ g = same_Some n g (sym (ap (λ (o : Option ℕ). option_or o (cond (test y) (Some n) None)) e ∙ ap (λ (t : Bool). cond t (Some n) None) b) ∙ h) in
        (0, y, omega arith, refl, b)
    go None e (inr b) later =
        absurd (none-some g (sym (ap (λ (o : Option ℕ). option_or o (cond (test y) (Some n) None)) e ∙ ap (λ (t : Bool). cond t (Some n) None) b) ∙ h))

-- it is at least each place that passes
pub greatest_above : (n : ℕ) (test : Node → Bool) (xs : List Node) (i : ℕ) (x : Node) → slice_get xs i ≡ Some x → test x ≡ true
    → (g : ℕ) × (greatest_from n test xs ≡ Some g) × (n + i ≤ g)
greatest_above n test [] i x h passes = absurd (none-some x h)
greatest_above n test (y ∷ ys) zero x h passes = go (greatest_from (n + 1) test ys) refl
  where
    go : (o : Option ℕ) → greatest_from (n + 1) test ys ≡ o → (g : ℕ) × (greatest_from n test (y ∷ ys) ≡ Some g) × (n + 0 ≤ g)
    go (Some j) e =
        let rest = greatest_passes (n + 1) test ys j e in
        let at = rest.2 in
        (j, ap (λ (o : Option ℕ). option_or o (cond (test y) (Some n) None)) e, omega arith)
    go None e =
        (n, ap (λ (o : Option ℕ). option_or o (cond (test y) (Some n) None)) e ∙ ap (λ (t : Bool). cond t (Some n) None) (ap test (same_Some y x h) ∙ passes), omega arith)
greatest_above n test (y ∷ ys) (suc i) x h passes =
    let rest = greatest_above (n + 1) test ys i x h passes in
    let le = rest.2 in
    (rest.0, ap (λ (o : Option ℕ). option_or o (cond (test y) (Some n) None)) rest.1, omega arith)
