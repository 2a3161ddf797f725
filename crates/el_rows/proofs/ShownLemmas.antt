-- The rows of one table's edits that are shown, rising.
use Rattle.std.proofs.Common.{◌≡◌, ◌≢◌, ◌<◌, ◌≤◌, ◌+◌, ◌-◌, ℕ, zero, suc, List, [], ◌∷◌, ◌++◌, Bool, true, false, cond, ◌&&◌, ◌||◌, None, Some, Option, refl, ap, sym, ◌∙◌, arith, subst, ⊎_elim, length, get_or, eqb, length-append, append_assoc, append-nil}
use Rattle.std.specs.Prelude.{is_some, nat_lt, nat_eq, slice_get}
use Rattle.std.specs.List.{list_any, filter, range_with_len, AllByRecursion, IsDistinct}
use Rattle.std.specs.List.Sorted.{IsStrictlyIncreasing, IsSorted, IsPermutation}
use Rattle.std.specs.Ordering.{nat_cmp}
use Rattle.std.specs.Map.{lookup, keys_of}
use Rattle.std.proofs.lemmas.Option.{slice_get-get_or}
use Rattle.std.proofs.lemmas.Bool.{cases_eq, cases_lt, eqb-true}
use Rattle.std.proofs.lemmas.List.{get_or_append_left, get_or-append_right}
use Rattle.std.proofs.lemmas.List.Folds.{list_any-append, list_any_at}
use Rattle.std.proofs.lemmas.List.FromFn.{length-range_with_len, get_or-range_with_len}
use Rattle.std.proofs.lemmas.List.Sorted.{list_any-IsPermutation, IsNonDecreasingBy-from_sort}
use Rattle.std.proofs.lemmas.Map.Keys.{IsDistinct-head, IsDistinct-tail, IsDistinct-cons, IsDistinct-IsPermutation, IsStrictlyIncreasing-from_distinct}
use Rattle.std.proofs.lemmas.Map.Views.{any-filter_same}
use Rattle.std.proofs.lemmas.Map.Made.{is_some-lookup}
use Rattle.el_rows.specs.within.EditedTables.{EditedTable, edited_at}
use Rattle.el_rows.proofs.EditedLemmas.{if_true, if_false}

-- ---- what a filter leaves
all_filter : (P : ℕ → Type 0) (p : ℕ → Bool) (xs : List ℕ) → AllByRecursion P xs → AllByRecursion P (filter p xs)
all_filter P p [] all = tt
all_filter P p (x ∷ xs) all = kept (p x) (all_filter P p xs all.1)
  where
    kept : (b : Bool) → AllByRecursion P (filter p xs) → AllByRecursion P (cond b (x ∷ filter p xs) (filter p xs))
    kept true rest = (all.0, rest)
    kept false rest = rest

distinct_filter : (p : ℕ → Bool) (xs : List ℕ) → IsDistinct eqb xs → IsDistinct eqb (filter p xs)
distinct_filter p [] distinct = distinct
distinct_filter p (x ∷ xs) distinct = kept (p x) (distinct_filter p xs (IsDistinct-tail eqb x xs distinct))
  where
    kept : (b : Bool) → IsDistinct eqb (filter p xs) → IsDistinct eqb (cond b (x ∷ filter p xs) (filter p xs))
    kept true rest = IsDistinct-cons eqb x (filter p xs) (all_filter (λ y. eqb x y ≡ false) p xs (IsDistinct-head eqb x xs distinct)) rest
    kept false rest = rest

eqb_flips : (x y : ℕ) → eqb x y ≡ eqb y x
eqb_flips x y = grind arith

-- keys that were sorted rise
pub sorted_rise : (count : ℕ) (keys sorted : List ℕ) → IsDistinct eqb keys → IsPermutation (filter (λ i. nat_lt i count) keys) sorted → IsSorted nat_cmp sorted → IsStrictlyIncreasing sorted
sorted_rise count keys sorted distinct same ordered = IsStrictlyIncreasing-from_distinct sorted (IsNonDecreasingBy-from_sort (λ n. n) sorted ordered)
    (IsDistinct-IsPermutation eqb eqb_flips (filter (λ i. nat_lt i count) keys) sorted same (distinct_filter (λ i. nat_lt i count) keys distinct))

same_test : (i k : ℕ) → nat_eq i k ≡ true → i ≡ k
same_test i k h = eqb-true i k h

-- and are those of the changed rows below the count
pub sorted_shown : (count : ℕ) (changed : List (ℕ × List ℕ)) (sorted : List ℕ) → IsPermutation (filter (λ i. nat_lt i count) (keys_of changed)) sorted
    → (i : ℕ) → list_any (nat_eq i) sorted ≡ (nat_lt i count && is_some (lookup (nat_eq i) changed))
sorted_shown count changed sorted same i = sym (list_any-IsPermutation (nat_eq i) (filter (λ k. nat_lt k count) (keys_of changed)) sorted same)
    ∙ any-filter_same (nat_eq i) (λ k. nat_lt k count) (nat_lt i count) (λ k h. ap (λ n. nat_lt n count) (sym (same_test i k h))) (keys_of changed)
    ∙ ap (λ b. nat_lt i count && b) (sym (is_some-lookup (nat_eq i) changed))

-- ---- those before some row
pub record AreShownTo (base count : ℕ) (e : EditedTable) (k : ℕ) (rows : List ℕ) : Type 0 where
  pub rising : IsStrictlyIncreasing rows
  pub first : (n : ℕ) → n < length rows → get_or rows n 0 < k
  pub each : (j : ℕ) → list_any (nat_eq j) rows ≡ (nat_lt j count && (nat_lt j k && is_some (edited_at base e j)))

module _ (base count : ℕ) (e : EditedTable) (below : (i : ℕ) → base ≤ i → lookup (nat_eq i) e.changed ≡ None) where
  -- the changed rows are those before the base
  pub changed_to : (rows : List ℕ) → IsStrictlyIncreasing rows → ((i : ℕ) → list_any (nat_eq i) rows ≡ (nat_lt i count && is_some (lookup (nat_eq i) e.changed))) → AreShownTo base count e base rows
  changed_to rows rising each = record {
    rising = rising;
    first = λ n lt. ⊎_elim
        (λ (less : get_or rows n 0 < base). less)
        (λ (from : base ≤ get_or rows n 0). absurd (found (get_or rows n 0) from (list_any_at (nat_eq (get_or rows n 0)) rows n 0 lt (let s : nat_eq (get_or rows n 0) (get_or rows n 0) ≡ true = grind arith in s))))
        (cases_lt (get_or rows n 0) base);
    each = λ j. each j ∙ ap (λ b. nat_lt j count && b) (same j);
  }
    where
      and_false : (b : Bool) → (b && false) ≡ true → ⊥
      and_false true h = cc
      and_false false h = cc

      found : (i : ℕ) → base ≤ i → list_any (nat_eq i) rows ≡ true → ⊥
      found i from is = and_false (nat_lt i count) (ap (λ (o : Option (List ℕ)). nat_lt i count && is_some o) (sym (below i from)) ∙ sym (each i) ∙ is)

      same : (j : ℕ) → is_some (lookup (nat_eq j) e.changed) ≡ (nat_lt j base && is_some (edited_at base e j))
      same j = ⊎_elim
          (λ (lt : j < base). let b : nat_lt j base ≡ true = grind (arith, lt) in ap is_some (sym (if_true (nat_lt j base) (lookup (nat_eq j) e.changed) (slice_get e.added.rows (j - base)) b)) ∙ sym (ap (λ c. c && is_some (edited_at base e j)) b))
          (λ (ge : base ≤ j). let b : nat_lt j base ≡ false = grind (arith, ge) in ap is_some (below j ge) ∙ sym (ap (λ c. c && is_some (edited_at base e j)) b))
          (cases_lt j base)

  slice_some : (rows : List (List ℕ)) (k : ℕ) → k < length rows → is_some (slice_get rows k) ≡ true
  slice_some rows k lt = ap is_some (slice_get-get_or rows k [] lt)

  -- one row more
  pub added_to : (k : ℕ) (rows : List ℕ) → AreShownTo base count e k rows → base ≤ k → k < count → count ≤ base + length e.added.rows → AreShownTo base count e (k + 1) (rows ++ k ∷ [])
  added_to k rows so_far from lt room = record {
    rising = λ n less. rise n less;
    first = λ n less. ⊎_elim
        (λ (old : n < length rows). subst (λ m. m < k + 1) (sym (get_or_append_left rows (k ∷ []) 0 n old)) (omega (arith, so_far.first n old)))
        (λ (new : length rows ≤ n). subst (λ m. m < k + 1) (sym (last n (omega (arith, new, less, length-append rows (k ∷ []))))) (omega arith))
        (cases_lt n (length rows));
    each = λ j. list_any-append (nat_eq j) rows (k ∷ []) ∙ ap (λ b. b || (nat_eq j k || false)) (so_far.each j) ∙ next j;
  }
    where
      last : (n : ℕ) → n ≡ length rows → get_or (rows ++ k ∷ []) n 0 ≡ k
      last n is = get_or-append_right rows (k ∷ []) n n 0 (sym is) (omega arith) ∙ ap (λ m. get_or (k ∷ []) m 0) (let z : n - n ≡ 0 = omega arith in z)

      rise : (n : ℕ) → n + 1 < length (rows ++ k ∷ []) → get_or (rows ++ k ∷ []) n 0 < get_or (rows ++ k ∷ []) (n + 1) 0
      rise n less =
          let old : n < length rows = omega (arith, less, length-append rows (k ∷ [])) in
          subst (λ m. m < get_or (rows ++ k ∷ []) (n + 1) 0) (sym (get_or_append_left rows (k ∷ []) 0 n old)) (⊎_elim
          (λ (more : n + 1 < length rows). subst (λ m. get_or rows n 0 < m) (sym (get_or_append_left rows (k ∷ []) 0 (n + 1) more)) (so_far.rising n more))
          (λ (end : length rows ≤ n + 1). subst (λ m. get_or rows n 0 < m) (sym (last (n + 1) (omega (arith, end, old)))) (so_far.first n old))
          (cases_lt (n + 1) (length rows)))

      here : is_some (edited_at base e k) ≡ true
      here = ap is_some (if_false (nat_lt k base) (lookup (nat_eq k) e.changed) (slice_get e.added.rows (k - base)) (let b : nat_lt k base ≡ false = grind (arith, from) in b)) ∙ slice_some e.added.rows (k - base) (omega (arith, from, lt, room))

      or_false : (a : Bool) → (a || (false || false)) ≡ a
      or_false true = refl
      or_false false = refl

      or_true : (a : Bool) → (a || (true || false)) ≡ true
      or_true true = refl
      or_true false = refl

      next : (j : ℕ) → ((nat_lt j count && (nat_lt j k && is_some (edited_at base e j))) || (nat_eq j k || false)) ≡ (nat_lt j count && (nat_lt j (k + 1) && is_some (edited_at base e j)))
      next j = ⊎_elim
          (λ (same : j ≡ k). subst (λ (i : ℕ). ((nat_lt i count && (nat_lt i k && is_some (edited_at base e i))) || (nat_eq i k || false)) ≡ (nat_lt i count && (nat_lt i (k + 1) && is_some (edited_at base e i)))) (sym same)
          (ap (λ b. (nat_lt k count && (nat_lt k k && is_some (edited_at base e k))) || (b || false)) (let s : nat_eq k k ≡ true = grind arith in s) ∙ or_true _
          ∙ sym (ap (λ b. b && (nat_lt k (k + 1) && is_some (edited_at base e k))) (let s : nat_lt k count ≡ true = grind (arith, lt) in s) ∙ ap (λ b. b && is_some (edited_at base e k)) (let s : nat_lt k (k + 1) ≡ true = grind arith in s) ∙ here)))
          (λ (ne : j ≢ k). ap (λ b. (nat_lt j count && (nat_lt j k && is_some (edited_at base e j))) || (b || false)) (let s : nat_eq j k ≡ false = grind (arith, ne) in s) ∙ or_false _
          ∙ ap (λ b. nat_lt j count && (b && is_some (edited_at base e j))) (let s : nat_lt j k ≡ nat_lt j (k + 1) = grind (arith, ne) in s))
          (cases_eq j k)

-- all rows from the base on, so many
pub range_to : (base count : ℕ) (e : EditedTable) (below : (i : ℕ) → base ≤ i → lookup (nat_eq i) e.changed ≡ None) (rows : List ℕ) → AreShownTo base count e base rows → count ≤ base + length e.added.rows
    → (n : ℕ) → n ≤ count - base → AreShownTo base count e (base + n) (rows ++ range_with_len base n)
range_to base count e below rows so_far room zero le = subst (λ (rs : List ℕ). AreShownTo base count e (base + 0) rs) (sym (append-nil rows)) (subst (λ (k : ℕ). AreShownTo base count e k rows) (let z : base ≡ base + 0 = omega arith in z) so_far)
range_to base count e below rows so_far room (suc n) le =
    let before = range_to base count e below rows so_far room n (omega arith) in
    let next = added_to base count e below (base + n) (rows ++ range_with_len base n) before (omega arith) (omega arith) room in
    subst (λ (rs : List ℕ). AreShownTo base count e (base + suc n) rs) (append_assoc rows (range_with_len base n) ((base + n) ∷ []) ∙ ap (λ (rs : List ℕ). rows ++ rs) (sym (range_more base n)))
    (subst (λ (k : ℕ). AreShownTo base count e k ((rows ++ range_with_len base n) ++ (base + n) ∷ [])) (let z : base + n + 1 ≡ base + suc n = omega arith in z) next)
  where
    range_more : (a n : ℕ) → range_with_len a (suc n) ≡ range_with_len a n ++ (a + n) ∷ []
    range_more a zero = ap (λ (k : ℕ). k ∷ []) (let z : a ≡ a + 0 = omega arith in z)
    range_more a (suc n) = ap (λ (rs : List ℕ). a ∷ rs) (range_more (a + 1) n ∙ ap (λ (k : ℕ). range_with_len (a + 1) n ++ k ∷ []) (let z : a + 1 + n ≡ a + suc n = omega arith in z))

-- all of them
pub shown_all : (base count : ℕ) (e : EditedTable) (k : ℕ) (rows : List ℕ) → AreShownTo base count e k rows → count ≤ k → (j : ℕ) → list_any (nat_eq j) rows ≡ (nat_lt j count && is_some (edited_at base e j))
shown_all base count e k rows shown past j = shown.each j ∙ ⊎_elim
    (λ (lt : j < count). ap (λ b. nat_lt j count && (b && is_some (edited_at base e j))) (let s : nat_lt j k ≡ true = grind (arith, lt, past) in s))
    (λ (ge : count ≤ j). let s : nat_lt j count ≡ false = grind (arith, ge) in ap (λ b. b && (nat_lt j k && is_some (edited_at base e j))) s ∙ sym (ap (λ b. b && is_some (edited_at base e j)) s))
    (cases_lt j count)

-- ---- a row among them
pub row_first : (xs ys : List ℕ) (i d : ℕ) → i < length xs → slice_get (xs ++ ys) i ≡ Some (get_or xs i d)
row_first [] ys i d lt = absurd (omega (arith, lt))
row_first (x ∷ xs) ys zero d lt = refl
row_first (x ∷ xs) ys (suc i) d lt = row_first xs ys i d (omega (arith, lt))

pub row_added : (xs : List ℕ) (a n i j : ℕ) → i ≡ length xs + j → j < n → slice_get (xs ++ range_with_len a n) i ≡ Some (a + j)
row_added [] a n i j is lt =
    ap (λ (k : ℕ). slice_get (range_with_len a n) k) (let e : i ≡ j = omega (arith, is) in e)
    ∙ slice_get-get_or (range_with_len a n) j 0 (let e : j < length (range_with_len a n) = omega (arith, lt, length-range_with_len a n) in e)
    ∙ ap Some (get_or-range_with_len a n j 0 lt)
row_added (x ∷ xs) a n zero j is lt = absurd (omega (arith, is))
row_added (x ∷ xs) a n (suc i) j is lt = row_added xs a n i j (omega (arith, is)) lt

pub rows_long : (xs : List ℕ) (a n : ℕ) → length (xs ++ range_with_len a n) ≡ length xs + n
rows_long xs a n = length-append xs (range_with_len a n) ∙ ap (λ (k : ℕ). length xs + k) (length-range_with_len a n)
