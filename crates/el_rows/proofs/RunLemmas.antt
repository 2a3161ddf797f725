-- Keys that follow one another.
use Rattle.std.proofs.Common.{◌≡◌, ◌≤◌, ◌⊎◌, inl, inr, ◌<◌, ◌+◌, ℕ, zero, suc, List, [], ◌∷◌, Bool, true, false, ◌&&◌, ◌||◌, Some, None, Option, refl, ap, sym, ◌∙◌, arith, subst, ⊎_elim, length, unwrap_or, take, drop, ◌*◌, ◌-◌}
use Rattle.std.specs.Prelude.{is_some, nat_lt, slice_get, option_map, IfSome}
use Rattle.std.proofs.lemmas.List.{length-map, take_all}
use Rattle.std.proofs.lemmas.Option.{slice_get_within}
use Rattle.std.specs.List.{AllByRecursion}
use Rattle.std.specs.List.Sorted.{IsStrictlySortedBy}
use Rattle.std.specs.BTreeMap.{is_at}
use Rattle.std.specs.declared.cmp.Ordering.{Ordering}
use Rattle.std.specs.declared.cmp.Ordering.TheVariants.{Less, Equal, Greater}
use Rattle.std.specs.Ordering.{nat_cmp, ordering_then}
use Rattle.el_row_formats.specs.declared.table.Table.{Table}
use Rattle.el_row_formats.specs.declared.table.RowKey.{RowKey}
use Rattle.el_row_formats.specs.Tables.{index_of, row_cmp, size_of, row_at, key}
use Rattle.el_rows.specs.Changes.{Changes, Update, changed_at, count_at}
use Rattle.el_rows.specs.within.EditedTables.{listed_changes, AreShown}
use Rattle.el_row_formats.proofs.Keys.{same_key, self_key}
use Rattle.el_rows.proofs.SealedLemmas.{has_key, listed_at, lt_nat_true, nat_lt_true}

either_true : (b c : Bool) → (b || c) ≡ true → (b ≡ true) ⊎ (c ≡ true)
either_true true c h = inl refl
either_true false c h = inr h

both_true : (b c : Bool) → (b && c) ≡ true → (b ≡ true) × (c ≡ true)
both_true true c h = (refl, h)
both_true false c h = cc

-- what it means that a key is before another
then_less : (o p : Ordering) → ordering_then o p ≡ Less → (o ≡ Less) ⊎ ((o ≡ Equal) × (p ≡ Less))
then_less Less p h = inl refl
then_less Equal p h = inr (refl, h)
then_less Greater p h = cc

nat_less : (a b : ℕ) → nat_cmp a b ≡ Less → a < b
nat_less a b h = grind (arith, h)

nat_equal : (a b : ℕ) → nat_cmp a b ≡ Equal → a ≡ b
nat_equal a b h = grind (arith, h)

key_before : (a b : RowKey) → row_cmp a b ≡ Less → (index_of a.table < index_of b.table) ⊎ ((index_of a.table ≡ index_of b.table) × (a.row < b.row))
key_before a b h = ⊎_elim
    (λ less. inl (nat_less (index_of a.table) (index_of b.table) less))
    (λ same. inr (nat_equal (index_of a.table) (index_of b.table) same.0, nat_less a.row b.row same.1))
    (then_less (nat_cmp (index_of a.table) (index_of b.table)) (nat_cmp a.row b.row) h)

-- no key is between those of two rows that follow one another
apart : (t : Table) (i : ℕ) (x : RowKey) → row_cmp (key t i) x ≡ Less → row_cmp x (key t (suc i)) ≡ Less → ⊥
apart t i x first second = ⊎_elim
    (λ (lt : index_of t < index_of x.table). ⊎_elim (λ (more : index_of x.table < index_of t). omega (arith, lt, more)) (λ same. omega (arith, lt, same.0)) (key_before x (key t (suc i)) second))
    (λ same. ⊎_elim (λ (more : index_of x.table < index_of t). omega (arith, same.0, more)) (λ two. omega (arith, same.1, two.1)) (key_before x (key t (suc i)) second))
    (key_before (key t i) x first)

not_before : (t : Table) (i : ℕ) → row_cmp (key t (suc i)) (key t i) ≡ Less → ⊥
not_before t i less = ⊎_elim (λ (lt : index_of t < index_of t). omega (arith, lt)) (λ same. omega (arith, same.1)) (key_before (key t (suc i)) (key t i) less)

-- a key that is before all is before one of them
before_one : (x : RowKey) (t : Table) (i : ℕ) (keys : List RowKey) → AllByRecursion (λ y. row_cmp x y ≡ Less) keys → has_key t i keys ≡ true → row_cmp x (key t i) ≡ Less
before_one x t i [] before has = cc
before_one x t i (y ∷ keys) before has = ⊎_elim
    (λ (here : is_at (row_cmp (key t i)) y ≡ true). let both = same_key t y.table i y.row here in
    subst (λ (u : Table). row_cmp x (key u i) ≡ Less) (sym both.0) (subst (λ n. row_cmp x (key y.table n) ≡ Less) (sym both.1) before.0))
    (λ (rest : has_key t i keys ≡ true). before_one x t i keys before.1 rest)
    (either_true (is_at (row_cmp (key t i)) y) (has_key t i keys) has)

-- the first of rising keys after one, where the next row is among them
first_after : (t : Table) (i : ℕ) (keys : List RowKey) → AllByRecursion (λ y. row_cmp (key t i) y ≡ Less) keys → IsStrictlySortedBy row_cmp keys → has_key t (suc i) keys ≡ true → slice_get keys 0 ≡ Some (key t (suc i))
unfolding IsStrictlySortedBy
first_after t i [] before rising has = cc
first_after t i (y ∷ keys) before rising has = ⊎_elim
    (λ (here : is_at (row_cmp (key t (suc i))) y ≡ true). let both = same_key t y.table (suc i) y.row here in
    let same : y ≡ key t (suc i) = sym (ap (λ (u : Table). key u (suc i)) both.0 ∙ ap (λ n. key y.table n) both.1) in ap Some same)
    (λ (rest : has_key t (suc i) keys ≡ true). absurd (apart t i y before.0 (before_one y t (suc i) keys rising.0 rest)))
    (either_true (is_at (row_cmp (key t (suc i))) y) (has_key t (suc i) keys) has)

-- a key that is among keys after another
key_in : (keys : List RowKey) (n : ℕ) (k : RowKey) → slice_get keys n ≡ Some k → has_key k.table k.row keys ≡ true
key_in [] n k is = cc
key_in (x ∷ keys) zero k is = let same : x ≡ k = cc in
    subst (λ (y : RowKey). (is_at (row_cmp (key k.table k.row)) y || has_key k.table k.row keys) ≡ true) (sym same) (ap (λ b. b || has_key k.table k.row keys) (self_key k.table k.row))
key_in (x ∷ keys) (suc n) k is = or_right (is_at (row_cmp (key k.table k.row)) x) (has_key k.table k.row keys) (key_in keys n k is)
  where
    or_right : (b c : Bool) → c ≡ true → (b || c) ≡ true
    or_right true c h = refl
    or_right false c h = h

-- the key after a key, where the next row of its table is among them
pub next_key : (keys : List RowKey) (n : ℕ) (t : Table) (i : ℕ) → IsStrictlySortedBy row_cmp keys → slice_get keys n ≡ Some (key t i) → has_key t (suc i) keys ≡ true → slice_get keys (suc n) ≡ Some (key t (suc i))
unfolding IsStrictlySortedBy
next_key [] n t i rising is has = cc
next_key (x ∷ keys) zero t i rising is has =
    let same : x ≡ key t i = cc in
    let above : AllByRecursion (λ y. row_cmp (key t i) y ≡ Less) keys = subst (λ (k : RowKey). AllByRecursion (λ y. row_cmp k y ≡ Less) keys) same rising.0 in
    ⊎_elim
    (λ (here : is_at (row_cmp (key t (suc i))) x ≡ true). let both = same_key t x.table (suc i) x.row here in absurd (omega (arith, both.1, ap (λ (k : RowKey). k.row) same)))
    (λ (rest : has_key t (suc i) keys ≡ true). first_after t i keys above rising.1 rest)
    (either_true (is_at (row_cmp (key t (suc i))) x) (has_key t (suc i) keys) has)
next_key (x ∷ keys) (suc n) t i rising is has = ⊎_elim
    (λ (here : is_at (row_cmp (key t (suc i))) x ≡ true).
    let both = same_key t x.table (suc i) x.row here in
    let same : x ≡ key t (suc i) = sym (ap (λ (u : Table). key u (suc i)) both.0 ∙ ap (λ m. key x.table m) both.1) in
    let less : row_cmp x (key t i) ≡ Less = before_one x t i keys rising.0 (key_in keys n (key t i) is) in
    absurd (not_before t i (subst (λ (k : RowKey). row_cmp k (key t i) ≡ Less) same less)))
    (λ (rest : has_key t (suc i) keys ≡ true). next_key keys n t i rising.1 is rest)
    (either_true (is_at (row_cmp (key t (suc i))) x) (has_key t (suc i) keys) has)

some_is : (o : Option (List ℕ)) (x : List ℕ) → o ≡ Some x → is_some o ≡ true
some_is o x is = ap is_some is

module _ (counts : List ℕ) (changes : Changes) (keys : List RowKey) (shown : AreShown counts changes keys) (n : ℕ) (t : Table) (i : ℕ) (is : slice_get keys n ≡ Some (key t i)) where
  -- a key that is listed is shown, and was changed
  listed_is : (nat_lt i (count_at counts t) ≡ true) × (is_some (changed_at changes t i) ≡ true)
  listed_is = both_true _ _ (sym (shown.each t i) ∙ key_in keys n (key t i) is)

  pub listed_below : i < count_at counts t
  listed_below = nat_lt_true i _ listed_is.0

  pub listed_some : is_some (changed_at changes t i) ≡ true
  listed_some = listed_is.1

  -- the keys of the rows after it, where they were all changed
  pub following : (bytes : List ℕ) → ((j : ℕ) → i + j < count_at counts t → changed_at changes t (i + j) ≡ Some (row_at (size_of t) bytes j)) → (j : ℕ) → i + j < count_at counts t
      → slice_get keys (n + j) ≡ Some (key t (i + j))
  following bytes each zero lt = ap (λ m. slice_get keys m) (let e : n + zero ≡ n = omega arith in e) ∙ is ∙ ap (λ m. Some (key t m)) (let e : i ≡ i + zero = omega arith in e)
  following bytes each (suc j) lt =
      let before = following bytes each j (omega (arith, lt)) in
      let more : suc (i + j) ≡ i + suc j = omega arith in
      let has : has_key t (suc (i + j)) keys ≡ true = shown.each t (suc (i + j))
      ∙ both_are _ _ (lt_nat_true (suc (i + j)) _ (omega (arith, lt))) (some_is _ _ (ap (λ m. changed_at changes t m) more ∙ each (suc j) lt)) in
      ap (λ m. slice_get keys m) (let e : n + suc j ≡ suc (n + j) = omega arith in e) ∙ next_key keys (n + j) t (i + j) shown.rising before has ∙ ap (λ m. Some (key t m)) more
    where
      both_are : (b c : Bool) → b ≡ true → c ≡ true → (b && c) ≡ true
      both_are b c p q = rw (p, q) refl

  -- and their changes
  pub following_changes : (bytes : List ℕ) → ((j : ℕ) → i + j < count_at counts t → changed_at changes t (i + j) ≡ Some (row_at (size_of t) bytes j)) → (j : ℕ) → i + j < count_at counts t
      → slice_get (listed_changes changes keys) (n + j) ≡ Some (key t (i + j), row_at (size_of t) bytes j)
  following_changes bytes each j lt = listed_at changes keys (n + j) (key t (i + j)) (following bytes each j lt)
      ∙ ap (λ (o : Option (List ℕ)). Some (key t (i + j), unwrap_or o [])) (each j lt)

  pub following_within : (bytes : List ℕ) → ((j : ℕ) → i + j < count_at counts t → changed_at changes t (i + j) ≡ Some (row_at (size_of t) bytes j)) → (rows : ℕ) → 0 < rows → i + rows ≤ count_at counts t
      → n + rows ≤ length (listed_changes changes keys)
  following_within bytes each zero some le = absurd (omega (arith, some))
  following_within bytes each (suc j) some le = omega (arith, slice_get_within (listed_changes changes keys) (n + j) _ (following_changes bytes each j (omega (arith, le))))

-- a place of the changes is one of the keys
pub within_keys : (update : Update) (counts : List ℕ) (changes : Changes) (keys : List RowKey) → record { counts = counts; changes = listed_changes changes keys } ≡ update → (n : ℕ) → n < length update.changes
    → n < length keys
within_keys update counts changes keys is n lt = omega (arith, lt, ap (λ (u : Update). length u.changes) is, length-map {B = RowKey × List ℕ} keys (λ x. (x, unwrap_or (changed_at changes x.table x.row) [])))

-- a row that was found where there is one
pub one_found : {B : Type 0} (now : B → List ℕ) (o : Option B) (none x : B) (found : Option (List ℕ)) (size : ℕ) → option_map now o ≡ found → x ≡ unwrap_or o none → is_some found ≡ true → IfSome o (λ b. length (now b) ≡ size)
    → (found ≡ Some (now x)) × (length (now x) ≡ size)
one_found now (Some b) none x found size is x_is some sized = (sym is ∙ ap (λ y. Some (now y)) (sym x_is), ap (λ y. length (now y)) x_is ∙ sized)
one_found now None none x found size is x_is some sized = let no : is_some found ≡ false = ap is_some (sym is) in cc

-- the first row of the bytes of one
pub whole_row : (size : ℕ) (bytes : List ℕ) → length bytes ≡ size → row_at size bytes 0 ≡ bytes
whole_row size bytes long =
    ap (λ n. take (n + size - n) (drop n bytes)) (let e : 0 * size ≡ 0 = omega arith in e) ∙ take_all (0 + size - 0) bytes (omega (arith, long))

-- one row alone
pub only_row : (changes : Changes) (n j : ℕ) (k : RowKey) (bytes : List ℕ) (size : ℕ) → j ≡ 0 → length bytes ≡ size → slice_get changes n ≡ Some (k, bytes)
    → slice_get changes (n + j) ≡ Some (key k.table (k.row + j), row_at size bytes j)
only_row changes n j k bytes size none long is = subst (λ m. slice_get changes (n + m) ≡ Some (key k.table (k.row + m), row_at size bytes m)) (sym none)
    (ap (λ m. slice_get changes m) (let e : n + 0 ≡ n = omega arith in e) ∙ is ∙ ap (λ (b : List ℕ). Some (k, b)) (sym (whole_row size bytes long))
    ∙ ap (λ m. Some (key k.table m, row_at size bytes 0)) (let e : k.row ≡ k.row + 0 = omega arith in e))
