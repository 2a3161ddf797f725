-- Pages whose rows change as a commit changes the tables.
use Rattle.std.proofs.Common.{◌≡◌, ◌⊎◌, inl, inr, ⊎_elim, ℕ, zero, suc, ◌+◌, ◌-◌, ◌<◌, ◌≤◌, List, [], ◌∷◌, Some, None, Option, length, get_or, drop, unwrap_or, refl, sym, ◌∙◌, ap, subst, arith}
use Rattle.std.specs.Prelude.{slice_get}
use Rattle.std.specs.List.{AllByRecursion}
use Rattle.std.specs.List.Sorted.{IsStrictlySortedBy}
use Rattle.std.specs.Map.{keys_of}
use Rattle.std.specs.declared.cmp.Ordering.TheVariants.{Less}
use Rattle.std.proofs.lemmas.Bool.{cases_lt}
use Rattle.std.proofs.lemmas.List.{drop_all}
use Rattle.el_row_formats.specs.declared.table.Table.{Table}
use Rattle.el_row_formats.specs.declared.table.RowKey.{RowKey}
use Rattle.el_row_formats.specs.Tables.{Tables, size_of, row_at, row_cmp, key}
use Rattle.el_row_formats.proofs.Keys.{same_table}
use Rattle.el_rows.specs.Changes.{Changes, changed_at, count_at, row_under, under, IsMadeFrom}
use Rattle.el_rows.proofs.UnderLemmas.{get_or-under}
use Rattle.el_page_cache.specs.Pages.{KeptPages, rows_in_page, row_number, page_in, Agrees, IsRowOfRun, ArePagesWritten}
use Rattle.el_pages.proofs.Runs.{next_change}
use Rattle.el_pages.proofs.Laid.{found_first, found_later, none_up_to, none_or_some, other_row}

-- the changes from a place on rise too
rising_drop : (k : ℕ) (es : Changes) → IsStrictlySortedBy row_cmp (keys_of es) → IsStrictlySortedBy row_cmp (keys_of (drop k es))
unfolding IsStrictlySortedBy
rising_drop zero es rising = rising
rising_drop (suc k) [] rising = rising
rising_drop (suc k) (e ∷ es) rising = rising_drop k es rising.1

-- all after the first one are above it
above_first : (e : RowKey × List ℕ) (es : Changes) → IsStrictlySortedBy row_cmp (keys_of (e ∷ es)) → AllByRecursion (λ (y : RowKey). row_cmp e.0 y ≡ Less) (keys_of es)
unfolding IsStrictlySortedBy
above_first e es rising = rising.0

is_in_or_not : (t : Table) (first rows : ℕ) (u : Table) (i : ℕ) → IsRowOfRun t first rows u i ⊎ (IsRowOfRun t first rows u i → ⊥)
is_in_or_not t first rows u i = ⊎_elim
    (λ same. ⊎_elim
    (λ (lt : i < first). inr (λ is_in. omega (arith, lt, is_in.1)))
    (λ (ge : first ≤ i). ⊎_elim
    (λ (lt : i < first + rows). inl (same, ge, lt))
    (λ (past : first + rows ≤ i). inr (λ is_in. omega (arith, past, is_in.2)))
    (cases_lt i (first + rows)))
    (cases_lt i first))
    (λ ne. inr (λ is_in. ne is_in.0))
    (same_table u t)

-- What is left of the changes from a place on, laid over the pages, makes the rows of the changed tables.
abbrev pub AreLeft : Tables → List ℕ → Changes → ℕ → KeptPages → Type 0
AreLeft lists counts changes k pages =
    (u : Table) (n : ℕ) (page : List ℕ) → page_in pages u n ≡ Some page → (place : ℕ) → place < rows_in_page u → row_number u n place < count_at counts u
    → unwrap_or (changed_at (drop k changes) u (row_number u n place)) (row_at (size_of u) page place) ≡ row_under lists changes u (row_number u n place)

module _ (changes : Changes) (k : ℕ) (t : Table) (first rows : ℕ) (bytes : List ℕ) (some : 0 < rows)
    (each : (j : ℕ) → j < rows → slice_get changes (k + j) ≡ Some (key t (first + j), row_at (size_of t) bytes j)) where
  abbrev one : ℕ → RowKey × List ℕ
  one j = (key t (first + j), row_at (size_of t) bytes j)

  next : (j : ℕ) → j < rows → drop (k + j) changes ≡ one j ∷ drop (k + (j + 1)) changes
  next j lt = next_change changes (k + j) (one j) (each j lt) ∙ ap (λ n. one j ∷ drop n changes) (let e : k + j + 1 ≡ k + (j + 1) = omega arith in e)

  -- a row of the run is found from the run's front on
  found_from : (m n : ℕ) → n + m < rows → changed_at (drop (k + n) changes) t (first + (n + m)) ≡ Some (row_at (size_of t) bytes (n + m))
  found_from zero n lt =
      let here : n < rows = omega (arith, lt) in
      ap (λ (es : Changes). changed_at es t (first + (n + 0))) (next n here)
      ∙ found_first (one n) (drop (k + (n + 1)) changes) t (first + (n + 0)) refl (omega arith)
      ∙ ap (λ j. Some (row_at (size_of t) bytes j)) (let e : n ≡ n + 0 = omega arith in e)
  found_from (suc m) n lt =
      let here : n < rows = omega (arith, lt) in
      ap (λ (es : Changes). changed_at es t (first + (n + suc m))) (next n here)
      ∙ found_later (one n) (drop (k + (n + 1)) changes) t (first + (n + suc m)) (λ _ is. omega (arith, is))
      ∙ ap (λ j. changed_at (drop (k + (n + 1)) changes) t (first + j)) (let e : n + suc m ≡ n + 1 + m = omega arith in e)
      ∙ found_from m (n + 1) (omega (arith, lt))
      ∙ ap (λ j. Some (row_at (size_of t) bytes j)) (let e : n + 1 + m ≡ n + suc m = omega arith in e)

  -- and not after it
  none_after : IsStrictlySortedBy row_cmp (keys_of changes) → (j : ℕ) → j < rows → changed_at (drop (k + rows) changes) t (first + j) ≡ None
  none_after rising j lt =
      let last = rows - 1 in
      let step : drop (k + last) changes ≡ one last ∷ drop (k + rows) changes = next last (omega (arith, some)) ∙ ap (λ n. one last ∷ drop n changes) (let e : k + (last + 1) ≡ k + rows = omega (arith, some) in e) in
      none_up_to t (first + last) (first + j) (drop (k + rows) changes) (omega (arith, lt))
      (above_first (one last) (drop (k + rows) changes) (subst (λ (es : Changes). IsStrictlySortedBy row_cmp (keys_of es)) step (rising_drop (k + last) changes rising)))

  -- other rows are found as before
  same_after : (u : Table) (i : ℕ) → (IsRowOfRun t first rows u i → ⊥) → (n : ℕ) → n ≤ rows → changed_at (drop (k + n) changes) u i ≡ changed_at (drop k changes) u i
  same_after u i not_in zero le = ap (λ m. changed_at (drop m changes) u i) (let e : k + 0 ≡ k = omega arith in e)
  same_after u i not_in (suc n) le =
      let lt : n < rows = omega (arith, le) in
      ap (λ m. changed_at (drop m changes) u i) (let e : k + suc n ≡ k + (n + 1) = omega arith in e)
      ∙ sym (found_later (one n) (drop (k + (n + 1)) changes) u i (λ same is. not_in (same, omega (arith, is), omega (arith, is, lt))))
      ∙ sym (ap (λ (es : Changes). changed_at es u i) (next n lt))
      ∙ same_after u i not_in n (omega (arith, le))

  -- ---- the pages

  module _ (rising : IsStrictlySortedBy row_cmp (keys_of changes)) (lists : Tables) (counts : List ℕ) (old new : KeptPages)
      (left : AreLeft lists counts changes k old) (written : ArePagesWritten old new t first rows bytes) where
    pub left_after : AreLeft lists counts changes (k + rows) new
    left_after u n page there place within below =
        let was = written u n page there in
        let r = row_number u n place in
        let before = left u n was.0 was.1 place within below in
        ⊎_elim
        (λ (is_in : IsRowOfRun t first rows u r).
        let j = r - first in
        let r_is : r ≡ first + j = omega (arith, is_in.1) in
        let lt : j < rows = omega (arith, is_in.1, is_in.2) in
        let now : changed_at (drop k changes) u r ≡ Some (row_at (size_of t) bytes j) =
        ap (λ (v : Table). changed_at (drop k changes) v r) is_in.0
        ∙ ap (λ i. changed_at (drop k changes) t i) r_is
        ∙ ap (λ m. changed_at (drop m changes) t (first + j)) (let e : k ≡ k + 0 = omega arith in e)
        ∙ ap (λ i. changed_at (drop (k + 0) changes) t (first + i)) (let e : j ≡ 0 + j = omega arith in e)
        ∙ found_from j 0 (omega (arith, lt))
        ∙ ap (λ i. Some (row_at (size_of t) bytes i)) (let e : 0 + j ≡ j = omega arith in e) in
        let later : changed_at (drop (k + rows) changes) u r ≡ None =
        ap (λ (v : Table). changed_at (drop (k + rows) changes) v r) is_in.0
        ∙ ap (λ i. changed_at (drop (k + rows) changes) t i) r_is
        ∙ none_after rising j lt in
        ap (λ (o : Option (List ℕ)). unwrap_or o (row_at (size_of u) page place)) later
        ∙ was.2.written place within is_in
        ∙ sym (ap (λ (o : Option (List ℕ)). unwrap_or o (row_at (size_of u) was.0 place)) now)
        ∙ before)
        (λ not_in.
        ap (λ (o : Option (List ℕ)). unwrap_or o (row_at (size_of u) page place)) (same_after u r not_in rows (omega arith))
        ∙ ap (λ (b : List ℕ). unwrap_or (changed_at (drop k changes) u r) b) (was.2.others place within not_in)
        ∙ before)
        (is_in_or_not t first rows u r)

module _ (lists : Tables) (base : Table → ℕ) (counts : List ℕ) (changes : Changes) (made : IsMadeFrom base counts changes) (pages : KeptPages) where
  -- before the first run
  pub left_first : Agrees pages lists base → AreLeft lists counts changes 0 pages
  left_first agrees u n page there place within below =
      ⊎_elim
      (λ (none : changed_at changes u (row_number u n place) ≡ None).
      ap (λ (o : Option (List ℕ)). unwrap_or o (row_at (size_of u) page place)) none
      ∙ agrees u n page there place within (made.covers u (row_number u n place) below none)
      ∙ sym (ap (λ (o : Option (List ℕ)). unwrap_or o (get_or (lists u) (row_number u n place) [])) none))
      (λ found. other_row (changed_at changes u (row_number u n place)) (row_at (size_of u) page place) (get_or (lists u) (row_number u n place) []) found)
      (none_or_some (changed_at changes u (row_number u n place)))

  -- and after the last
  pub left_last : (k : ℕ) → length changes ≤ k → AreLeft lists counts changes k pages → Agrees pages (under lists counts changes) (count_at counts)
  left_last k le left u n page there place within below =
      sym (ap (λ (es : Changes). unwrap_or (changed_at es u (row_number u n place)) (row_at (size_of u) page place)) (drop_all k changes le))
      ∙ left u n page there place within below
      ∙ sym (get_or-under lists counts changes u (row_number u n place) below)

-- pages agree with the same tables
pub agrees_same : (pages : KeptPages) (lists more : Tables) (counts others : Table → ℕ) → ((t : Table) → more t ≡ lists t) → ((t : Table) → others t ≡ counts t) → Agrees pages lists counts → Agrees pages more others
agrees_same pages lists more counts others rows count agrees t n page there place within below =
    agrees t n page there place within (subst (λ m. row_number t n place < m) (count t) below)
    ∙ sym (ap (λ (l : List (List ℕ)). get_or l (row_number t n place) []) (rows t))

-- a cache with no pages agrees with all tables
pub agrees_none : (pages : KeptPages) (lists : Tables) (counts : Table → ℕ) → pages ≡ [] → Agrees pages lists counts
agrees_none pages lists counts none t n page there = absurd (no_page (sym (ap (λ (p : KeptPages). page_in p t n) none) ∙ there))
  where
    no_page : None ≡ Some page → ⊥
    no_page is = cc
