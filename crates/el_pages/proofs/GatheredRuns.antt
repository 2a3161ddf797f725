-- Runs of changed rows that are gathered, and how many calls write them.
use Rattle.std.proofs.Common.{◌≡◌, ◌⊎◌, inl, inr, ⊎_elim, ℕ, zero, suc, ◌+◌, ◌-◌, ◌*◌, ◌<◌, ◌≤◌, Bool, true, false, List, [], ◌∷◌, ◌++◌, Some, length, take, drop, refl, sym, ◌∙◌, ap, subst, arith, length-append}
use Rattle.std.specs.Prelude.{slice_get, if◌then◌else◌}
use Rattle.std.proofs.Math.Seq.{take-append_seam, drop-append_seam}
use Rattle.std.proofs.lemmas.Bool.{cases_lt, cases_Bool}
use Rattle.std.proofs.lemmas.List.{drop-drop, length-take-le}
use Rattle.std.proofs.lemmas.List.Sums.{sum_by-cons}
use Rattle.std.proofs.lemmas.Nat.{mul-le}
use Rattle.el_row_formats.specs.declared.table.Table.{Table}
use Rattle.el_row_formats.specs.declared.table.RowKey.{RowKey}
use Rattle.el_row_formats.specs.Tables.{key, size_of, row_at}
use Rattle.el_row_formats.proofs.Keys.{same_key}
use Rattle.el_rows.specs.Changes.{Changes}
use Rattle.el_page_cache.proofs.Rows.{length-row, row_ends, row_take, row_drop}
use Rattle.el_pages.specs.within.Staging.{least_write}
use Rattle.el_pages.specs.within.Runs.{AreConsecutiveRows, is_first, runs_of, row_bytes, row_writes}
use Rattle.el_pages.proofs.Laid.{small_size}
use Rattle.el_pages.proofs.Runs.{next_change}
use Rattle.el_pages.proofs.Calls.{paid_writes}

-- ---- gathered rows

-- rows that are gathered behind others
pub rows_more : (changes : Changes) (k : ℕ) (t : Table) (first rows more : ℕ) (front bytes : List ℕ) → AreConsecutiveRows changes k t first rows front → AreConsecutiveRows changes (k + rows) t (first + rows) more bytes
    → AreConsecutiveRows changes k t first (rows + more) (front ++ bytes)
rows_more changes k t first rows more front bytes one two =
    let size = size_of t in
    let both : (rows + more) * size ≡ rows * size + more * size = omega arith in
    record {
      within = omega (arith, two.within);
      limit = omega (arith, two.limit);
      long = omega (arith, length-append front bytes, one.long, two.long, both);
      each = λ j lt. ⊎_elim
          (λ (before : j < rows). one.each j before
          ∙ ap (λ (row : List ℕ). Some (key t (first + j), row))
          (ap (λ (b : List ℕ). row_at size b j) (sym (take-append_seam front bytes) ∙ ap (λ n. take n (front ++ bytes)) one.long) ∙ row_take size (front ++ bytes) rows j before))
          (λ (after : rows ≤ j).
          let d = j - rows in
          ap (λ n. slice_get changes n) (let e : k + j ≡ k + rows + d = omega (arith, after) in e)
          ∙ two.each d (omega (arith, lt, after))
          ∙ ap (λ n. Some (key t n, row_at size bytes d)) (let e : first + rows + d ≡ first + j = omega (arith, after) in e)
          ∙ ap (λ (row : List ℕ). Some (key t (first + j), row))
          (ap (λ (b : List ℕ). row_at size b d) (sym (drop-append_seam front bytes) ∙ ap (λ n. drop n (front ++ bytes)) one.long) ∙ row_drop size (front ++ bytes) rows d
          ∙ ap (λ n. row_at size (front ++ bytes) n) (let e : rows + d ≡ j = omega (arith, after) in e)))
          (cases_lt j rows);
    }

-- the first of them
pub rows_front : (changes : Changes) (k : ℕ) (t : Table) (first rows n : ℕ) (bytes : List ℕ) → n ≤ rows → AreConsecutiveRows changes k t first rows bytes → AreConsecutiveRows changes k t first n (take (n * size_of t) bytes)
rows_front changes k t first rows n bytes le all =
    let size = size_of t in
    let less : n * size ≤ rows * size = mul-le n size rows size le (omega arith) in
    record {
      within = omega (arith, all.within, le);
      limit = omega (arith, all.limit, le);
      long = length-take-le (n * size) bytes (omega (arith, all.long, less));
      each = λ j lt. all.each j (omega (arith, lt, le)) ∙ ap (λ (row : List ℕ). Some (key t (first + j), row)) (sym (row_take size bytes n j lt));
    }

-- two rows of one place
abbrev row_of : Table → ℕ → List ℕ → RowKey × List ℕ
row_of t i row = (key t i, row)

same_parts : (t u : Table) (i j : ℕ) (a b : List ℕ) → Some (row_of t i a) ≡ Some (row_of u j b) → (t ≡ u) × (i ≡ j)
same_parts t u i j a b is =
    let same : row_of t i a ≡ row_of u j b = cc in
    (ap (λ (e : RowKey × List ℕ). e.0.table) same, ap (λ (e : RowKey × List ℕ). e.0.row) same)

pub one_row : (changes : Changes) (k : ℕ) (t u : Table) (i j : ℕ) (a b : List ℕ) → slice_get changes (k + 0) ≡ Some (row_of t (i + 0) a) → slice_get changes k ≡ Some (row_of u j b) → (t ≡ u) × (i ≡ j)
one_row changes k t u i j a b one two = same_parts t u i j a b
    (ap (λ n. Some (row_of t n a)) (let e : i ≡ i + 0 = omega arith in e)
    ∙ sym one ∙ ap (λ n. slice_get changes n) (let e : k + 0 ≡ k = omega arith in e) ∙ two)

-- ---- the calls that write the changes

-- those from place k on are left: the calls so far, one for each of their runs, and their bytes are within what
-- all of them allow
abbrev pub ArePaid : ℕ → Changes → ℕ → ℕ → ℕ → Type 0
ArePaid size changes a b k = (b + runs_of (drop k changes)) * least_write size + row_bytes (drop k changes) ≤ (a + runs_of changes) * least_write size + row_bytes changes

-- one call more writes the end of a run, or as many bytes as pay for it
paid_step : (least b c before after used left all : ℕ) → c ≡ b + 1 → (b + before) * least + (used + left) ≤ all → ((after ≤ before) × (least ≤ used)) ⊎ (after + 1 ≤ before) → (c + after) * least + left ≤ all
paid_step least b c before after used left all more paid = ⊎_elim
    (λ full.
    let less : (c + after) * least ≤ (b + before + 1) * least = mul-le (c + after) least (b + before + 1) least (omega (arith, more, full.0)) (omega arith) in
    let one : (b + before + 1) * least ≡ (b + before) * least + least = omega arith in
    omega (arith, less, one, paid, full.1))
    (λ ended.
    let less : (c + after) * least ≤ (b + before) * least = mul-le (c + after) least (b + before) least (omega (arith, more, ended)) (omega arith) in
    omega (arith, less, paid))

-- the calls are as few as all of them allow
pub paid_calls : (size : ℕ) (changes : Changes) (a b k : ℕ) → 256 ≤ size → ArePaid size changes a b k → b ≤ a + row_writes size changes
paid_calls size changes a b k big paid =
    let least = least_write size in
    let less : b * least ≤ (b + runs_of (drop k changes)) * least = mul-le b least (b + runs_of (drop k changes)) least (omega arith) (omega arith) in
    omega (arith, paid_writes size (a + runs_of changes) b (row_bytes changes) big (omega (arith, less, paid)))

runs_later : (es : Changes) (n : ℕ) → runs_of (drop n es) ≤ runs_of es
runs_later es zero = omega arith
runs_later [] (suc n) = omega arith
runs_later (e ∷ es) (suc n) = omega (arith, runs_later es n)

-- a run ends with a row that isn't followed
run_ends : (e : RowKey × List ℕ) (es : Changes) → is_first (key e.0.table (e.0.row + 1)) es ≡ false → runs_of (e ∷ es) ≡ 1 + runs_of es
run_ends e es none = ap (λ (b : Bool). (if b then 0 else 1) + runs_of es) none

-- the first of the changes that are left
get_left : (n : ℕ) (es : Changes) → slice_get (drop n es) 0 ≡ slice_get es n
get_left zero es = refl
get_left (suc n) [] = refl
get_left (suc n) (e ∷ es) = get_left n es

first_there : (es : Changes) (row : RowKey) → is_first row es ≡ true → (bytes : List ℕ) × (slice_get es 0 ≡ Some (row, bytes))
first_there [] row is = absurd (let never : false ≡ true = is in cc)
first_there (e ∷ es) row is =
    let same = same_key row.table e.0.table row.row e.0.row is in
    (e.1, ap (λ (u : Table). Some (key u e.0.row, e.1)) (sym same.0) ∙ ap (λ i. Some (key row.table i, e.1)) (sym same.1))

module _ (changes : Changes) (k : ℕ) (t : Table) (first rows : ℕ) (bytes : List ℕ) (run : AreConsecutiveRows changes k t first rows bytes) where
  abbrev row : ℕ → List ℕ
  row j = row_at (size_of t) bytes j

  change_next : (j : ℕ) → j < rows → drop (k + j) changes ≡ (key t (first + j), row j) ∷ drop (k + (j + 1)) changes
  change_next j lt = next_change changes (k + j) (key t (first + j), row j) (run.each j lt)
      ∙ ap (λ n. (key t (first + j), row j) ∷ drop n changes) (let e : k + j + 1 ≡ k + (j + 1) = omega arith in e)

  bytes_left : (n : ℕ) → n ≤ rows → row_bytes (drop k changes) ≡ n * size_of t + row_bytes (drop (k + n) changes)
  bytes_left zero le = ap (λ n. row_bytes (drop n changes)) (let e : k ≡ k + 0 = omega arith in e) ∙ (let e : row_bytes (drop (k + 0) changes) ≡ 0 * size_of t + row_bytes (drop (k + 0) changes) = omega arith in e)
  bytes_left (suc n) le =
      let lt : n < rows = omega (arith, le) in
      let before = bytes_left n (omega (arith, le)) in
      let next : row_bytes (drop (k + n) changes) ≡ length (row n) + row_bytes (drop (k + (n + 1)) changes) =
      ap (λ (es : Changes). row_bytes es) (change_next n lt) ∙ sum_by-cons (λ (e : RowKey × List ℕ). length e.1) (key t (first + n), row n) (drop (k + (n + 1)) changes) in
      let long : length (row n) ≡ size_of t = length-row (size_of t) bytes n (omega (arith, run.long, row_ends (size_of t) n rows lt)) in
      let more : suc n * size_of t ≡ n * size_of t + size_of t = omega arith in
      let same : row_bytes (drop (k + (n + 1)) changes) ≡ row_bytes (drop (k + suc n) changes) = ap (λ m. row_bytes (drop m changes)) (let e : k + (n + 1) ≡ k + suc n = omega arith in e) in
      omega (arith, before, next, long, more, same)

  runs_left : (n : ℕ) → runs_of (drop (k + n) changes) ≤ runs_of (drop k changes)
  runs_left n = subst (λ (es : Changes). runs_of es ≤ runs_of (drop k changes)) (drop-drop n k changes) (runs_later (drop k changes) n)

  last_ends : 0 < rows → is_first (key t (first + rows)) (drop (k + rows) changes) ≡ false → runs_of (drop (k + rows) changes) + 1 ≤ runs_of (drop k changes)
  last_ends some none =
      let j = rows - 1 in
      let next : j + 1 ≡ rows = omega (arith, some) in
      let here : drop (k + j) changes ≡ (key t (first + j), row j) ∷ drop (k + rows) changes =
      change_next j (omega (arith, some)) ∙ ap (λ n. (key t (first + j), row j) ∷ drop (k + n) changes) next in
      let one : runs_of (drop (k + j) changes) ≡ 1 + runs_of (drop (k + rows) changes) =
      ap runs_of here ∙ run_ends (key t (first + j), row j) (drop (k + rows) changes) (ap (λ n. is_first (key t n) (drop (k + rows) changes)) (let e : first + j + 1 ≡ first + rows = omega (arith, some) in e) ∙ none) in
      omega (arith, one, runs_left j)

  -- rows of a run that ends with them, or that fill the buffer
  pub paid_run : (size a b c : ℕ) → 256 ≤ size → 0 < rows → ((row : List ℕ) → slice_get changes (k + rows) ≡ Some (key t (first + rows), row) → size < rows * size_of t + size_of t)
      → ArePaid size changes a b k → c ≡ b + 1 → ArePaid size changes a c (k + rows)
  paid_run size a b c big some whole paid more =
      let left = row_bytes (drop (k + rows) changes) in
      let used = rows * size_of t in
      let all = (a + runs_of changes) * least_write size + row_bytes changes in
      paid_step (least_write size) b c (runs_of (drop k changes)) (runs_of (drop (k + rows) changes)) used left all more
      (subst (λ n. (b + runs_of (drop k changes)) * least_write size + n ≤ all) (bytes_left rows (omega arith)) paid)
      (⊎_elim
      (λ (is : is_first (key t (first + rows)) (drop (k + rows) changes) ≡ true).
      let there = first_there (drop (k + rows) changes) (key t (first + rows)) is in
      inl (runs_left rows, omega (arith, whole there.0 (sym (get_left (k + rows) changes) ∙ there.1), small_size t)))
      (λ none. inr (last_ends some none))
      (cases_Bool (is_first (key t (first + rows)) (drop (k + rows) changes))))
