-- Changed rows of one table that follow one another, written at once.
use Rattle.std.proofs.Common.{◌≡◌, ◌≢◌, ℕ, zero, suc, ◌+◌, ◌*◌, ◌<◌, ◌≤◌, max, List, [], ◌∷◌, ◌++◌, Some, length, take, drop, map, refl, sym, ◌∙◌, ap, subst, arith}
use Rattle.std.specs.Prelude.{slice_get}
use Rattle.std.proofs.lemmas.List.{drop_more, take-append-drop, map-append, length-take-le}
use Rattle.std.proofs.lemmas.Option.{slice_get_within, get_or_from_slice_get}
use Rattle.std.proofs.Math.Nat.{add-mul}
use Rattle.el_outside.specs.Disk.{over}
use Rattle.el_row_formats.specs.declared.table.Table.{Table}
use Rattle.el_row_formats.specs.declared.table.RowKey.{RowKey}
use Rattle.el_row_formats.specs.Tables.{key, row_at}
use Rattle.el_rows.specs.Changes.{Changes}
use Rattle.el_redone.specs.Redone.{Write, overlaid, WritesFit, into, Covers}
use Rattle.el_redone.proofs.Writes.{into_here, into_other, into_append, covers_none, covers_one, covers_more, fits_same, over_more, over_none}
use Rattle.el_pages.specs.declared.layout.Layout.{Layout}
use Rattle.el_pages.specs.Layouts.{file_of, size_in}
use Rattle.el_pages.specs.Records.{write_of}
use Rattle.el_page_cache.proofs.Rows.{length-row, row_ends, take_row}

-- the change of a place, and those after it
pub next_change : (xs : Changes) (i : ℕ) (e : RowKey × List ℕ) → slice_get xs i ≡ Some e → drop i xs ≡ e ∷ drop (i + 1) xs
next_change xs i e is = drop_more xs i e (slice_get_within xs i e is) ∙ ap (λ (x : RowKey × List ℕ). x ∷ drop (i + 1) xs) (get_or_from_slice_get xs i e e is)

module _ (l : Layout) (changes : Changes) (k : ℕ) (t : Table) (first rows : ℕ) (bytes : List ℕ)
    (long : length bytes ≡ rows * size_in l t)
    (each : (j : ℕ) → j < rows → slice_get changes (k + j) ≡ Some (key t (first + j), row_at (size_in l t) bytes j)) where
  -- the writes from a row of the run on, and that row's
  abbrev pub left : ℕ → List Write
  left j = map (write_of l) (drop (k + j) changes)

  abbrev row_write : ℕ → Write
  row_write j = record { file = file_of l t; at = (first + j) * size_in l t; bytes = row_at (size_in l t) bytes j }

  row_whole : (j : ℕ) → j < rows → length (row_at (size_in l t) bytes j) ≡ size_in l t
  row_whole j lt = length-row (size_in l t) bytes j (omega (arith, long, row_ends (size_in l t) j rows lt))

  left_next : (j : ℕ) → j < rows → left j ≡ row_write j ∷ left (j + 1)
  left_next j lt = ap (λ (c : Changes). map (write_of l) c) (next_change changes (k + j) (key t (first + j), row_at (size_in l t) bytes j) (each j lt))
      ∙ ap (λ n. row_write j ∷ map (write_of l) (drop n changes)) (let e : k + j + 1 ≡ k + (j + 1) = omega arith in e)

  here_next : (j : ℕ) → j < rows → into (file_of l t) (left j) ≡ row_write j ∷ into (file_of l t) (left (j + 1))
  here_next j lt = ap (into (file_of l t)) (left_next j lt) ∙ into_here (row_write j) (left (j + 1)) (file_of l t) refl

  -- each row is one of the changes
  covers_row : (j : ℕ) → j < rows → Covers (into (file_of l t) (map (write_of l) changes)) ((first + j) * size_in l t) (size_in l t)
  covers_row j lt =
      let all : map (write_of l) changes ≡ map (write_of l) (take (k + j) changes) ++ row_write j ∷ left (j + 1) =
      ap (λ (c : Changes). map (write_of l) c) (sym (take-append-drop (k + j) changes)) ∙ map-append (write_of l) (take (k + j) changes) (drop (k + j) changes)
      ∙ ap (λ (w : List Write). map (write_of l) (take (k + j) changes) ++ w) (left_next j lt) in
      let split : into (file_of l t) (map (write_of l) changes) ≡ into (file_of l t) (map (write_of l) (take (k + j) changes)) ++ row_write j ∷ into (file_of l t) (left (j + 1)) =
      ap (into (file_of l t)) all ∙ into_append (map (write_of l) (take (k + j) changes)) (row_write j ∷ left (j + 1)) (file_of l t)
      ∙ ap (λ (w : List Write). into (file_of l t) (map (write_of l) (take (k + j) changes)) ++ w) (into_here (row_write j) (left (j + 1)) (file_of l t) refl) in
      subst (λ n. Covers (into (file_of l t) (map (write_of l) changes)) ((first + j) * size_in l t) n) (row_whole j lt)
      (covers_one (into (file_of l t) (map (write_of l) changes)) (into (file_of l t) (map (write_of l) (take (k + j) changes))) (row_write j) (into (file_of l t) (left (j + 1))) split)

  covers_rows : (n : ℕ) → n ≤ rows → 0 < rows → Covers (into (file_of l t) (map (write_of l) changes)) (first * size_in l t) (n * size_in l t)
  covers_rows zero le some =
      let ws = into (file_of l t) (map (write_of l) changes) in
      let one = covers_row 0 some in
      let none : 0 * size_in l t ≡ 0 = omega arith in
      let at : (first + 0) * size_in l t ≡ first * size_in l t = ap (λ n. n * size_in l t) (let e : first + 0 ≡ first = omega arith in e) in
      subst (λ n. Covers ws (first * size_in l t) n) (sym none) (covers_none ws (first * size_in l t) (omega (arith, one.within, at)))
  covers_rows (suc n) le some =
      let ws = into (file_of l t) (map (write_of l) changes) in
      let size = size_in l t in
      let more : suc n * size ≡ n * size + size = omega arith in
      subst (λ m. Covers ws (first * size) m) (sym more)
      (covers_more ws (first * size) (n * size) size (covers_rows n (omega (arith, le)) some)
      (subst (λ m. Covers ws m size) (add-mul first n size) (covers_row n (omega (arith, le)))))

  pub covers_run : 0 < rows → Covers (into (file_of l t) (map (write_of l) changes)) (first * size_in l t) (length bytes)
  covers_run some = subst (λ n. Covers (into (file_of l t) (map (write_of l) changes)) (first * size_in l t) n) (sym long) (covers_rows rows (omega arith) some)

  -- the run begins at most at its file's end
  pub run_begins : (m : ℕ) → 0 < rows → WritesFit (into (file_of l t) (left 0)) m → first * size_in l t ≤ m
  run_begins m some fits =
      let fit = subst (λ (w : List Write). WritesFit w m) (here_next 0 some) fits in
      let at : (first + 0) * size_in l t ≡ first * size_in l t = ap (λ n. n * size_in l t) (let e : first + 0 ≡ first = omega arith in e) in
      omega (arith, fit.0, at)

  -- what comes after it fits then
  fits_after : (m n : ℕ) → n ≤ rows → first * size_in l t ≤ m → WritesFit (into (file_of l t) (left 0)) m → WritesFit (into (file_of l t) (left n)) (max m (first * size_in l t + n * size_in l t))
  fits_after m zero le begins fits = fits_same (into (file_of l t) (left 0)) m _ (let none : 0 * size_in l t ≡ 0 = omega arith in omega (arith, begins, none)) fits
  fits_after m (suc n) le begins fits =
      let size = size_in l t in
      let lt : n < rows = omega (arith, le) in
      let was = subst (λ (w : List Write). WritesFit w (max m (first * size + n * size))) (here_next n lt) (fits_after m n (omega (arith, le)) begins fits) in
      let at : (first + n) * size ≡ first * size + n * size = add-mul first n size in
      let more : suc n * size ≡ n * size + size = omega arith in
      let is : suc n ≡ n + 1 = omega arith in
      subst (λ j. WritesFit (into (file_of l t) (left j)) (max m (first * size + suc n * size))) (sym is)
      (fits_same (into (file_of l t) (left (n + 1))) (max (max m (first * size + n * size)) ((first + n) * size + length (row_at size bytes n))) (max m (first * size + suc n * size))
      (omega (arith, at, more, row_whole n lt)) was.1)

  pub run_fits : (m : ℕ) → 0 < rows → WritesFit (into (file_of l t) (left 0)) m → WritesFit (into (file_of l t) (left rows)) (max m (first * size_in l t + length bytes))
  run_fits m some fits = subst (λ n. WritesFit (into (file_of l t) (left rows)) (max m (first * size_in l t + n))) (sym long) (fits_after m rows (omega arith) (run_begins m some fits) fits)

  -- what is still to be written gives the same then
  gives_after : (b : List ℕ) (n : ℕ) → n ≤ rows → first * size_in l t ≤ length b
      → overlaid (into (file_of l t) (left 0)) b ≡ overlaid (into (file_of l t) (left n)) (over b (first * size_in l t) (take (n * size_in l t) bytes))
  gives_after b zero le begins =
      let none : 0 ≡ 0 * size_in l t = omega arith in
      ap (λ (x : List ℕ). overlaid (into (file_of l t) (left 0)) x) (sym (over_none b (first * size_in l t)) ∙ ap (λ n. over b (first * size_in l t) (take n bytes)) none)
  gives_after b (suc n) le begins =
      let size = size_in l t in
      let lt : n < rows = omega (arith, le) in
      let front : List ℕ = take (n * size) bytes in
      let ends_at = row_ends size n rows lt in
      let long_front : length front ≡ n * size = length-take-le (n * size) bytes (omega (arith, long, ends_at)) in
      let at : (first + n) * size ≡ first * size + length front = add-mul first n size ∙ ap (λ m. first * size + m) (sym long_front) in
      let more : n * size + size ≡ suc n * size = omega arith in
      let is : n + 1 ≡ suc n = omega arith in
      gives_after b n (omega (arith, le)) begins
      ∙ ap (λ (w : List Write). overlaid w (over b (first * size) front)) (here_next n lt)
      ∙ ap (λ m. overlaid (into (file_of l t) (left (n + 1))) (over (over b (first * size) front) m (row_at size bytes n))) at
      ∙ ap (λ (x : List ℕ). overlaid (into (file_of l t) (left (n + 1))) x) (over_more b (first * size) front (row_at size bytes n) begins
      ∙ ap (λ (x : List ℕ). over b (first * size) x) (take_row size bytes n (omega (arith, long, ends_at)) ∙ ap (λ m. take m bytes) more))
      ∙ ap (λ j. overlaid (into (file_of l t) (left j)) (over b (first * size) (take (suc n * size) bytes))) is

  pub run_gives : (b : List ℕ) → first * size_in l t ≤ length b
      → overlaid (into (file_of l t) (left rows)) (over b (first * size_in l t) bytes) ≡ overlaid (into (file_of l t) (left 0)) b
  run_gives b begins = sym (gives_after b rows (omega arith) begins
      ∙ ap (λ (x : List ℕ). overlaid (into (file_of l t) (left rows)) (over b (first * size_in l t) x)) (ap (λ n. take n bytes) (sym long) ∙ take_length bytes))
    where
      take_length : (x : List ℕ) → take (length x) x ≡ x
      take_length [] = refl
      take_length (y ∷ ys) = ap (λ (z : List ℕ). y ∷ z) (take_length ys)

  -- and the other files have no writes in it
  pub run_others : (f n : ℕ) → f ≢ file_of l t → n ≤ rows → into f (left n) ≡ into f (left 0)
  run_others f zero ne le = refl
  run_others f (suc n) ne le =
      let is : suc n ≡ n + 1 = omega arith in
      ap (λ j. into f (left j)) is ∙ sym (ap (into f) (left_next n (omega (arith, le))) ∙ into_other (row_write n) (left (n + 1)) f (λ e. ne (sym e))) ∙ run_others f n ne (omega (arith, le))
