-- A run of changed rows of format 2, written into its file.
use Rattle.std.proofs.Common.{◌≡◌, ◌≢◌, ⊎_elim, ℕ, ◌+◌, ◌*◌, ◌<◌, ◌≤◌, max, List, Some, length, drop, map, sym, ◌∙◌, ap, subst, arith}
use Rattle.std.specs.Prelude.{slice_get}
use Rattle.std.proofs.lemmas.Bool.{cases_eq}
use Rattle.el_outside.specs.Disk.{Image, over}
use Rattle.el_outside.proofs.Bytes.{length-over}
use Rattle.el_row_formats.specs.declared.table.Table.{Table}
use Rattle.el_row_formats.specs.Tables.{key, row_at, size_of}
use Rattle.el_row_formats.proofs.Keys.{index_within}
use Rattle.el_rows.specs.Changes.{Changes}
use Rattle.el_redone.specs.Redone.{Write, overlaid, WritesFit, into, Covers}
use Rattle.el_redone.proofs.Writes.{fits_same}
use Rattle.el_pages.specs.declared.layout.TheConstants.{FORMAT_2}
use Rattle.el_pages.specs.Layouts.{file_of, size_in}
use Rattle.el_pages.specs.Records.{write_of, writes_of}
use Rattle.el_pages.proofs.Laid.{sizes_2, into_table}
use Rattle.el_pages.proofs.Runs.{covers_run, run_begins, run_fits, run_gives, run_others}

module _ (changes : Changes) (k : ℕ) (t : Table) (first rows : ℕ) (bytes : List ℕ) (some : 0 < rows)
    (long : length bytes ≡ rows * size_of t)
    (each : (j : ℕ) → j < rows → slice_get changes (k + j) ≡ Some (key t (first + j), row_at (size_of t) bytes j)) where
  file : ℕ
  file = file_of FORMAT_2 t

  long_in : length bytes ≡ rows * size_in FORMAT_2 t
  long_in = subst (λ s. length bytes ≡ rows * s) (sym (sizes_2 t)) long

  each_in : (j : ℕ) → j < rows → slice_get changes (k + j) ≡ Some (key t (first + j), row_at (size_in FORMAT_2 t) bytes j)
  each_in j lt = subst (λ s. slice_get changes (k + j) ≡ Some (key t (first + j), row_at s bytes j)) (sym (sizes_2 t)) (each j lt)

  abbrev rest : ℕ → List Write
  rest n = map (write_of FORMAT_2) (drop n changes)

  now_rest : (f : ℕ) → into f (rest (k + 0)) ≡ into f (rest k)
  now_rest f = ap (λ n. into f (rest n)) (let e : k + 0 ≡ k = omega arith in e)

  -- the record names all of its places
  pub run_covered : (meta : List ℕ) (ws : List Write) → ws ≡ writes_of FORMAT_2 meta changes → Covers (into (file_of FORMAT_2 t) ws) (first * size_of t) (length bytes)
  run_covered meta ws is =
      subst (λ (w : List Write). Covers (into (file_of FORMAT_2 t) w) (first * size_of t) (length bytes)) (sym is)
      (subst (λ (w : List Write). Covers w (first * size_of t) (length bytes)) (sym (into_table FORMAT_2 meta changes t))
      (subst (λ s. Covers (into (file_of FORMAT_2 t) (map (write_of FORMAT_2) changes)) (first * s) (length bytes)) (sizes_2 t)
      (covers_run FORMAT_2 changes k t first rows bytes long_in each_in some)))

  module _ (seen : Image) (fits : (f : ℕ) → 20 ≤ f → f < 29 → WritesFit (into f (rest k)) (length (seen f))) where
    table_file : file_of FORMAT_2 t < 29
    table_file = omega (arith, index_within t)

    fits_here : WritesFit (into (file_of FORMAT_2 t) (rest (k + 0))) (length (seen (file_of FORMAT_2 t)))
    fits_here = subst (λ (w : List Write). WritesFit w (length (seen (file_of FORMAT_2 t)))) (sym (now_rest (file_of FORMAT_2 t))) (fits (file_of FORMAT_2 t) (omega arith) table_file)

    pub run_reach : first * size_of t ≤ length (seen (file_of FORMAT_2 t))
    run_reach = subst (λ s. first * s ≤ length (seen (file_of FORMAT_2 t))) (sizes_2 t) (run_begins FORMAT_2 changes k t first rows bytes long_in each_in (length (seen (file_of FORMAT_2 t))) some fits_here)

    module _ (now : Image) (here : now (file_of FORMAT_2 t) ≡ over (seen (file_of FORMAT_2 t)) (first * size_of t) bytes) (others : (f : ℕ) → f ≢ file_of FORMAT_2 t → now f ≡ seen f) where
      pub next_fits : (f : ℕ) → 20 ≤ f → f < 29 → WritesFit (into f (rest (k + rows))) (length (now f))
      next_fits f low lt = ⊎_elim
          (λ (is : f ≡ file_of FORMAT_2 t). subst (λ g. WritesFit (into g (rest (k + rows))) (length (now g))) (sym is)
          (fits_same (into (file_of FORMAT_2 t) (rest (k + rows))) (max (length (seen (file_of FORMAT_2 t))) (first * size_in FORMAT_2 t + length bytes)) (length (now (file_of FORMAT_2 t)))
          (ap (λ s. max (length (seen (file_of FORMAT_2 t))) (first * s + length bytes)) (sizes_2 t) ∙ sym (ap (λ (b : List ℕ). length b) here ∙ length-over (seen (file_of FORMAT_2 t)) (first * size_of t) bytes run_reach))
          (run_fits FORMAT_2 changes k t first rows bytes long_in each_in (length (seen (file_of FORMAT_2 t))) some fits_here)))
          (λ ne. subst (λ (b : List ℕ). WritesFit (into f (rest (k + rows))) (length b)) (sym (others f ne))
          (subst (λ (w : List Write). WritesFit w (length (seen f))) (sym (run_others FORMAT_2 changes k t first rows bytes long_in each_in f rows ne (omega arith) ∙ now_rest f)) (fits f low lt)))
          (cases_eq f (file_of FORMAT_2 t))

      pub next_gives : (f : ℕ) → 20 ≤ f → f < 29 → overlaid (into f (rest (k + rows))) (now f) ≡ overlaid (into f (rest k)) (seen f)
      next_gives f low lt = ⊎_elim
          (λ (is : f ≡ file_of FORMAT_2 t). subst (λ g. overlaid (into g (rest (k + rows))) (now g) ≡ overlaid (into g (rest k)) (seen g)) (sym is)
          (ap (λ (b : List ℕ). overlaid (into (file_of FORMAT_2 t) (rest (k + rows))) b) (here ∙ ap (λ s. over (seen (file_of FORMAT_2 t)) (first * s) bytes) (sym (sizes_2 t)))
          ∙ run_gives FORMAT_2 changes k t first rows bytes long_in each_in (seen (file_of FORMAT_2 t)) (subst (λ s. first * s ≤ length (seen (file_of FORMAT_2 t))) (sym (sizes_2 t)) run_reach)
          ∙ ap (λ (w : List Write). overlaid w (seen (file_of FORMAT_2 t))) (now_rest (file_of FORMAT_2 t))))
          (λ ne. ap (λ (b : List ℕ). overlaid (into f (rest (k + rows))) b) (others f ne)
          ∙ ap (λ (w : List Write). overlaid w (seen f)) (run_others FORMAT_2 changes k t first rows bytes long_in each_in f rows ne (omega arith) ∙ now_rest f))
          (cases_eq f (file_of FORMAT_2 t))
