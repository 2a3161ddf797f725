-- Runs of rows that are written one after another.
use Rattle.std.proofs.Common.{◌≡◌, ◌≢◌, inl, ⊎_elim, ◌<◌, ◌≤◌, ◌+◌, ◌-◌, ◌*◌, ℕ, List, [], ◌++◌, length, get_or, take, drop, ap, sym, subst, ◌∙◌, arith, append_assoc}
use Rattle.std.proofs.lemmas.Bool.{cases_lt}
use Rattle.std.proofs.lemmas.List.{drop-drop}
use borrow.Rule.Slice.PartMut.{put_mid}
use Rattle.el_outside.specs.Disk.{over}
use Rattle.el_outside.proofs.Bytes.{length-over}
use Rattle.el_row_formats.specs.declared.table.Table.{Table}
use Rattle.el_row_formats.specs.Tables.{size_of, row_at}
use Rattle.el_row_formats.specs.OldRowBytes.{old_size_of}
use Rattle.el_tables.specs.ChainLists.{ListedBlock}
use Rattle.el_tables.specs.Lists.{Lists}
use Rattle.el_tables.specs.Tables.{HeadCounts}
use Rattle.el_page_cache.proofs.Rows.{row_ends, row_over_here, row_over_other, rows_over_here, rows_over_other, row_drop, row_take}
use Rattle.el_pages.specs.declared.layout.TheConstants.{FORMAT_1, FORMAT_2}
use Rattle.el_pages.specs.Layouts.{file_of}
use Rattle.el_migrate.specs.within.Moving.{HasOnlyRows, HasOldRows, IsOldRow}

-- a run behind those that stand in the file
pub run_rows : (t : Table) (file bytes : List ℕ) (all : List (List ℕ)) (first rows : ℕ) → HasOnlyRows t file all first → length bytes ≡ rows * size_of t
    → ((j : ℕ) → j < rows → row_at (size_of t) bytes j ≡ get_or all (first + j) []) → HasOnlyRows t (over file (first * size_of t) bytes) all (first + rows)
run_rows t file bytes all first rows has long each = record {
  long = (let is = length-over file (first * size_of t) bytes (omega (arith, has.long)) in let both : (first + rows) * size_of t ≡ first * size_of t + rows * size_of t = omega arith in omega (arith, is, has.long, long, both));
  each = λ i lt. ⊎_elim
      (λ (before : i < first).
      rows_over_other (size_of t) file bytes first rows i (inl before) (let ends = row_ends (size_of t) i first before in omega (arith, ends, has.long)) (omega (arith, has.long)) long ∙ has.each i before)
      (λ (after : first ≤ i).
      let d = i - first in
      let is : i ≡ first + d = omega (arith, after) in
      let few : d < rows = omega (arith, lt, after) in
      ap (row_at (size_of t) (over file (first * size_of t) bytes)) is ∙ rows_over_here (size_of t) file bytes first rows d (omega (arith, has.long)) long few
      ∙ each d few ∙ ap (λ k. get_or all k []) (sym is))
      (cases_lt i first);
}

-- no rows
pub no_run : (t : Table) (file : List ℕ) (all : List (List ℕ)) → file ≡ [] → HasOnlyRows t file all 0
no_run t file all none = record { long = ap length none ∙ (let zero_is : 0 ≡ 0 * size_of t = omega arith in zero_is); each = λ i lt. absurd (omega (arith, lt)) }

-- a table's file of format 1 is none of format 2
pub other_file : (t : Table) → file_of FORMAT_1 t ≢ file_of FORMAT_2 t
other_file t is = omega (arith, is)

-- ---- a row in the place of another

over_put : (at k : ℕ) (b row : List ℕ) → length row ≡ k → put_mid at k b row ≡ over b at row
over_put at k b row sized =
    ap (λ (x : List ℕ). take at b ++ (row ++ x)) (drop-drop k at b ∙ ap (λ n. drop n b) (let e : at + k ≡ at + length row = omega (arith, sized) in e))
    ∙ sym (append_assoc (take at b) row (drop (at + length row) b))

module _ (size rows j at k : ℕ) (b row : List ℕ) (long : length b ≡ rows * size) (lt : j < rows) (sized : length row ≡ size) (place : at ≡ j * size) (part : k ≡ size) where
  within : j * size + size ≤ length b
  within = (let ends = row_ends size j rows lt in omega (arith, ends, long))

  same : put_mid at k b row ≡ over b (j * size) row
  same = over_put at k b row (sized ∙ sym part) ∙ ap (λ n. over b n row) place

  pub put_long : length (put_mid at k b row) ≡ rows * size
  put_long = ap (λ (x : List ℕ). length x) same ∙ (let is = length-over b (j * size) row (omega (arith, within)) in omega (arith, is, within, sized, long))

  pub put_rows : (all : ℕ → List ℕ) → ((i : ℕ) → i < j → row_at size b i ≡ all i) → row ≡ all j → (i : ℕ) → i < j + 1 → row_at size (put_mid at k b row) i ≡ all i
  put_rows all before here i below = ap (λ (x : List ℕ). row_at size x i) same ∙ ⊎_elim
      (λ (less : i < j).
      row_over_other size b row i j (λ is. omega (arith, is, less)) (let ends = row_ends size i rows (omega (arith, less, lt)) in omega (arith, ends, long)) (omega (arith, within)) sized
      ∙ before i less)
      (λ (ge : j ≤ i).
      let is : i ≡ j = omega (arith, ge, below) in
      subst (λ n. row_at size (over b (j * size) row) n ≡ all n) (sym is) (row_over_here size b row j (omega (arith, within)) sized ∙ here))
      (cases_lt i j)

-- the front of a buffer was filled
pub front_long : (at k : ℕ) (b row : List ℕ) → at ≡ 0 → length row ≡ k → k ≤ length b → length (put_mid at k b row) ≡ length b
front_long at k b row front sized le =
    ap (λ (x : List ℕ). length x) (over_put at k b row sized) ∙ (let is = length-over b at row (omega (arith, front)) in omega (arith, is, front, sized, le))

-- ---- a run of rows that was read

pub run_old : (counts : HeadCounts) (bs : List ListedBlock) (l : Lists) (t : Table) (n first rows : ℕ) (file buf : List ℕ) → HasOldRows counts bs l t n file → first + rows ≤ n
    → buf ≡ take (rows * old_size_of t) (drop (first * old_size_of t) file) → (j : ℕ) → j < rows → IsOldRow counts bs l t (first + j) (row_at (old_size_of t) buf j)
run_old counts bs l t n first rows file buf had le is j lt = record {
  fit = had.fit;
  within = (let many = had.many in omega (arith, many, le, lt));
  is = ap (λ (b : List ℕ). row_at (old_size_of t) b j) is
      ∙ row_take (old_size_of t) (drop (first * old_size_of t) file) rows j lt
      ∙ row_drop (old_size_of t) file first j
      ∙ had.each (first + j) (omega (arith, le, lt));
}
