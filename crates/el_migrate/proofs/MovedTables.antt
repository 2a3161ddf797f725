-- Tables that are moved one after another.
use Rattle.std.proofs.Common.{◌≡◌, ◌≢◌, ◌<◌, ◌≤◌, ◌*◌, ℕ, List, length, sym, subst, ◌∙◌, arith}
use Rattle.el_outside.specs.Disk.{Image}
use Rattle.el_row_formats.specs.declared.table.Table.{Table}
use Rattle.el_row_formats.specs.declared.table.Table.TheVariants as table
use Rattle.el_row_formats.specs.OldRowBytes.{old_size_of}
use Rattle.el_row_formats.proofs.Keys.{index_within}
use Rattle.el_rows.specs.Changes.{count_at}
use Rattle.el_tables.specs.ChainLists.{ListedBlock}
use Rattle.el_tables.specs.Lists.{Lists}
use Rattle.el_tables.specs.Tables.{HeadCounts}
use Rattle.el_pages.specs.declared.layout.TheConstants.{FORMAT_1, FORMAT_2}
use Rattle.el_pages.specs.Layouts.{file_of}
use Rattle.el_migrate.specs.within.Moving.{HasOldRows}
use Rattle.el_migrate.specs.within.Moved.{HaveOldRows}

-- a file of format 1
pub low_file : (t : Table) → file_of FORMAT_1 t < 20
low_file t = (let lt = index_within t in omega (arith, lt))

-- a table's file of format 2
pub new_file : (t : Table) → (20 < file_of FORMAT_2 t) × (file_of FORMAT_2 t < 29)
new_file t = (omega arith, (let lt = index_within t in omega (arith, lt)))

-- rows in files that stay
pub old_rows_there : (heads : HeadCounts) (bs : List ListedBlock) (l : Lists) (counts : List ℕ) (a b : Image) → ((f : ℕ) → f < 20 → b f ≡ a f) → HaveOldRows heads bs l counts a → HaveOldRows heads bs l counts b
old_rows_there heads bs l counts a b same had = record {
  rows = λ t. subst (λ (file : List ℕ). HasOldRows heads bs l t (count_at counts t) file) (sym (same (file_of FORMAT_1 t) (low_file t))) (had.rows t);
  long = λ t. subst (λ (file : List ℕ). count_at counts t * old_size_of t ≤ length file) (sym (same (file_of FORMAT_1 t) (low_file t))) (had.long t);
}

-- what holds of each table's file of format 2, holds of those that are the same
pub files_there : (P : Table → List ℕ → Type 0) (a b : Image) → ((f : ℕ) → f ≢ 20 → f ≢ 29 → b f ≡ a f) → ((t : Table) → P t (a (file_of FORMAT_2 t))) → (t : Table) → P t (b (file_of FORMAT_2 t))
files_there P a b same has t =
    let at = new_file t in
    subst (P t) (sym (same (file_of FORMAT_2 t) (λ is. omega (arith, is, at.0)) (λ is. omega (arith, is, at.1)))) (has t)

module _ (s0 s1 s2 s3 s4 s5 s6 : Image) (o1 : (f : ℕ) → f ≢ 21 → s1 f ≡ s0 f) (o2 : (f : ℕ) → f ≢ 22 → f ≢ 23 → s2 f ≡ s1 f) (o3 : (f : ℕ) → f ≢ 24 → s3 f ≡ s2 f)
    (o4 : (f : ℕ) → f ≢ 25 → s4 f ≡ s3 f) (o5 : (f : ℕ) → f ≢ 26 → f ≢ 27 → s5 f ≡ s4 f) (o6 : (f : ℕ) → f ≢ 28 → s6 f ≡ s5 f) where
  later_2 : (f : ℕ) → f < 24 → s6 f ≡ s2 f
  later_2 f lt = o6 f (λ is. omega (arith, is, lt)) ∙ o5 f (λ is. omega (arith, is, lt)) (λ is. omega (arith, is, lt)) ∙ o4 f (λ is. omega (arith, is, lt)) ∙ o3 f (λ is. omega (arith, is, lt))

  later_1 : (f : ℕ) → f < 22 → s6 f ≡ s1 f
  later_1 f lt = later_2 f (omega (arith, lt)) ∙ o2 f (λ is. omega (arith, is, lt)) (λ is. omega (arith, is, lt))

  later_3 : (f : ℕ) → f < 25 → s6 f ≡ s3 f
  later_3 f lt = o6 f (λ is. omega (arith, is, lt)) ∙ o5 f (λ is. omega (arith, is, lt)) (λ is. omega (arith, is, lt)) ∙ o4 f (λ is. omega (arith, is, lt))

  later_4 : (f : ℕ) → f < 26 → s6 f ≡ s4 f
  later_4 f lt = o6 f (λ is. omega (arith, is, lt)) ∙ o5 f (λ is. omega (arith, is, lt)) (λ is. omega (arith, is, lt))

  later_5 : (f : ℕ) → f < 28 → s6 f ≡ s5 f
  later_5 f lt = o6 f (λ is. omega (arith, is, lt))

  -- what each file had once it was written, it has
  pub all_moved : (P : Table → List ℕ → Type 0) → P table.Blocks (s1 21) → P table.Txs (s2 22) → P table.TxHeads (s2 23) → P table.Outs (s3 24) → P table.Ins (s4 25) → P table.Scripts (s5 26)
      → P table.ScriptHeads (s5 27) → P table.Entries (s6 28) → (t : Table) → P t (s6 (file_of FORMAT_2 t))
  all_moved P a b c d e f h i table.Blocks = subst (P table.Blocks) (sym (later_1 21 (omega arith))) a
  all_moved P a b c d e f h i table.Txs = subst (P table.Txs) (sym (later_2 22 (omega arith))) b
  all_moved P a b c d e f h i table.TxHeads = subst (P table.TxHeads) (sym (later_2 23 (omega arith))) c
  all_moved P a b c d e f h i table.Outs = subst (P table.Outs) (sym (later_3 24 (omega arith))) d
  all_moved P a b c d e f h i table.Ins = subst (P table.Ins) (sym (later_4 25 (omega arith))) e
  all_moved P a b c d e f h i table.Scripts = subst (P table.Scripts) (sym (later_5 26 (omega arith))) f
  all_moved P a b c d e f h i table.ScriptHeads = subst (P table.ScriptHeads) (sym (later_5 27 (omega arith))) h
  all_moved P a b c d e f h i table.Entries = i
