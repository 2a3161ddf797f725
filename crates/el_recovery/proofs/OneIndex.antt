-- An image stands for one index.
use Rattle.std.proofs.Common.{◌≡◌, ◌<◌, ◌^◌, ℕ, List, [], ◌∷◌, ◌++◌, length, map, get_or, refl, ap, sym, ◌∙◌, arith, append_assoc, length-append}
use Rattle.std.specs.List.{AllByRecursion}
use Rattle.std.specs.Int.{w32, w64, to_le_bytes}
use Rattle.el_base.proofs.Lists.{same_cut}
use Rattle.el_outside.specs.Disk.{Image}
use Rattle.el_row_formats.specs.declared.table.Table.{Table}
use Rattle.el_row_formats.specs.declared.table.Table.TheVariants as table
use Rattle.el_row_formats.specs.Tables.{Tables, index_of}
use Rattle.el_row_formats.proofs.Keys.{index_within}
use Rattle.el_rows.specs.Changes.{count_at}
use Rattle.el_rows.specs.Reads.{Same}
use Rattle.el_redo.specs.RedoBody.{head_bytes, numbers_bytes, all_tables}
use Rattle.el_pages.specs.declared.layout.Layout.{Layout}
use Rattle.el_pages.specs.Layouts.{file_of, redo_of, size_in, limit_in, rows_in}
use Rattle.el_pages.specs.Records.{meta_of}
use Rattle.el_pages.specs.Indexes.{HasCounts, ShowsTables}
use Rattle.el_recovery.proofs.Spelled.{same_number}
use Rattle.el_recovery.proofs.Alike.{one_stands}

abbrev Small : List ℕ → Type 0
Small ns = AllByRecursion (λ (n : ℕ). n < 2 ^ 64) ns

same_numbers : (ns ms r s : List ℕ) → Small ns → Small ms → length ns ≡ length ms → numbers_bytes ns ++ r ≡ numbers_bytes ms ++ s → ns ≡ ms
same_numbers [] [] r s a b long same = refl
same_numbers [] (m ∷ ms) r s a b long same = absurd (omega (arith, long))
same_numbers (n ∷ ns) [] r s a b long same = absurd (omega (arith, long))
same_numbers (n ∷ ns) (m ∷ ms) r s a b long same =
    let first = to_le_bytes w64 n in
    let second = to_le_bytes w64 m in
    let cut = same_cut first (numbers_bytes ns ++ r) second (numbers_bytes ms ++ s) refl (sym (append_assoc first (numbers_bytes ns) r) ∙ same ∙ append_assoc second (numbers_bytes ms) s) in
    ap (λ (k : ℕ). k ∷ ns) (same_number n m a.0 b.0 cut.0) ∙ ap (λ (ks : List ℕ). m ∷ ks) (same_numbers ns ms r s a.1 b.1 (omega (arith, long)) cut.1)

-- ---- the counts of a meta row

abbrev all_counts : List ℕ → List ℕ
all_counts counts = map (count_at counts) all_tables

count_in_all : (counts : List ℕ) (t : Table) → get_or (all_counts counts) (index_of t) 0 ≡ count_at counts t
count_in_all counts t = elim t as (λ u. get_or (all_counts counts) (index_of u) 0 ≡ count_at counts u) [
  | table.Blocks ↦ refl
  | table.Txs ↦ refl
  | table.TxHeads ↦ refl
  | table.Outs ↦ refl
  | table.Ins ↦ refl
  | table.Scripts ↦ refl
  | table.ScriptHeads ↦ refl
  | table.Entries ↦ refl
]

all_small : (counts : List ℕ) → ((t : Table) → count_at counts t < 2 ^ 64) → Small (all_counts counts)
all_small counts small =
    (small table.Blocks, (small table.Txs, (small table.TxHeads, (small table.Outs, (small table.Ins, (small table.Scripts, (small table.ScriptHeads, (small table.Entries, tt))))))))

after_head : (head counts r : List ℕ) → meta_of head counts ++ r ≡ head ++ (numbers_bytes (all_counts counts) ++ r)
unfolding meta_of
after_head head counts r = append_assoc head (numbers_bytes (all_counts counts)) r

-- heads of one network have one length
pub heads_long : (magic : List ℕ) (m n : ℕ) → length (head_bytes magic m) ≡ length (head_bytes magic n)
unfolding head_bytes
heads_long magic m n =
    let one : length (to_le_bytes w32 m) ≡ 4 = refl in
    let two : length (to_le_bytes w32 n) ≡ 4 = refl in
    omega (arith, length-append magic (to_le_bytes w32 m), length-append magic (to_le_bytes w32 n), one, two)

module _ (head other : List ℕ) (long : length head ≡ length other) where
  one_meta : (a b r s : List ℕ) → ((t : Table) → count_at a t < 2 ^ 64) → ((t : Table) → count_at b t < 2 ^ 64) → meta_of head a ++ r ≡ meta_of other b ++ s
      → (t : Table) → count_at a t ≡ count_at b t
  one_meta a b r s few less same t =
      let cut = same_cut head (numbers_bytes (all_counts a) ++ r) other (numbers_bytes (all_counts b) ++ s) long (sym (after_head head a r) ∙ same ∙ after_head other b s) in
      sym (count_in_all a t)
      ∙ ap (λ (ns : List ℕ). get_or ns (index_of t) 0) (same_numbers (all_counts a) (all_counts b) r s (all_small a few) (all_small b less) refl cut.1)
      ∙ count_in_all b t

module _ (l : Layout) (limited : (t : Table) → limit_in l t < 2 ^ 64) (head other : List ℕ) (long : length head ≡ length other) where
  one_counts : (x y : Image) (a b : List ℕ) → x l.first ≡ y l.first → HasCounts l head x a → HasCounts l other y b → (t : Table) → count_at a t ≡ count_at b t
  one_counts x y a b same m n t =
      one_meta head other long a b m.rest n.rest (λ u. omega (arith, m.limited u, limited u)) (λ u. omega (arith, n.limited u, limited u)) (sym m.meta ∙ same ∙ n.meta) t

  pub one_index : (image : Image) (a b : Tables) → length (image (redo_of l)) < 2 ^ 62 → ShowsTables l head image a → ShowsTables l other image b → Same a b
  one_index image a b small x y t =
      let files = one_stands l image x.files y.files small x.stands y.stands in
      let counts = one_counts x.files y.files x.counts y.counts (files l.first (omega arith) (omega arith)) x.has y.has t in
      y.same t
      ∙ ap (λ (file : List ℕ). rows_in (size_in l t) file (count_at y.counts t)) (sym (files (file_of l t) (omega arith) (omega (arith, index_within t))))
      ∙ ap (λ (n : ℕ). rows_in (size_in l t) (x.files (file_of l t)) n) (sym counts)
      ∙ sym (x.same t)
