-- What was read of the files, and what stands in them.
use Rattle.std.proofs.Common.{◌≡◌, ◌≢◌, ◌⊎◌, inl, inr, ⊎_elim, ◌≤◌, ◌*◌, ℕ, List, ◌++◌, length, take, drop, ap, sym, ◌∙◌, arith, subst}
use Rattle.std.proofs.Math.Path.{fun_ext}
use Rattle.std.proofs.lemmas.List.{take-append-drop}
use Rattle.el_outside.specs.Disk.{Image}
use Rattle.el_row_formats.specs.declared.table.Table.{Table}
use Rattle.el_row_formats.specs.declared.limits.TheConstants.{MIN_HEAD_BITS}
use Rattle.el_rows.specs.Changes.{count_at}
use Rattle.el_redo.specs.RedoBody.{head_bytes}
use Rattle.el_pages.specs.declared.layout.TheConstants.{FORMAT_2, LETTERS}
use Rattle.el_pages.specs.Layouts.{file_of, size_in, limit_in}
use Rattle.el_pages.specs.Records.{meta_of}
use Rattle.el_pages.specs.Indexes.{HasCounts}
use Rattle.el_recovery.specs.Checks.{Found, word, bits_told, count_told, HasBits, HasHeadOfEachBucket, IsHead, IsBadHead, IsBadHeads, IsBadCount, IsBadSize, IsBadRow, IsBadFiles, sizes_in}
use Rattle.el_recovery.proofs.Metas.{word_front, count_front}

counts_front : (file : List ℕ) → count_told FORMAT_2 (take 80 file) ≡ count_told FORMAT_2 file
counts_front file = fun_ext (λ (t : Table). count_front file t)

pub head_front : (magic : ℕ) (file : List ℕ) → IsHead FORMAT_2 magic (take 80 file) → IsHead FORMAT_2 magic file
head_front magic file head = record {
  letters = sym (word_front file 0 (omega arith)) ∙ head.letters;
  format = sym (word_front file 4 (omega arith)) ∙ head.format;
  network = sym (word_front file 8 (omega arith)) ∙ head.network;
  bits = subst (λ n. HasBits n) (word_front file 12 (omega arith)) head.bits;
}

abbrev bad_head_of : ℕ → ℕ → ℕ → ℕ → ℕ → Found → Type 0
bad_head_of magic a b c d found = ((a ≢ LETTERS) × (found ≡ (20, LETTERS, a)))
    ⊎ ((a ≡ LETTERS) × (((b ≢ 2) × (found ≡ (20, 2, b)))
    ⊎ ((b ≡ 2) × (((c ≢ magic) × (found ≡ (20, magic, c)))
    ⊎ ((c ≡ magic) × ((HasBits d → ⊥) × (found ≡ (20, MIN_HEAD_BITS, d))))))))

bad_head_front : (magic : ℕ) (file : List ℕ) (found : Found) → IsBadHead FORMAT_2 magic (take 80 file) found → IsBadHead FORMAT_2 magic file found
bad_head_front magic file found bad =
    subst (λ a. bad_head_of magic a (word file 4) (word file 8) (word file 12) found) (word_front file 0 (omega arith))
    (subst (λ b. bad_head_of magic (word (take 80 file) 0) b (word file 8) (word file 12) found) (word_front file 4 (omega arith))
    (subst (λ c. bad_head_of magic (word (take 80 file) 0) (word (take 80 file) 4) c (word file 12) found) (word_front file 8 (omega arith))
    (subst (λ d. bad_head_of magic (word (take 80 file) 0) (word (take 80 file) 4) (word (take 80 file) 8) d found) (word_front file 12 (omega arith)) bad)))

bits_front : (file : List ℕ) → bits_told (take 80 file) ≡ bits_told file
bits_front file = word_front file 12 (omega arith)

-- what is said of the bits and the counts of a front is said of its file's
both_front : (P : ℕ → (Table → ℕ) → Type 0) (file : List ℕ) → P (bits_told (take 80 file)) (count_told FORMAT_2 (take 80 file)) → P (bits_told file) (count_told FORMAT_2 file)
both_front P file p = subst (λ b. P b (count_told FORMAT_2 file)) (bits_front file) (subst (λ (c : Table → ℕ). P (bits_told (take 80 file)) c) (counts_front file) p)

-- a meta row is bad where it stands
row_front : (magic : ℕ) (file : List ℕ) (found : Found) → IsBadRow FORMAT_2 magic (take 80 file) found → IsBadRow FORMAT_2 magic file found
row_front magic file found bad = ⊎_elim
    (λ x. inl (bad_head_front magic file found x))
    (λ more. inr (
      head_front magic file more.0,
      ⊎_elim
          (λ x. inl (both_front (λ b c. IsBadHeads FORMAT_2 b c found) file x))
          (λ x. inr (both_front (λ b c. HasHeadOfEachBucket b c) file x.0, subst (λ (c : Table → ℕ). IsBadCount FORMAT_2 c found) (counts_front file) x.1))
          more.1,
    ))
    bad

module _ (magic : ℕ) (files : Image) (meta : List ℕ) (long : 80 ≤ length (files 20)) (read : meta ≡ take 80 (files 20)) where
  pub bad_row_there : (found : Found) → IsBadRow FORMAT_2 magic meta found → IsBadFiles FORMAT_2 magic (files 20) (sizes_in FORMAT_2 files) found
  bad_row_there found bad = inr (long, inl (row_front magic (files 20) found (subst (λ (m : List ℕ). IsBadRow FORMAT_2 magic m found) read bad)))

  module _ (counts sizes : List ℕ) (bits : ℕ) (bits_are : bits ≡ bits_told meta) (told : (t : Table) → count_at counts t ≡ count_told FORMAT_2 meta t) where
    bits_same : bits ≡ bits_told (files 20)
    bits_same = bits_are ∙ ap (λ (m : List ℕ). bits_told m) read ∙ bits_front (files 20)

    counts_are : count_at counts ≡ count_told FORMAT_2 (files 20)
    counts_are = fun_ext (λ (t : Table). told t ∙ ap (λ (m : List ℕ). count_told FORMAT_2 m t) read ∙ count_front (files 20) t)

    pub bad_size_there : (found : Found) → IsHead FORMAT_2 magic meta → HasHeadOfEachBucket bits (count_at counts) → ((t : Table) → count_at counts t ≤ limit_in FORMAT_2 t)
        → ((t : Table) → count_at sizes t ≡ length (files (file_of FORMAT_2 t))) → IsBadSize FORMAT_2 (count_at counts) (count_at sizes) found
        → IsBadFiles FORMAT_2 magic (files 20) (sizes_in FORMAT_2 files) found
    bad_size_there found head heads limited size bad = inr (
      long,
      inr (record {
        head = head_front magic (files 20) (subst (λ (m : List ℕ). IsHead FORMAT_2 magic m) read head);
        heads = subst (λ b. HasHeadOfEachBucket b (count_told FORMAT_2 (files 20))) bits_same (subst (λ (c : Table → ℕ). HasHeadOfEachBucket bits c) counts_are heads);
        limited = subst (λ (c : Table → ℕ). (t : Table) → c t ≤ limit_in FORMAT_2 t) counts_are limited;
        which = subst (λ (c : Table → ℕ). IsBadSize FORMAT_2 c (sizes_in FORMAT_2 files) found) counts_are
            (subst (λ (s : Table → ℕ). IsBadSize FORMAT_2 (count_at counts) s found) (fun_ext size) bad);
      }),
    )

-- a meta row as it has to be, and files with their rows
pub files_has : (files : Image) (magic meta counts : List ℕ) (bits : ℕ) → 80 ≤ length (files 20) → meta ≡ take 80 (files 20) → meta ≡ meta_of (head_bytes magic bits) counts
    → ((t : Table) → count_at counts t ≤ limit_in FORMAT_2 t) → ((t : Table) → count_at counts t * size_in FORMAT_2 t ≤ length (files (file_of FORMAT_2 t)))
    → HasCounts FORMAT_2 (head_bytes magic bits) files counts
files_has files magic meta counts bits long read is limited holds = record {
  rest = drop 80 (files 20);
  meta = sym (take-append-drop 80 (files 20)) ∙ ap (λ (b : List ℕ). b ++ drop 80 (files 20)) (sym read ∙ is);
  limited = limited;
  holds = holds;
}

-- the meta row's bytes, read
pub front_read : (seen now : Image) (meta : List ℕ) → now ≡ seen → 80 ≤ length (seen 20) → (80 ≤ length (now 20) → meta ≡ take 80 (now 20)) → meta ≡ take 80 (seen 20)
front_read seen now meta same long said =
    said (omega (arith, long, ap (λ (s : Image). length (s 20)) same)) ∙ ap (λ (s : Image). take 80 (s 20)) same
