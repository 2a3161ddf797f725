-- What was read of the files, and what stands in them.
use Rattle.std.proofs.Common.{◌≡◌, ◌≢◌, ◌⊎◌, inl, inr, ⊎_elim, ◌≤◌, ◌*◌, ℕ, List, ◌++◌, length, take, drop, ap, sym, ◌∙◌, arith, subst}
use Rattle.std.proofs.Math.Path.{fun_ext}
use Rattle.std.proofs.lemmas.List.{take-append-drop}
use Rattle.el_outside.specs.Disk.{Image}
use Rattle.el_row_formats.specs.declared.table.Table.{Table}
use Rattle.el_rows.specs.Changes.{count_at}
use Rattle.el_pages.specs.declared.layout.TheConstants.{FORMAT_1, LETTERS}
use Rattle.el_pages.specs.Layouts.{file_of, size_in, limit_in}
use Rattle.el_pages.specs.Records.{meta_of}
use Rattle.el_recovery.specs.Checks.{Found, word, count_told, IsBadCount, IsBadSize, sizes_in}
use Rattle.el_migrate.proofs.OldMetas.{word_front, count_front}
use Rattle.el_migrate.specs.OldChecks.{HasOldHeads, IsOldHead, IsBadOldHead, IsBadOldHeads, IsBadOldRow, IsBadOldFiles}
use Rattle.el_migrate.specs.OldIndexes.{old_head_bytes, HasOldCounts}

counts_front : (file : List ℕ) → count_told FORMAT_1 (take 76 file) ≡ count_told FORMAT_1 file
counts_front file = fun_ext (λ (t : Table). count_front file t)

pub head_front : (magic : ℕ) (file : List ℕ) → IsOldHead FORMAT_1 magic (take 76 file) → IsOldHead FORMAT_1 magic file
head_front magic file head = record {
  letters = sym (word_front file 0 (omega arith)) ∙ head.letters;
  format = sym (word_front file 4 (omega arith)) ∙ head.format;
  network = sym (word_front file 8 (omega arith)) ∙ head.network;
}

abbrev bad_head_of : ℕ → ℕ → ℕ → ℕ → Found → Type 0
bad_head_of magic a b c found = ((a ≢ LETTERS) × (found ≡ (0, LETTERS, a)))
    ⊎ ((a ≡ LETTERS) × (((b ≢ 1) × (found ≡ (0, 1, b)))
    ⊎ ((b ≡ 1) × ((c ≢ magic) × (found ≡ (0, magic, c))))))

bad_head_front : (magic : ℕ) (file : List ℕ) (found : Found) → IsBadOldHead FORMAT_1 magic (take 76 file) found → IsBadOldHead FORMAT_1 magic file found
bad_head_front magic file found bad =
    subst (λ a. bad_head_of magic a (word file 4) (word file 8) found) (word_front file 0 (omega arith))
    (subst (λ b. bad_head_of magic (word (take 76 file) 0) b (word file 8) found) (word_front file 4 (omega arith))
    (subst (λ c. bad_head_of magic (word (take 76 file) 0) (word (take 76 file) 4) c found) (word_front file 8 (omega arith)) bad))

-- a meta row is bad where it stands
row_front : (magic : ℕ) (file : List ℕ) (found : Found) → IsBadOldRow FORMAT_1 magic (take 76 file) found → IsBadOldRow FORMAT_1 magic file found
row_front magic file found bad = ⊎_elim
    (λ x. inl (bad_head_front magic file found x))
    (λ more. inr (
      head_front magic file more.0,
      ⊎_elim
          (λ x. inl (subst (λ (c : Table → ℕ). IsBadOldHeads FORMAT_1 c found) (counts_front file) x))
          (λ x. inr (subst (λ (c : Table → ℕ). HasOldHeads c) (counts_front file) x.0, subst (λ (c : Table → ℕ). IsBadCount FORMAT_1 c found) (counts_front file) x.1))
          more.1,
    ))
    bad

module _ (magic : ℕ) (files : Image) (meta : List ℕ) (long : 76 ≤ length (files 0)) (read : meta ≡ take 76 (files 0)) where
  pub bad_row_there : (found : Found) → IsBadOldRow FORMAT_1 magic meta found → IsBadOldFiles FORMAT_1 magic (files 0) (sizes_in FORMAT_1 files) found
  bad_row_there found bad = inr (long, inl (row_front magic (files 0) found (subst (λ (m : List ℕ). IsBadOldRow FORMAT_1 magic m found) read bad)))

  module _ (counts sizes : List ℕ) (told : (t : Table) → count_at counts t ≡ count_told FORMAT_1 meta t) where
    counts_are : count_at counts ≡ count_told FORMAT_1 (files 0)
    counts_are = fun_ext (λ (t : Table). told t ∙ ap (λ (m : List ℕ). count_told FORMAT_1 m t) read ∙ count_front (files 0) t)

    pub bad_size_there : (found : Found) → IsOldHead FORMAT_1 magic meta → HasOldHeads (count_at counts) → ((t : Table) → count_at counts t ≤ limit_in FORMAT_1 t)
        → ((t : Table) → count_at sizes t ≡ length (files (file_of FORMAT_1 t))) → IsBadSize FORMAT_1 (count_at counts) (count_at sizes) found
        → IsBadOldFiles FORMAT_1 magic (files 0) (sizes_in FORMAT_1 files) found
    bad_size_there found head heads limited size bad = inr (
      long,
      inr (record {
        head = head_front magic (files 0) (subst (λ (m : List ℕ). IsOldHead FORMAT_1 magic m) read head);
        heads = subst (λ (c : Table → ℕ). HasOldHeads c) counts_are heads;
        limited = subst (λ (c : Table → ℕ). (t : Table) → c t ≤ limit_in FORMAT_1 t) counts_are limited;
        which = subst (λ (c : Table → ℕ). IsBadSize FORMAT_1 c (sizes_in FORMAT_1 files) found) counts_are
            (subst (λ (s : Table → ℕ). IsBadSize FORMAT_1 (count_at counts) s found) (fun_ext size) bad);
      }),
    )

-- a meta row as it has to be, and files with their rows
pub files_has : (files : Image) (magic meta counts : List ℕ) → 76 ≤ length (files 0) → meta ≡ take 76 (files 0) → meta ≡ meta_of (old_head_bytes magic) counts
    → ((t : Table) → count_at counts t ≤ limit_in FORMAT_1 t) → ((t : Table) → count_at counts t * size_in FORMAT_1 t ≤ length (files (file_of FORMAT_1 t)))
    → HasOldCounts magic files counts
files_has files magic meta counts long read is limited holds = inl (record {
  rest = drop 76 (files 0);
  meta = sym (take-append-drop 76 (files 0)) ∙ ap (λ (b : List ℕ). b ++ drop 76 (files 0)) (sym read ∙ is);
  limited = limited;
  holds = holds;
})

-- the meta row's bytes, read
pub front_read : (seen now : Image) (meta : List ℕ) → now ≡ seen → 76 ≤ length (seen 0) → (76 ≤ length (now 0) → meta ≡ take 76 (now 0)) → meta ≡ take 76 (seen 0)
front_read seen now meta same long said =
    said (omega (arith, long, ap (λ (s : Image). length (s 0)) same)) ∙ ap (λ (s : Image). take 76 (s 0)) same
