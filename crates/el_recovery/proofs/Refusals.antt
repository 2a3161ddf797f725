-- What an opening tells where it is refused.
use Rattle.std.proofs.Common.{◌≡◌, ◌⊎◌, inl, inr, ⊎_elim, ◌<◌, ◌^◌, ℕ, List, length, ap, ◌∙◌, subst}
use Rattle.std.specs.Int.{w32, from_le_bytes}
use Rattle.std.proofs.Math.Path.{fun_ext}
use Rattle.el_outside.specs.Disk.{Image}
use Rattle.el_row_formats.specs.declared.table.Table.{Table}
use Rattle.el_row_formats.specs.Tables.{Tables}
use Rattle.el_rows.specs.Changes.{count_at}
use Rattle.el_redo.specs.declared.faults.OpenFault.{OpenFault}
use Rattle.el_redo.specs.declared.faults.OpenFault.TheVariants as fault
use Rattle.el_redone.specs.Redone.{ImageStandsFor}
use Rattle.el_pages.specs.declared.layout.TheConstants.{FORMAT_2}
use Rattle.el_pages.specs.Layouts.{file_of, size_in}
use Rattle.el_pages.specs.Records.{Spells}
use Rattle.el_pages.proofs.Laid.{some_size, length-rows_in}
use Rattle.el_recovery.specs.Checks.{Found, bad_index, HasHeadOfEachBucket, IsIndex, IsBadBody, IsBadFiles, IsBadIndex, sizes_in}
use Rattle.el_recovery.proofs.Settles.{Begun, stands_before, bad_same}
use Rattle.el_recovery.proofs.Verdicts.{one_bad_index, settled_or_bad}

-- the disk failed, or something was found
abbrev pub Told : OpenFault → (Found → Type 0) → Type 0
Told e Bad = (e ≡ fault.DiskFailed) ⊎ ((found : Found) × (e ≡ bad_index found) × Bad found)

module _ (magic : List ℕ) (old : Image) (small : length (old 29) < 2 ^ 62) (e : OpenFault) (told : Told e (IsBadIndex FORMAT_2 (from_le_bytes w32 magic) old)) where
  -- it is one thing
  pub one_told : (found : Found) → IsBadIndex FORMAT_2 (from_le_bytes w32 magic) old found → (e ≡ fault.DiskFailed) ⊎ (e ≡ bad_index found)
  one_told found bad = ⊎_elim
      (λ failed. inl failed)
      (λ other. inr (other.1 ∙ ap bad_index (one_bad_index FORMAT_2 some_size (from_le_bytes w32 magic) old other.0 found small other.2 bad)))
      told

  -- none is found in an image that an opening takes
  pub none_told : length magic ≡ 4 → (tables : Tables) → IsIndex magic old tables → e ≡ fault.DiskFailed
  none_told four tables index = ⊎_elim
      (λ failed. failed)
      (λ bad. absurd (settled_or_bad magic old index.shows.files index.shows.counts index.bits bad.0 four small some_size index.shows.stands index.shows.has index.may_be (heads_of index) bad.2))
      told
    where
      heads_of : (index : IsIndex magic old tables) → HasHeadOfEachBucket index.bits (count_at index.shows.counts)
      heads_of index = let shows = index.shows in subst (λ (count : Table → ℕ). HasHeadOfEachBucket index.bits count)
          (fun_ext (λ (t : Table). ap (λ (rows : List (List ℕ)). length rows) (shows.same t) ∙ length-rows_in (size_in FORMAT_2 t) (shows.files (file_of FORMAT_2 t)) (count_at shows.counts t)))
          index.heads

-- what was found after the opening's start was there before
module _ (magic : List ℕ) (old begun new : Image) (b : Begun 29 old begun) (e : OpenFault) where
  -- a bad body, and nothing was changed
  abbrev pub BodyRefused : Type 0
  BodyRefused = (e ≡ fault.DiskFailed) ⊎ ((found : Found) × (e ≡ bad_index found) × IsBadBody FORMAT_2 begun found × (new ≡ begun))

  pub body_refused : BodyRefused → Told e (IsBadIndex FORMAT_2 (from_le_bytes w32 magic) old)
  body_refused told = ⊎_elim
      (λ failed. inl failed)
      (λ bad. inr (bad.0, bad.1, inl (subst (λ (s : Image). IsBadBody FORMAT_2 s bad.0) (bad_same FORMAT_2 old begun b some_size bad.0 bad.2) bad.2)))
      told

  pub body_untouched : BodyRefused → (e ≡ fault.DiskFailed) ⊎ (new ≡ old)
  body_untouched told = ⊎_elim
      (λ failed. inl failed)
      (λ bad. inr (bad.3 ∙ bad_same FORMAT_2 old begun b some_size bad.0 bad.2))
      told

  pub files_refused : ImageStandsFor (Spells FORMAT_2) 20 29 new begun → Told e (IsBadFiles FORMAT_2 (from_le_bytes w32 magic) (new 20) (sizes_in FORMAT_2 new))
      → Told e (IsBadIndex FORMAT_2 (from_le_bytes w32 magic) old)
  files_refused stands told = ⊎_elim
      (λ failed. inl failed)
      (λ bad. inr (bad.0, bad.1, inr (record { files = new; stands = stands_before FORMAT_2 old begun b new stands; which = bad.2 })))
      told
