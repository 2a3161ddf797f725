-- What an opening tells where it is refused.
use Rattle.std.proofs.Common.{◌≡◌, ◌⊎◌, inl, inr, ⊎_elim, ◌<◌, ◌^◌, ℕ, List, length, ap, ◌∙◌, subst}
use Rattle.std.specs.Int.{w32, from_le_bytes}
use Rattle.std.proofs.Math.Path.{fun_ext}
use Rattle.el_outside.specs.Disk.{Image}
use Rattle.el_row_formats.specs.declared.table.Table.{Table}
use Rattle.el_row_formats.specs.Tables.{Tables}
use Rattle.el_rows.specs.Changes.{count_at}
use Rattle.el_redo.specs.declared.faults.OpenFault.{OpenFault}
use Rattle.el_redo.specs.declared.faults.OpenFault.TheVariants as fault
use Rattle.el_redone.specs.Redone.{ImageStandsFor}
use Rattle.el_pages.specs.declared.layout.TheConstants.{FORMAT_1}
use Rattle.el_pages.specs.Layouts.{file_of, size_in}
use Rattle.el_pages.specs.Records.{Spells}
use Rattle.el_pages.proofs.Laid.{length-rows_in}
use Rattle.el_migrate.proofs.OldLimits.{some_old}
use Rattle.el_recovery.specs.Checks.{Found, bad_index, IsBadBody, sizes_in}
use Rattle.el_recovery.proofs.Settles.{Begun, stands_before, bad_same}
use Rattle.el_migrate.proofs.OldVerdicts.{one_bad_index, settled_or_bad}
use Rattle.el_migrate.specs.OldChecks.{HasOldHeads, IsBadOldFiles, IsBadOldIndex}
use Rattle.el_migrate.specs.OldIndexes.{ShowsOld}

-- the disk failed, or something was found
abbrev pub Told : OpenFault → (Found → Type 0) → Type 0
Told e Bad = (e ≡ fault.DiskFailed) ⊎ ((found : Found) × (e ≡ bad_index found) × Bad found)

module _ (magic : List ℕ) (old : Image) (small : length (old 9) < 2 ^ 62) (e : OpenFault) (told : Told e (IsBadOldIndex FORMAT_1 (from_le_bytes w32 magic) old)) where
  -- it is one thing
  pub one_told : (found : Found) → IsBadOldIndex FORMAT_1 (from_le_bytes w32 magic) old found → (e ≡ fault.DiskFailed) ⊎ (e ≡ bad_index found)
  one_told found bad = ⊎_elim
      (λ failed. inl failed)
      (λ other. inr (other.1 ∙ ap bad_index (one_bad_index FORMAT_1 some_old (from_le_bytes w32 magic) old other.0 found small other.2 bad)))
      told

  -- none is found in an image that stands for tables with the heads that they may have
  pub none_told : length magic ≡ 4 → (tables : Tables) → ShowsOld magic old tables → HasOldHeads (λ (t : Table). length (tables t)) → e ≡ fault.DiskFailed
  none_told four tables shows heads = ⊎_elim
      (λ failed. failed)
      (λ bad. absurd (settled_or_bad magic old shows.files shows.counts bad.0 four small some_old shows.stands shows.has (heads_of shows) bad.2))
      told
    where
      heads_of : (shows : ShowsOld magic old tables) → HasOldHeads (count_at shows.counts)
      heads_of shows = subst (λ (count : Table → ℕ). HasOldHeads count)
          (fun_ext (λ (t : Table). ap (λ (rows : List (List ℕ)). length rows) (shows.same t) ∙ length-rows_in (size_in FORMAT_1 t) (shows.files (file_of FORMAT_1 t)) (count_at shows.counts t)))
          heads

-- what was found after the opening's start was there before
module _ (magic : List ℕ) (old begun new : Image) (b : Begun 9 old begun) (e : OpenFault) where
  -- a bad body, and nothing was changed
  abbrev pub BodyRefused : Type 0
  BodyRefused = (e ≡ fault.DiskFailed) ⊎ ((found : Found) × (e ≡ bad_index found) × IsBadBody FORMAT_1 begun found × (new ≡ begun))

  pub body_refused : BodyRefused → Told e (IsBadOldIndex FORMAT_1 (from_le_bytes w32 magic) old)
  body_refused told = ⊎_elim
      (λ failed. inl failed)
      (λ bad. inr (bad.0, bad.1, inl (subst (λ (s : Image). IsBadBody FORMAT_1 s bad.0) (bad_same FORMAT_1 old begun b some_old bad.0 bad.2) bad.2)))
      told

  pub body_untouched : BodyRefused → (e ≡ fault.DiskFailed) ⊎ (new ≡ old)
  body_untouched told = ⊎_elim
      (λ failed. inl failed)
      (λ bad. inr (bad.3 ∙ bad_same FORMAT_1 old begun b some_old bad.0 bad.2))
      told

  pub files_refused : ImageStandsFor (Spells FORMAT_1) 0 9 new begun → Told e (IsBadOldFiles FORMAT_1 (from_le_bytes w32 magic) (new 0) (sizes_in FORMAT_1 new))
      → Told e (IsBadOldIndex FORMAT_1 (from_le_bytes w32 magic) old)
  files_refused stands told = ⊎_elim
      (λ failed. inl failed)
      (λ bad. inr (bad.0, bad.1, inr (record { files = new; stands = stands_before FORMAT_1 old begun b new stands; which = bad.2 })))
      told
