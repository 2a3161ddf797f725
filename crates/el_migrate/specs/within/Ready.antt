-- What holds before the opening of format 2, which is then live.
use Rattle.std.specs.Prelude.{◌≡◌, ◌⊎◌, ◌<◌, ◌≤◌, ℕ, List}
use Rattle.std.specs.Int.{w32, from_le_bytes}
use Rattle.el_outside.specs.declared.disk.Disk as disk
use Rattle.el_outside.specs.Disk.{Image}
use Rattle.el_chain.specs.Chains.{Chain}
use Rattle.el_row_formats.specs.Tables.{Tables}
use Rattle.el_redo.specs.declared.faults.OpenFault.{OpenFault}
use Rattle.el_redo.specs.declared.faults.OpenFault.TheVariants as fault
use Rattle.el_redone.specs.Steps.{EachNow, Leaves}
use Rattle.el_pages.specs.declared.layout.TheConstants.{FORMAT_1}
use Rattle.el_pages.specs.Indexes.{IsRooted}
use Rattle.el_recovery.specs.Checks.{Found, bad_index, IsBadBody, IsIndex}
use Rattle.el_migrate.specs.OldChecks.{IsBadOldIndex}
use Rattle.el_migrate.specs.ImageChains.{ImageStands, StandsForOne, IsOldIndex, IsNoIndex, IsLikeOne, IsOtherFile}

-- the image is an index of format 2 with 2^bits buckets
pub record IsIndexWith (magic : List ℕ) (bits : ℕ) (image : Image) : Type 0 where
  pub tables : Tables
  pub index : IsIndex magic image tables
  pub is : index.bits ≡ bits

-- format 1's checks find this
abbrev pub IsBadOld : List ℕ → Image → Found → Type 0
IsBadOld magic image found = IsBadOldIndex FORMAT_1 (from_le_bytes w32 magic) image found

-- Format 2 is live: it was, and none of its files changed; or what it was before in format 1 became one of
-- format 2 with 2^bits buckets.
pub record IsReady {D : Type 0} (G : disk.Ghosts D) (magic : List ℕ) (bits : ℕ) (was : Image) (new : D)
    : Type 0 where
  pub rooted : EachNow G (λ (image : Image). IsRooted image) new
  pub stays : IsRooted was → (f : ℕ) → 9 < f → G.seen new f ≡ was f
  pub index : (IsRooted was → ⊥) → (tables : Tables) × IsOldIndex magic was tables
  pub sound : (IsRooted was → ⊥) → (found : Found) → IsBadOld magic was found → ⊥
  pub moved : (IsRooted was → ⊥) → IsIndexWith magic bits (G.seen new)
  pub chain : (chain : Chain) → ImageStands magic was chain → ImageStands magic (G.seen new) chain

-- It isn't: a call failed; or format 2 isn't live, and memory is wanting for an index of format 1, or there
-- is none.
pub record IsOpeningRefused (magic : List ℕ) (was now : Image) (e : OpenFault) : Type 0 where
  pub live : IsRooted was → e ≡ fault.DiskFailed
  pub which : (e ≡ fault.DiskFailed)
      ⊎ (((e ≡ fault.Memory) × ((tables : Tables) × IsOldIndex magic was tables))
      ⊎ ((found : Found) × (e ≡ bad_index found) × IsBadOld magic was found))
  pub is_bad : (IsRooted was → ⊥) → (found : Found) → IsBadOld magic was found
      → (e ≡ fault.DiskFailed) ⊎ (e ≡ bad_index found)
  pub opens : (IsRooted was → ⊥) → (tables : Tables) → IsOldIndex magic was tables
      → (e ≡ fault.DiskFailed) ⊎ (e ≡ fault.Memory)
  pub untouched : (IsRooted was → ⊥) → (found : Found) → IsBadBody FORMAT_1 was found
      → (e ≡ fault.DiskFailed) ⊎ ((f : ℕ) → now f ≡ was f)

-- What a crash leaves meanwhile stands for what it stood for, and the files beside both formats stay.
pub record KeepsAll {D : Type 0} (G : disk.Ghosts D) (magic : List ℕ) (old new : D) : Type 0 where
  pub crash : (a b : Chain) → EachNow G (StandsForOne magic a b) old
      → Leaves G (StandsForOne magic a b) old new
  pub like : IsRooted (G.seen old) ⊎ IsNoIndex magic (G.seen old) → Leaves G (IsLikeOne G old) old new
  pub later : G.moment old ≤ G.moment new
  pub others : (f : ℕ) → IsOtherFile f → G.seen new f ≡ G.seen old f
