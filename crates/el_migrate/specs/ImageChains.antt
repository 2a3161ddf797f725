-- What an image of a disk stands for, whichever format is live in it.
use Rattle.std.specs.Prelude.{◌≡◌, ◌⊎◌, ◌<◌, ◌^◌, ℕ, List, length}
use Rattle.el_outside.specs.declared.disk.Disk as disk
use Rattle.el_outside.specs.Disk.{Image}
use Rattle.el_outside.specs.Moments.{LeftNow}
use Rattle.el_chain.specs.Chains.{Chain}
use Rattle.el_row_formats.specs.declared.table.Table.{Table}
use Rattle.el_row_formats.specs.Tables.{Tables}
use Rattle.el_redo.specs.RedoBody.{head_bytes}
use Rattle.el_redone.specs.Redone.{StandsAlike}
use Rattle.el_redone.specs.declared.steps.TheConstants.{ROOT}
use Rattle.el_schema.specs.Standing.{StandWith}
use Rattle.el_pages.specs.declared.layout.TheConstants.{FORMAT_1, FORMAT_2}
use Rattle.el_pages.specs.Records.{Spells}
use Rattle.el_pages.specs.Indexes.{IsRooted, ShowsTables}
use Rattle.el_recovery.specs.Checks.{Found, HasBits, IsIndex, IsBadIndex}
use Rattle.el_migrate.specs.OldIndexes.{ShowsOld}
use Rattle.el_migrate.specs.OldChecks.{HasOldHeads, IsBadOldIndex}
use Rattle.el_migrate.specs.OldRows.{StandForOld}

-- the image stands for the chain in an index of format 1, of the network with that magic: format 2 isn't live
pub record StandsOld (magic : List ℕ) (image : Image) (chain : Chain) : Type 0 where
  pub unrooted : IsRooted image → ⊥
  pub tables : Tables
  pub shows : ShowsOld magic image tables
  pub stand : StandForOld tables chain

-- The image stands for the chain in an index of format 2, which is live: each table of heads has a row for
-- each of the buckets that the meta row tells.
pub record StandsNew (magic : List ℕ) (image : Image) (chain : Chain) : Type 0 where
  pub rooted : IsRooted image
  pub bits : ℕ
  pub may_be : HasBits bits
  pub tables : Tables
  pub shows : ShowsTables FORMAT_2 (head_bytes magic bits) image tables
  pub stand : StandWith (2 ^ bits) tables chain

-- the image stands for the chain, in the format that is live
abbrev pub ImageStands : List ℕ → Image → Chain → Type 0
ImageStands magic image chain = StandsNew magic image chain ⊎ StandsOld magic image chain

-- the image stands for the one chain or for the other
abbrev pub StandsForOne : List ℕ → Chain → Chain → Image → Type 0
StandsForOne magic a b image = ImageStands magic image a ⊎ ImageStands magic image b

-- The image stands for the tables in an index of format 1 of the network with that magic, and its tables of
-- heads have the rows that they may have: an opening takes it.
pub record IsOldIndex (magic : List ℕ) (image : Image) (tables : Tables) : Type 0 where
  pub shows : ShowsOld magic image tables
  pub heads : HasOldHeads (λ (t : Table). length (tables t))

-- the image is an index in the format that is live: an opening takes it
abbrev pub IsAnyIndex : List ℕ → Image → Tables → Type 0
IsAnyIndex magic image tables =
    (IsRooted image × IsIndex magic image tables) ⊎ ((IsRooted image → ⊥) × IsOldIndex magic image tables)

-- no opening takes the image: it is no index of the network, in neither format
abbrev pub IsNoIndex : List ℕ → Image → Type 0
IsNoIndex magic image = (tables : Tables) → IsAnyIndex magic image tables → ⊥

-- The image has the root of the other, and stands for the same files in the format that is live.
pub record IsLike (from c : Image) : Type 0 where
  pub root : c ROOT ≡ from ROOT
  pub new : IsRooted from → StandsAlike (Spells FORMAT_2) 20 29 from c
  pub old : (IsRooted from → ⊥) → StandsAlike (Spells FORMAT_1) 0 9 from c

-- It is like one that a crash of `old` might leave.
pub record IsLikeOne {D : Type 0} (G : disk.Ghosts D) (old : D) (c : Image) : Type 0 where
  pub from : Image
  pub left : LeftNow G.moment G.left_since old from
  pub like : IsLike from c

-- An opening finds this, by the checks of the format that is live.
abbrev pub IsBadAny : ℕ → Image → Found → Type 0
IsBadAny magic image found =
    (IsRooted image × IsBadIndex FORMAT_2 magic image found)
    ⊎ ((IsRooted image → ⊥) × IsBadOldIndex FORMAT_1 magic image found)

-- a file that is neither format's nor the root
abbrev pub IsOtherFile : ℕ → Type 0
IsOtherFile f = ((9 < f) × (f < 20)) ⊎ (30 < f)
