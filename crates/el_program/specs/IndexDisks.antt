-- The index on a disk, and what a call promises of it.
use Rattle.std.specs.Prelude.{ℕ, List}
use Rattle.el_outside.specs.declared.disk.Disk as disk
use Rattle.el_outside.specs.Disk.{Image}
use Rattle.el_outside.specs.Moments.{LeftNow, LeavesOnly}
use Rattle.el_chain.specs.Chains.{Chain}
use Rattle.el_migrate.specs.ImageChains.{ImageStands, StandsForOne, IsNoIndex}
use Rattle.el_program.specs.OtherFiles.{OtherFilesStay}

-- each image that a crash now may leave of the disk stands for the one chain or for the other, as an index of
-- the network with this magic, in the format that is live in it
abbrev pub LeavesOneOf : {D : Type 0} → disk.Ghosts D → List ℕ → D → Chain → Chain → Type 0
LeavesOneOf G magic d acked flight =
    (image : Image) → LeftNow G.moment G.left_since d image → StandsForOne magic acked flight image

-- What the one image stands for, as an index of any network, the other stands for too; and for a network of
-- which the one is no index, the other is none.
pub record StandsForAll (image other : Image) : Type 0 where
  pub chains : (magic : List ℕ) (chain : Chain) → ImageStands magic image chain
      → ImageStands magic other chain
  pub none : (magic : List ℕ) → IsNoIndex magic image → IsNoIndex magic other

-- The index is as it was, for this network and every other: each image that a crash since then may leave
-- stands for all for which one stands that it might have left before. No file beyond the index's changed.
pub record IsAsBefore {D : Type 0} (G : disk.Ghosts D) (old new : D) : Type 0 where
  pub others : OtherFilesStay G old new
  pub crash : LeavesOnly G.moment G.left_since old new (λ image. (earlier : Image)
      × LeftNow G.moment G.left_since old earlier × StandsForAll earlier image)

-- The disk tells what it holds, and is an index of the network with this magic: as it reads it stands for
-- `chain`, and each image that an earlier life may have left stands for `was`, which that life acknowledged,
-- or for `flight`, which was in flight.
pub record IsIndexDisk {D : Type 0} (G : disk.Ghosts D) (magic : List ℕ) (d : D) (was flight chain : Chain)
    : Type 0 where
  pub told : G.tells
  pub left : LeavesOneOf G magic d was flight
  pub reads : ImageStands magic (G.seen d) chain
