-- A disk whose files are empty is an index of no blocks.
use Rattle.std.proofs.Common.{inl, ℕ, List, []}
use Rattle.el_outside.specs.declared.disk.Disk as disks
use Rattle.el_outside.specs.Moments.{LeftNow}
use Rattle.el_program.specs.IndexDisks.{IsIndexDisk}
use Rattle.el_program.specs.Lives.{IsFresh}
use Rattle.el_program.proofs.LifeLemmas.{empty_stands}

pub fresh_index : {D : Type 0} (of_disk : disks.Ghosts D) (magic : List ℕ) (d : D) → of_disk.tells
    → LeftNow of_disk.moment of_disk.left_since d (of_disk.seen d) → IsFresh of_disk d
    → IsIndexDisk of_disk magic d [] [] []
fresh_index of_disk magic d told reads fresh = record {
  told = told;
  left = λ image now. inl (empty_stands magic image (fresh image now));
  reads = empty_stands magic (of_disk.seen d) (fresh (of_disk.seen d) reads);
}
