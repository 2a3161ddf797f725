-- What a crash of a disk in memory leaves to the next life.
use Rattle.std.proofs.Common.{◌≡◌, ℕ, List, ap, subst}
use Rattle.el_outside.specs.Disk.{Image}
use Rattle.el_outside.specs.Images.{Kept, IsImage}
use Rattle.el_outside.proofs.Images.{left_now, only_now}
use Rattle.el_mem_disk.specs.DiskFiles.{FileState, IsSound, crashed}
use Rattle.el_mem_disk.specs.Disks.{disk_state, kept_in, seen_on, moment_of, left_on}
use Rattle.el_mem_disk.specs.declared.disk.MemDisk.{MemDisk}

module _ (before next : MemDisk) (numbers : List ℕ)
    (is : (disk_state next).files ≡ crashed (disk_state before).files numbers) where
  same_kept : (f : ℕ) → ((disk_state next).files f).kept ≡ ((disk_state before).files f).kept
  same_kept f = ap (λ (files : ℕ → FileState). (files f).kept) is

  -- it reads as one of the images
  pub crash_reads : ((f : ℕ) → IsSound ((disk_state next).files f))
      → left_on before (moment_of before) (seen_on next)
  crash_reads sound = left_now (kept_in (disk_state before).files) (disk_state before).past (seen_on next)
      (λ f. subst (λ (kept : Kept). IsImage kept (seen_on next f)) (same_kept f) (sound f).image)

  -- and has no others
  pub crash_images : (c : Image) → left_on next (moment_of next) c → left_on before (moment_of before) c
  crash_images c left = left_now (kept_in (disk_state before).files) (disk_state before).past c
      (λ f. subst (λ (kept : Kept). IsImage kept (c f)) (same_kept f)
      (only_now (kept_in (disk_state next).files) (disk_state next).past c left f))
