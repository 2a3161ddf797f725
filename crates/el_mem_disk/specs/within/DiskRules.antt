-- Why a disk in memory keeps the laws of its trait. No contract speaks of these lemmas.
use Rattle.std.specs.Prelude.{ℕ, ◌<◌, ◌≤◌, length}
use Rattle.std.proofs.Common.{arith}
use Rattle.el_outside.specs.Disk.{Image}
use Rattle.el_outside.specs.Moments.{LeftNow}
use Rattle.el_outside.specs.declared.archive.TheConstants.{SIZE_LIMIT}
use Rattle.el_outside.proofs.Images.{since_earlier, left_now}
use Rattle.el_mem_disk.specs.DiskFiles.{IsSound}
use Rattle.el_mem_disk.specs.Disks.{disk_state, kept_in, seen_on, moment_of, left_on}
use Rattle.el_mem_disk.specs.declared.disk.MemDisk.{MemDisk}

-- what a crash since a moment might have left it might have left since an earlier one
pub left_earlier : (disk : MemDisk) (t u : ℕ) (c : Image) → t ≤ u → left_on disk u c → left_on disk t c
left_earlier disk t u c le left =
    since_earlier (kept_in (disk_state disk).files) (disk_state disk).past t u c le left

-- What the files hold, as reads give it, is among what a crash might leave now.
pub reads_as_an_image : (disk : MemDisk) → ((f : ℕ) → IsSound ((disk_state disk).files f))
    → LeftNow moment_of left_on disk (seen_on disk)
reads_as_an_image disk sound =
    left_now (kept_in (disk_state disk).files) (disk_state disk).past (seen_on disk) (λ f. (sound f).image)

-- each file stays below the greatest size
pub is_short : (disk : MemDisk) (f : ℕ) → ((f : ℕ) → IsSound ((disk_state disk).files f))
    → length (seen_on disk f) < SIZE_LIMIT
is_short disk f sound = omega (arith, (sound f).image.no_longer, (sound f).short)
