-- A disk in memory.
use Rattle.std.specs.Prelude.{ℕ, List, ◌∷◌, length}
use Rattle.el_outside.specs.Counts.{risen}
use Rattle.el_outside.specs.Disk.{Image}
use Rattle.el_outside.specs.Images.{Kept, at_file, LeftSince}
use Rattle.el_mem_disk.specs.DiskFiles.{FileState, file_numbered}
use Rattle.el_mem_disk.specs.declared.failing.FailingCalls.{FailingCalls}
use Rattle.el_mem_disk.specs.declared.disk.MemDisk.{MemDisk}
use Rattle.el_mem_disk.specs.within.DiskPast.{known_at}

-- Its files by number; what was known of them at each moment before, the last first; the calls that fail; how
-- many calls were made, how many of them failed, and for how many of these the disk found no memory itself.
pub record DiskState : Type 0 where
  pub files : ℕ → FileState
  pub past : List (ℕ → Kept)
  pub failing : FailingCalls
  pub calls : ℕ
  pub faults : ℕ
  pub starved : ℕ

-- the disk as contracts see it
abbrev pub disk_state : MemDisk → DiskState
disk_state disk = record {
  files = file_numbered disk.files.items;
  past = known_at disk.past;
  failing = disk.failing;
  calls = disk.calls;
  faults = disk.faults;
  starved = disk.starved;
}

-- what is known of each file
abbrev pub kept_in : (ℕ → FileState) → ℕ → Kept
kept_in files f = (files f).kept

-- the bytes of each file, as a read gives them
abbrev pub seen_on : MemDisk → Image
seen_on disk f = ((disk_state disk).files f).bytes

-- the moment: as many calls were made before
abbrev pub moment_of : MemDisk → ℕ
moment_of disk = length (disk_state disk).past

-- what a crash since a moment might have left, by the model of a disk
abbrev pub left_on : MemDisk → ℕ → Image → Type 0
left_on disk = LeftSince (kept_in (disk_state disk).files) (disk_state disk).past

-- after a call more: what was known of the files before it joins the past
abbrev pub ticked : DiskState → DiskState
ticked s = record s { past = kept_in s.files ∷ s.past; calls = risen s.calls 1 }

-- the file of that number is this one now, and all others stay
abbrev pub with_file : DiskState → ℕ → FileState → DiskState
with_file s file here = record s { files = at_file s.files file here }

-- the call failed, and is counted
abbrev pub failed : DiskState → DiskState
failed s = record s { faults = risen s.faults 1 }

-- it failed, and for want of memory
abbrev pub starving : DiskState → DiskState
starving s = record s { faults = risen s.faults 1; starved = risen s.starved 1 }
