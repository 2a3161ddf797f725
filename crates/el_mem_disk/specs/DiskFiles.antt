-- The files of a disk in memory.
use Rattle.std.specs.Prelude.{ℕ, zero, suc, ◌+◌, ◌-◌, ◌<◌, ◌%◌, ◌&&◌, not, nat_lt, Bool, if◌then◌else◌, List, [], length, map, take, drop, get_or, slice_index_or}
use Rattle.std.specs.List.{range_with_len}
use Rattle.el_outside.specs.declared.archive.TheConstants.{SIZE_LIMIT}
use Rattle.el_outside.specs.Disk.{over}
use Rattle.el_outside.specs.Images.{Kept, is_written, IsImage, synced, written, shortened}

-- a file: its bytes as a read gives them, and what is known of it on the disk
pub record FileState : Type 0 where
  pub bytes : List ℕ
  pub kept : Kept

-- a file that was never written
abbrev pub never_written : FileState
never_written = record { bytes = []; kept = synced [] }

-- the file by its number
abbrev pub file_numbered : List FileState → ℕ → FileState
file_numbered files f = slice_index_or files f never_written

-- A file reads as one of its images, none of which is too long.
pub record IsSound (file : FileState) : Type 0 where
  pub image : IsImage file.kept file.bytes
  pub short : file.kept.greatest < SIZE_LIMIT

-- after a write of n bytes of which this front is seen
abbrev pub file_written : ℕ → ℕ → List ℕ → FileState → FileState
file_written at n front file = record { bytes = over file.bytes at front; kept = written at n file.kept }

-- after a cut to n bytes: one that is seen, and one that failed and isn't
abbrev pub file_cut : ℕ → Bool → FileState → FileState
file_cut n is_seen file = record {
  bytes = if is_seen then take n file.bytes else file.bytes;
  kept = shortened n file.kept;
}

-- after a sync: what reads give is on the disk
abbrev pub file_synced : FileState → FileState
file_synced file = record { bytes = file.bytes; kept = synced file.bytes }

-- The size of the image that the numbers choose: the first of them, counted on from the least size and
-- around. A number that isn't there is 0.
abbrev pub chosen_size : Kept → List ℕ → ℕ
chosen_size kept numbers = kept.least + get_or numbers 0 0 % (kept.greatest - kept.least + 1)

-- Its byte at a place: what is known to stand there, and else the number after those for the size and for the
-- places before.
abbrev pub chosen_byte : Kept → List ℕ → ℕ → ℕ
chosen_byte kept numbers i =
    if nat_lt i (length kept.bytes) && not (is_written kept.ranges i) then get_or kept.bytes i 0
    else get_or numbers (1 + i) 0 % 256

-- the image that the numbers choose, of what may be on the disk
abbrev pub chosen : Kept → List ℕ → List ℕ
chosen kept numbers = map (chosen_byte kept numbers) (range_with_len 0 (chosen_size kept numbers))

-- how many numbers choose the files before this one: one for the size, and one for each place that there may
-- be
abbrev pub numbers_before : (ℕ → FileState) → ℕ → ℕ
numbers_before files zero = 0
numbers_before files (suc f) = numbers_before files f + (1 + (files f).kept.greatest)

-- the files of the life after a crash, where the numbers choose what it leaves
abbrev pub crashed : (ℕ → FileState) → List ℕ → ℕ → FileState
crashed files numbers f = record {
  bytes = chosen (files f).kept (drop (numbers_before files f) numbers);
  kept = (files f).kept;
}
