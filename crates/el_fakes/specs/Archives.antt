-- Block files in memory.
use Rattle.std.specs.Prelude.{ℕ, ◌-◌, ◌==◌, ◌&&◌, nat_lt, nat_le, min, max, Bool, if◌then◌else◌, List, [], ◌∷◌, length, take, replicate, slice_index_or}
use Rattle.std.specs.List.{list_all}
use Rattle.el_outside.specs.declared.archive.TheConstants.{MOST_FILES, SIZE_LIMIT}
use Rattle.el_fakes.specs.declared.growth.Later.{Later}
use Rattle.el_fakes.specs.declared.growth.Room.{Room}

-- Block files whose calls never fail: the bytes of each file, file 0 first, and how many calls were made.
pub record SteadyFiles : Type 0 where
  pub files : List (List ℕ)
  pub made : ℕ

-- the bytes of a file, by its number; a file that isn't there has none
abbrev pub file_bytes : List (List ℕ) → ℕ → List ℕ
file_bytes files file = slice_index_or files file []

-- a file has fewer bytes than a file may have
abbrev pub is_below_limit : List ℕ → Bool
is_below_limit bytes = nat_lt (length bytes) SIZE_LIMIT

-- an archive may have these files
abbrev pub are_fitting : List (List ℕ) → Bool
are_fitting files = nat_le (length files) MOST_FILES && list_all is_below_limit files

-- Block files some of whose calls fail: all bytes that each file ever has, file 0 first; which of them come
-- later, and which room is made ahead; the numbers of the calls that fail; how many calls were made, up to
-- 2^64 - 1 and with no bound, and how many of them failed.
pub record ArchiveState : Type 0 where
  pub files : List (List ℕ)
  pub later : List Later
  pub rooms : List Room
  pub failing : List ℕ
  pub calls : ℕ
  pub made : ℕ
  pub faults : ℕ

-- how many bytes a file has after these calls, where it has this size without what comes later
abbrev pub size_by : ℕ → ℕ → List Later → ℕ → ℕ
size_by calls file [] size = size
size_by calls file (l ∷ ls) size =
    size_by calls file ls (if file == l.file && nat_lt calls l.call then min l.from size else size)

-- the bytes of a file after the calls so far
abbrev pub bytes_now : ArchiveState → ℕ → List ℕ
bytes_now a file =
    take (size_by a.calls file a.later (length (file_bytes a.files file))) (file_bytes a.files file)

-- the size of a file after these calls, where it has this size without the room that is made ahead
abbrev pub size_ahead : ℕ → ℕ → List Room → ℕ → ℕ
size_ahead calls file [] size = size
size_ahead calls file (r ∷ rs) size =
    size_ahead calls file rs (if file == r.file && nat_lt calls r.until then max size r.size else size)

-- The size of a file after the calls so far, with its padding. Only a file that is there has any.
abbrev pub padded_size : ArchiveState → ℕ → ℕ
padded_size a file =
    if nat_lt file (length a.files) then size_ahead a.calls file a.rooms (length (bytes_now a file))
    else length (bytes_now a file)

-- the zeros that stand after the bytes of a file after the calls so far
abbrev pub padding_now : ArchiveState → ℕ → List ℕ
padding_now a file = replicate (padded_size a file - length (bytes_now a file)) 0
