-- What the checks of an opening find: the first that fails, as a file, what was wanted there and what was
-- found. Where the gate is open, the files are checked as the record makes them.
use Rattle.std.specs.Prelude.{◌≡◌, ◌≢◌, ◌⊎◌, ◌≤◌, ◌<◌, ◌+◌, ◌-◌, ◌*◌, ◌/◌, ◌^◌, ℕ, max, map, List, ◌∷◌, ◌++◌, length, take, drop}
use Rattle.std.specs.List.{AllByRecursion}
use Rattle.std.specs.Int.{w32, w64, from_le_bytes}
use Rattle.el_outside.specs.Disk.{Image}
use Rattle.el_row_formats.specs.declared.table.Table.{Table}
use Rattle.el_row_formats.specs.declared.table.Table.TheVariants as table
use Rattle.el_row_formats.specs.declared.table.RowKey.{RowKey}
use Rattle.el_row_formats.specs.Tables.{Tables, number_of}
use Rattle.el_row_formats.specs.declared.limits.TheConstants.{MIN_HEAD_BITS, MAX_HEAD_BITS}
use Rattle.el_rows.specs.Changes.{Changes}
use Rattle.el_redo.specs.RedoBody.{change_bytes, changes_bytes, head_bytes}
use Rattle.el_redo.specs.declared.faults.OpenFault.{OpenFault}
use Rattle.el_redo.specs.declared.faults.OpenFault.TheVariants as fault
use Rattle.el_redone.specs.Redone.{into, WritesFit, ends, IsClosed, ImageStandsFor}
use Rattle.el_pages.specs.declared.layout.Layout.{Layout}
use Rattle.el_pages.specs.declared.layout.TheConstants.{LETTERS, FORMAT_2}
use Rattle.el_pages.specs.Layouts.{file_of, redo_of, size_in, limit_in}
use Rattle.el_pages.specs.Records.{write_of, IsWhole, Spells}
use Rattle.el_pages.specs.Indexes.{ShowsTables}

-- a file, what was wanted, what was found
abbrev pub Found : Type 0
Found = ℕ × ℕ × ℕ

-- the fault that tells it
abbrev pub bad_index : Found → OpenFault
bad_index found = fault.BadIndex found.0 found.1 found.2

-- nothing waits in a redo file: it has fewer than two bytes, or its gate isn't open
abbrev pub NoRecordWaits : List ℕ → Type 0
NoRecordWaits file = (length file < 2) ⊎ IsClosed file

-- the gate of a redo file is open: its first byte is 1, and there is one more at least
abbrev pub IsGateOpen : List ℕ → Type 0
IsGateOpen file = (rest : List ℕ) × (file ≡ 1 ∷ rest) × (2 ≤ length file)

-- the length of the body, as it stands in the eight bytes behind the gate
abbrev pub length_told : List ℕ → ℕ
length_told file = from_le_bytes w64 (take 8 (drop 1 file))

-- the bytes after these nine, as many as the length says, or all where there are fewer
abbrev pub body_told : List ℕ → List ℕ
body_told file = take (length_told file) (drop 9 file)

-- The body has a meta row, and then some whole changed rows, none of which begins after the end that its
-- file then has; `rest` stands after them.
pub record Reaches (l : Layout) (image : Image) (rest : List ℕ) (changes : Changes) : Type 0 where
  pub opened : IsGateOpen (image (redo_of l))
  pub nine : 9 ≤ length (image (redo_of l))
  pub room : length_told (image (redo_of l)) ≤ length (image (redo_of l)) - 9
  pub meta : List ℕ
  pub long : length meta ≡ l.meta
  pub is : body_told (image (redo_of l)) ≡ meta ++ (changes_bytes changes ++ rest)
  pub whole : AllByRecursion (IsWhole l) changes
  pub fits : (t : Table) → WritesFit (into (file_of l t) (map (write_of l) changes))
      (length (image (file_of l t)))

-- how many rows a table's file then has
abbrev pub rows_then : Layout → Image → Changes → Table → ℕ
rows_then l image changes t =
    max (length (image (file_of l t))) (ends (into (file_of l t) (map (write_of l) changes))) / size_in l t

-- The redo file has an open gate and no room for a length behind it.
pub record IsShortFile (l : Layout) (image : Image) (found : Found) : Type 0 where
  pub opened : IsGateOpen (image (redo_of l))
  pub short : length (image (redo_of l)) < 9
  pub is : found ≡ (redo_of l, 9, length (image (redo_of l)))

-- The length reaches beyond the redo file's end.
pub record IsLongBody (l : Layout) (image : Image) (found : Found) : Type 0 where
  pub opened : IsGateOpen (image (redo_of l))
  pub nine : 9 ≤ length (image (redo_of l))
  pub beyond : length (image (redo_of l)) - 9 < length_told (image (redo_of l))
  pub is : found ≡ (redo_of l, length_told (image (redo_of l)), length (image (redo_of l)) - 9)

-- The body is too short for a meta row.
pub record IsShortBody (l : Layout) (image : Image) (found : Found) : Type 0 where
  pub opened : IsGateOpen (image (redo_of l))
  pub nine : 9 ≤ length (image (redo_of l))
  pub room : length_told (image (redo_of l)) ≤ length (image (redo_of l)) - 9
  pub short : length_told (image (redo_of l)) < l.meta
  pub is : found ≡ (redo_of l, l.meta, length_told (image (redo_of l)))

-- The redo record can't be read up to its body.
abbrev pub IsBadRecord : Layout → Image → Found → Type 0
IsBadRecord l image found = IsShortFile l image found ⊎ (IsLongBody l image found ⊎ IsShortBody l image found)

-- The next byte of a body, of which `rest` is left, names no table.
pub record IsNoTable (l : Layout) (rest : List ℕ) (found : Found) : Type 0 where
  pub byte : ℕ
  pub after : List ℕ
  pub is : rest ≡ byte ∷ after
  pub none : (t : Table) → number_of t ≢ byte
  pub told : found ≡ (redo_of l, 8, byte)

-- The next change names a table, and isn't whole.
pub record IsPart (l : Layout) (rest : List ℕ) (found : Found) : Type 0 where
  pub of : Table
  pub after : List ℕ
  pub is : rest ≡ number_of of ∷ after
  pub short : length rest < 9 + size_in l of
  pub told : found ≡ (redo_of l, 9 + size_in l of, length rest)

-- The next change is whole, and begins after the end that its file then has: `most` tells how many rows each
-- table's file has by then.
pub record IsBeyond (l : Layout) (most : Table → ℕ) (rest : List ℕ) (found : Found) : Type 0 where
  pub key : RowKey
  pub row : List ℕ
  pub after : List ℕ
  pub is : rest ≡ change_bytes (key, row) ++ after
  pub whole : IsWhole l (key, row)
  pub beyond : most key.table < key.row
  pub told : found ≡ (file_of l key.table, most key.table, key.row)

-- the next change is the first that isn't as it has to be
abbrev pub IsBadNext : Layout → (Table → ℕ) → List ℕ → Found → Type 0
IsBadNext l most rest found = IsNoTable l rest found ⊎ (IsPart l rest found ⊎ IsBeyond l most rest found)

-- After some changes that are as they have to be, the next isn't.
pub record IsBadChange (l : Layout) (image : Image) (found : Found) : Type 0 where
  pub changes : Changes
  pub rest : List ℕ
  pub reaches : Reaches l image rest changes
  pub which : IsBadNext l (rows_then l image changes) rest found

-- The redo file's gate is open, and its body is bad.
abbrev pub IsBadBody : Layout → Image → Found → Type 0
IsBadBody l image found = IsBadRecord l image found ⊎ IsBadChange l image found

-- ---- the files

-- the number of four bytes of the meta row
abbrev pub word : List ℕ → ℕ → ℕ
word file at = from_le_bytes w32 (take 4 (drop at file))

-- the counts that the meta row tells, from that place on
abbrev pub count_told : Layout → List ℕ → Table → ℕ
count_told l file t = from_le_bytes w64 (take 8 (drop (l.meta - 64 + 8 * (number_of t - 1)) file))

-- how many bits the number of a bucket has, as the meta row tells
abbrev pub bits_told : List ℕ → ℕ
bits_told file = word file 12

-- the number of a bucket may have so many bits
abbrev pub HasBits : ℕ → Type 0
HasBits bits = (MIN_HEAD_BITS ≤ bits) × (bits ≤ MAX_HEAD_BITS)

-- each table of heads has a row for each bucket
abbrev pub HasHeadOfEachBucket : ℕ → (Table → ℕ) → Type 0
HasHeadOfEachBucket bits counts = (counts table.TxHeads ≡ 2 ^ bits) × (counts table.ScriptHeads ≡ 2 ^ bits)

-- the meta file begins with the letters `ELIX`, the format, the network's magic, and a number of bits that
-- may be
pub record IsHead (l : Layout) (magic : ℕ) (file : List ℕ) : Type 0 where
  pub letters : word file 0 ≡ LETTERS
  pub format : word file 4 ≡ l.format
  pub network : word file 8 ≡ magic
  pub bits : HasBits (bits_told file)

-- The meta file begins otherwise: this was wanted, and this was found, of the first that is wrong.
abbrev pub IsBadHead : Layout → ℕ → List ℕ → Found → Type 0
IsBadHead l magic file found = ((word file 0 ≢ LETTERS) × (found ≡ (l.first, LETTERS, word file 0)))
    ⊎ ((word file 0 ≡ LETTERS) × (((word file 4 ≢ l.format) × (found ≡ (l.first, l.format, word file 4)))
    ⊎ ((word file 4 ≡ l.format) × (((word file 8 ≢ magic) × (found ≡ (l.first, magic, word file 8)))
    ⊎ ((word file 8 ≡ magic)
    × ((HasBits (bits_told file) → ⊥) × (found ≡ (l.first, MIN_HEAD_BITS, bits_told file))))))))

-- this table of heads is the first that hasn't a row for each bucket
abbrev pub IsBadHeads : Layout → ℕ → (Table → ℕ) → Found → Type 0
IsBadHeads l bits count found =
    ((count table.TxHeads ≢ 2 ^ bits) × (found ≡ (file_of l table.TxHeads, 2 ^ bits, count table.TxHeads)))
    ⊎ ((count table.TxHeads ≡ 2 ^ bits) × ((count table.ScriptHeads ≢ 2 ^ bits)
    × (found ≡ (file_of l table.ScriptHeads, 2 ^ bits, count table.ScriptHeads))))

-- the first count above its limit
pub record IsBadCount (l : Layout) (count : Table → ℕ) (found : Found) : Type 0 where
  pub of : Table
  pub before : (t : Table) → number_of t < number_of of → count t ≤ limit_in l t
  pub above : limit_in l of < count of
  pub is : found ≡ (file_of l of, limit_in l of, count of)

-- the first table whose file is too short for its rows
pub record IsBadSize (l : Layout) (count size : Table → ℕ) (found : Found) : Type 0 where
  pub of : Table
  pub before : (t : Table) → number_of t < number_of of → count t * size_in l t ≤ size t
  pub short : size of < count of * size_in l of
  pub is : found ≡ (file_of l of, count of * size_in l of, size of)

-- a meta row is bad: its head, the numbers of heads, or a count
abbrev pub IsBadRow : Layout → ℕ → List ℕ → Found → Type 0
IsBadRow l magic file found = IsBadHead l magic file found
    ⊎ (IsHead l magic file × (IsBadHeads l (bits_told file) (count_told l file) found
    ⊎ (HasHeadOfEachBucket (bits_told file) (count_told l file) × IsBadCount l (count_told l file) found)))

-- a meta row is as it has to be, and a table's file isn't
pub record IsBadTable (l : Layout) (magic : ℕ) (file : List ℕ) (size : Table → ℕ)
    (found : Found) : Type 0 where
  pub head : IsHead l magic file
  pub heads : HasHeadOfEachBucket (bits_told file) (count_told l file)
  pub limited : (t : Table) → count_told l file t ≤ limit_in l t
  pub which : IsBadSize l (count_told l file) size found

-- The meta file, and table files of these sizes, hold no tables that an opening takes: the first check that
-- fails finds this.
abbrev pub IsBadFiles : Layout → ℕ → List ℕ → (Table → ℕ) → Found → Type 0
IsBadFiles l magic file size found =
    ((length file < l.meta) × (found ≡ (l.first, l.meta, length file)))
    ⊎ ((l.meta ≤ length file) × (IsBadRow l magic file found ⊎ IsBadTable l magic file size found))

-- how many bytes each table's file has
abbrev pub sizes_in : Layout → Image → Table → ℕ
sizes_in l files t = length (files (file_of l t))

-- The image stands for the tables in an index of the network with that magic, and each table of heads has a
-- row for each bucket: an opening takes it.
pub record IsIndex (magic : List ℕ) (image : Image) (tables : Tables) : Type 0 where
  pub bits : ℕ
  pub may_be : HasBits bits
  pub shows : ShowsTables FORMAT_2 (head_bytes magic bits) image tables
  pub heads : HasHeadOfEachBucket bits (λ (t : Table). length (tables t))

-- The image's redo file isn't bad, and the files that it stands for are.
pub record HasBadFiles (l : Layout) (magic : ℕ) (image : Image) (found : Found) : Type 0 where
  pub files : Image
  pub stands : ImageStandsFor (Spells l) l.first (redo_of l) files image
  pub which : IsBadFiles l magic (files l.first) (sizes_in l files) found

-- The image stands for no tables that an opening takes: the first check that fails finds this.
abbrev pub IsBadIndex : Layout → ℕ → Image → Found → Type 0
IsBadIndex l magic image found = IsBadBody l image found ⊎ HasBadFiles l magic image found
