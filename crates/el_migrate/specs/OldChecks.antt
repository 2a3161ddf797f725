-- What the checks of an opening of format 1 find: the first that fails, as a file, what was wanted there and
-- what was found. Where the gate is open, the files are checked as the record makes them.
use Rattle.std.specs.Prelude.{◌≡◌, ◌≢◌, ◌⊎◌, ◌≤◌, ◌<◌, ℕ, List, length}
use Rattle.el_outside.specs.Disk.{Image}
use Rattle.el_row_formats.specs.declared.table.Table.{Table}
use Rattle.el_row_formats.specs.declared.table.Table.TheVariants as table
use Rattle.el_redone.specs.Redone.{ImageStandsFor}
use Rattle.el_pages.specs.declared.layout.Layout.{Layout}
use Rattle.el_pages.specs.declared.layout.TheConstants.{LETTERS}
use Rattle.el_pages.specs.Layouts.{file_of, redo_of, limit_in}
use Rattle.el_pages.specs.Records.{Spells}
use Rattle.el_recovery.specs.Checks.{Found, word, count_told, IsBadBody, IsBadCount, IsBadSize, sizes_in}
use Rattle.el_migrate.specs.declared.old_files.TheConstants.{OLD_BUCKETS}

-- The heads tables have the rows that they may have: `OLD_BUCKETS` each, or none where all tables are empty.
abbrev pub HasOldHeads : (Table → ℕ) → Type 0
HasOldHeads counts = ((counts table.TxHeads ≡ OLD_BUCKETS) × (counts table.ScriptHeads ≡ OLD_BUCKETS))
    ⊎ ((t : Table) → counts t ≡ 0)

-- the meta file begins with the letters `ELIX`, the format and the network's magic
pub record IsOldHead (l : Layout) (magic : ℕ) (file : List ℕ) : Type 0 where
  pub letters : word file 0 ≡ LETTERS
  pub format : word file 4 ≡ l.format
  pub network : word file 8 ≡ magic

-- The meta file begins otherwise: this was wanted, and this was found, of the first that is wrong.
abbrev pub IsBadOldHead : Layout → ℕ → List ℕ → Found → Type 0
IsBadOldHead l magic file found = ((word file 0 ≢ LETTERS) × (found ≡ (l.first, LETTERS, word file 0)))
    ⊎ ((word file 0 ≡ LETTERS) × (((word file 4 ≢ l.format) × (found ≡ (l.first, l.format, word file 4)))
    ⊎ ((word file 4 ≡ l.format) × ((word file 8 ≢ magic) × (found ≡ (l.first, magic, word file 8))))))

-- some table has rows, and this table of heads is the first that hasn't
-- `OLD_BUCKETS` rows
pub record IsBadOldHeads (l : Layout) (count : Table → ℕ) (found : Found) : Type 0 where
  pub some : ((t : Table) → count t ≡ 0) → ⊥
  pub which : ((count table.TxHeads ≢ OLD_BUCKETS)
      × (found ≡ (file_of l table.TxHeads, OLD_BUCKETS, count table.TxHeads)))
      ⊎ ((count table.TxHeads ≡ OLD_BUCKETS) × ((count table.ScriptHeads ≢ OLD_BUCKETS)
      × (found ≡ (file_of l table.ScriptHeads, OLD_BUCKETS, count table.ScriptHeads))))

-- a meta row is bad: its head, the numbers of heads, or a count
abbrev pub IsBadOldRow : Layout → ℕ → List ℕ → Found → Type 0
IsBadOldRow l magic file found = IsBadOldHead l magic file found
    ⊎ (IsOldHead l magic file × (IsBadOldHeads l (count_told l file) found
    ⊎ (HasOldHeads (count_told l file) × IsBadCount l (count_told l file) found)))

-- a meta row is as it has to be, and a table's file isn't
pub record IsBadOldTable (l : Layout) (magic : ℕ) (file : List ℕ) (size : Table → ℕ)
    (found : Found) : Type 0 where
  pub head : IsOldHead l magic file
  pub heads : HasOldHeads (count_told l file)
  pub limited : (t : Table) → count_told l file t ≤ limit_in l t
  pub which : IsBadSize l (count_told l file) size found

-- The meta file, and table files of these sizes, hold no tables that an opening takes: the first check that
-- fails finds this. An empty meta file is an empty index.
abbrev pub IsBadOldFiles : Layout → ℕ → List ℕ → (Table → ℕ) → Found → Type 0
IsBadOldFiles l magic file size found =
    ((1 ≤ length file) × ((length file < l.meta) × (found ≡ (l.first, l.meta, length file))))
    ⊎ ((l.meta ≤ length file) × (IsBadOldRow l magic file found ⊎ IsBadOldTable l magic file size found))

-- The image's redo file isn't bad, and the files that it stands for are.
pub record HasBadOldFiles (l : Layout) (magic : ℕ) (image : Image) (found : Found) : Type 0 where
  pub files : Image
  pub stands : ImageStandsFor (Spells l) l.first (redo_of l) files image
  pub which : IsBadOldFiles l magic (files l.first) (sizes_in l files) found

-- The image stands for no tables that an opening takes: the first check that fails finds this.
abbrev pub IsBadOldIndex : Layout → ℕ → Image → Found → Type 0
IsBadOldIndex l magic image found = IsBadBody l image found ⊎ HasBadOldFiles l magic image found
