-- What an index of format 1 stands for. Its files are 0 to 9, and its rows those of `OldRowBytes`. A disk
-- that was never written is an index of format 1 without rows.
use Rattle.std.specs.Prelude.{◌≡◌, ◌⊎◌, ℕ, List, [], ◌∷◌, ◌++◌}
use Rattle.std.specs.Int.{w32, to_le_bytes}
use Rattle.el_outside.specs.Disk.{Image}
use Rattle.el_row_formats.specs.declared.table.Table.{Table}
use Rattle.el_row_formats.specs.Tables.{Tables}
use Rattle.el_rows.specs.Changes.{count_at}
use Rattle.el_rows.specs.Reads.{Same}
use Rattle.el_redone.specs.Redone.{ImageStandsFor}
use Rattle.el_pages.specs.declared.layout.TheConstants.{FORMAT_1}
use Rattle.el_pages.specs.Records.{Spells}
use Rattle.el_pages.specs.Indexes.{HasCounts, tables_in}

-- what a meta row of format 1 begins with: the letters 'ELIX', the format, and the network's magic
unfoldable pub old_head_bytes : List ℕ → List ℕ
old_head_bytes magic = 69 ∷ 76 ∷ 73 ∷ 88 ∷ (to_le_bytes w32 1 ++ magic)

-- no index was written yet
pub record IsUnwritten (files : Image) (counts : List ℕ) : Type 0 where
  pub empty : files 0 ≡ []
  pub none : (t : Table) → count_at counts t ≡ 0

-- the files have tables with these counts
abbrev pub HasOldCounts : List ℕ → Image → List ℕ → Type 0
HasOldCounts magic files counts =
    HasCounts FORMAT_1 (old_head_bytes magic) files counts ⊎ IsUnwritten files counts

-- The image stands for the tables, in an index of format 1 of the network with that magic: they are those of
-- the files that its redo file makes of its files.
pub record ShowsOld (magic : List ℕ) (image : Image) (tables : Tables) : Type 0 where
  pub files : Image
  pub stands : ImageStandsFor (Spells FORMAT_1) 0 9 files image
  pub counts : List ℕ
  pub has : HasOldCounts magic files counts
  pub same : Same (tables_in FORMAT_1 files counts) tables
