-- What the files of format 2 have, once all rows were moved.
use Rattle.std.specs.Prelude.{◌≡◌, ◌≤◌, ◌*◌, ◌^◌, ℕ, List, [], ◌∷◌, length}
use Rattle.el_outside.specs.Disk.{Image}
use Rattle.el_row_formats.specs.declared.table.Table.{Table}
use Rattle.el_row_formats.specs.declared.table.Table.TheVariants as table
use Rattle.el_row_formats.specs.OldRowBytes.{old_size_of}
use Rattle.el_row_formats.specs.Tables.{size_of}
use Rattle.el_rows.specs.Changes.{count_at}
use Rattle.el_redo.specs.RedoBody.{head_bytes}
use Rattle.el_tables.specs.ChainLists.{ListedBlock}
use Rattle.el_tables.specs.Lists.{Lists}
use Rattle.el_tables.specs.Tables.{HeadCounts}
use Rattle.el_pages.specs.declared.layout.TheConstants.{FORMAT_1, FORMAT_2}
use Rattle.el_pages.specs.Layouts.{file_of}
use Rattle.el_pages.specs.Records.{meta_of}
use Rattle.el_migrate.specs.within.Moving.{HasOnlyRows, HasOldRows, new_rows}

-- how many rows each table then has: a table of heads has one for each bucket
abbrev pub new_count : ℕ → List ℕ → Table → ℕ
new_count bits counts table.TxHeads = 2 ^ bits
new_count bits counts table.ScriptHeads = 2 ^ bits
new_count bits counts t = count_at counts t

-- the files of format 1 have the rows of these blocks and lists, so many in each table
pub record HaveOldRows (heads : HeadCounts) (bs : List ListedBlock) (l : Lists) (counts : List ℕ)
    (files : Image) : Type 0 where
  pub rows : (t : Table) → HasOldRows heads bs l t (count_at counts t) (files (file_of FORMAT_1 t))
  pub long : (t : Table) → count_at counts t * old_size_of t ≤ length (files (file_of FORMAT_1 t))

-- the files of format 2 have the rows of these blocks and lists, with 2^bits buckets, and nothing else
abbrev pub HaveNewRows : ℕ → List ListedBlock → Lists → List ℕ → Image → Type 0
HaveNewRows bits bs l counts files = (t : Table)
    → HasOnlyRows t (files (file_of FORMAT_2 t)) (new_rows (2 ^ bits) bs l t) (new_count bits counts t)

-- each table's file has as many bytes as its rows, whatever they are
abbrev pub AreGrown : ℕ → List ℕ → Image → Type 0
AreGrown bits counts files = (t : Table)
    → new_count bits counts t * size_of t ≡ length (files (file_of FORMAT_2 t))

-- all of format 2 but the root is written: the meta row, and a closed gate
pub record IsMetaWritten (magic : List ℕ) (bits : ℕ) (counts : List ℕ) (files : Image) : Type 0 where
  pub numbers : List ℕ
  pub are : (t : Table) → count_at numbers t ≡ new_count bits counts t
  pub meta : files 20 ≡ meta_of (head_bytes magic bits) numbers
  pub redo : files 29 ≡ 0 ∷ []
