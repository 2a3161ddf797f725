-- The tables that the files of an index have, and those that an image of a disk stands for.
use Rattle.std.specs.Prelude.{◌≡◌, ◌≤◌, ◌*◌, ◌^◌, ℕ, List, [], ◌∷◌, ◌++◌, length, take}
use Rattle.el_outside.specs.Disk.{Image}
use Rattle.el_row_formats.specs.declared.table.Table.{Table}
use Rattle.el_row_formats.specs.Tables.{Tables}
use Rattle.el_rows.specs.Changes.{count_at}
use Rattle.el_rows.specs.Reads.{Same}
use Rattle.el_row_formats.specs.declared.limits.TheConstants.{MIN_HEAD_BITS, MAX_HEAD_BITS}
use Rattle.el_redo.specs.RedoBody.{head_bytes}
use Rattle.el_redone.specs.Redone.{ImageStandsFor}
use Rattle.el_redone.specs.declared.steps.TheConstants.{ROOT}
use Rattle.el_pages.specs.declared.layout.Layout.{Layout}
use Rattle.el_pages.specs.declared.layout.TheConstants.{FORMAT_2}
use Rattle.el_pages.specs.Layouts.{file_of, redo_of, size_in, limit_in, rows_in}
use Rattle.el_pages.specs.Records.{meta_of, Spells}

-- The meta file begins with a meta row of these counts, none of which is above its limit, and each table's
-- file has its rows.
pub record HasCounts (l : Layout) (head : List ℕ) (files : Image) (counts : List ℕ) : Type 0 where
  pub rest : List ℕ
  pub meta : files l.first ≡ meta_of head counts ++ rest
  pub limited : (t : Table) → count_at counts t ≤ limit_in l t
  pub holds : (t : Table) → count_at counts t * size_in l t ≤ length (files (file_of l t))

-- the tables of these counts
abbrev pub tables_in : Layout → Image → List ℕ → Tables
tables_in l files counts t = rows_in (size_in l t) (files (file_of l t)) (count_at counts t)

-- The image stands for the tables: they are those of the files that its redo file makes of its files.
pub record ShowsTables (l : Layout) (head : List ℕ) (image : Image) (tables : Tables) : Type 0 where
  pub files : Image
  pub stands : ImageStandsFor (Spells l) l.first (redo_of l) files image
  pub counts : List ℕ
  pub has : HasCounts l head files counts
  pub same : Same (tables_in l files counts) tables

-- format 2 is live in an image: its root isn't empty, and its first byte is 2
abbrev pub IsRooted : Image → Type 0
IsRooted image = take 1 (image ROOT) ≡ 2 ∷ []

-- The image stands for the tables in an index of format 2 of the network with that magic, which is live, with
-- so many heads of each kind: 2^bits, by the bits of its meta row.
pub record ShowsFor (magic : List ℕ) (image : Image) (heads : ℕ) (tables : Tables) : Type 0 where
  pub rooted : IsRooted image
  pub bits : ℕ
  pub least : MIN_HEAD_BITS ≤ bits
  pub most : bits ≤ MAX_HEAD_BITS
  pub as_many : heads ≡ 2 ^ bits
  pub shows : ShowsTables FORMAT_2 (head_bytes magic bits) image tables
