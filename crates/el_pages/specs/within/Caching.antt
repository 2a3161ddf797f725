-- The rows of files that pages are read from.
use Rattle.std.specs.Prelude.{◌≡◌, ◌<◌, ◌≤◌, ◌+◌, ◌*◌, ℕ, List, [], length, get_or}
use Rattle.el_outside.specs.Disk.{Image}
use Rattle.el_row_formats.specs.declared.table.Table.{Table}
use Rattle.el_row_formats.specs.Tables.{Tables, size_of, row_at}
use Rattle.el_page_cache.specs.Pages.{rows_in_page, row_number}
use Rattle.el_pages.specs.declared.layout.TheConstants.{FORMAT_2}
use Rattle.el_pages.specs.Layouts.{file_of}

-- a row is whole in a file
abbrev pub IsWholeIn : Table → List ℕ → ℕ → Type 0
IsWholeIn t file i = i * size_of t + size_of t ≤ length file

-- the files have these rows, each whole
pub record HaveRows (files : Image) (lists : Tables) (counts : Table → ℕ) : Type 0 where
  pub whole : (t : Table) (i : ℕ) → i < counts t → IsWholeIn t (files (file_of FORMAT_2 t)) i
  pub same : (t : Table) (i : ℕ) → i < counts t
      → row_at (size_of t) (files (file_of FORMAT_2 t)) i ≡ get_or (lists t) i []

-- the bytes are a page's: those of its rows that are whole in the file are there
abbrev pub IsPage : Table → List ℕ → ℕ → List ℕ → Type 0
IsPage t file n bytes =
    (place : ℕ) → place < rows_in_page t → IsWholeIn t file (row_number t n place)
    → row_at (size_of t) bytes place ≡ row_at (size_of t) file (row_number t n place)
