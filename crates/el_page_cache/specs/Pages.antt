-- Pages of rows that are kept, and that they are the rows of tables.
use Rattle.std.specs.Prelude.{◌≡◌, ◌<◌, ◌≤◌, ◌+◌, ◌-◌, ◌*◌, ◌/◌, ◌%◌, ℕ, List, [], Option, Some, get_or, nat_eq}
use Rattle.std.specs.Map.{lookup}
use Rattle.el_row_formats.specs.declared.table.Table.{Table}
use Rattle.el_row_formats.specs.Tables.{Tables, index_of, size_of, row_at}

-- how many rows of a table a page has: as many as stand whole in its 4,096 bytes
unfoldable pub rows_in_page : Table → ℕ
rows_in_page t = 4096 / size_of t

-- the number of the page that a row stands in; a table's rows and pages count from 0
unfoldable pub page_of : Table → ℕ → ℕ
page_of t i = i / rows_in_page t

-- the row's place in that page, from 0
unfoldable pub place_of : Table → ℕ → ℕ
place_of t i = i % rows_in_page t

-- the row at a place of a page
abbrev pub row_number : Table → ℕ → ℕ → ℕ
row_number t n place = n * rows_in_page t + place

-- the number by which a page of a table is kept
abbrev pub page_key : Table → ℕ → ℕ
page_key t n = n * 8 + index_of t

-- what is kept: the bytes of pages by their numbers, the page that was used last first
abbrev pub KeptPages : Type 0
KeptPages = List (ℕ × List ℕ)

-- the bytes of a page of a table, where it is kept
abbrev pub page_in : KeptPages → Table → ℕ → Option (List ℕ)
page_in pages t n = lookup (nat_eq (page_key t n)) pages

-- The page of a table has the table's rows. Where the table ends before it, the rest of its bytes is any.
abbrev pub HasRows : Tables → (Table → ℕ) → Table → ℕ → List ℕ → Type 0
HasRows lists counts t n page =
    (place : ℕ) → place < rows_in_page t → row_number t n place < counts t
    → row_at (size_of t) page place ≡ get_or (lists t) (row_number t n place) []

-- each page that is kept has the rows of these tables
abbrev pub Agrees : KeptPages → Tables → (Table → ℕ) → Type 0
Agrees pages lists counts =
    (t : Table) (n : ℕ) (page : List ℕ) → page_in pages t n ≡ Some page → HasRows lists counts t n page

-- row i is one of those of table t from the first one on
abbrev pub IsRowOfRun : Table → ℕ → ℕ → Table → ℕ → Type 0
IsRowOfRun t first rows u i = (u ≡ t) × (first ≤ i) × (i < first + rows)

-- So many rows of a table, from the first one on, are now those of these bytes in each page that is kept; it
-- was kept before, and all its other rows are as they were.
pub record IsWrittenTo (t : Table) (first rows : ℕ) (bytes : List ℕ) (u : Table) (n : ℕ) (old new : List ℕ)
    : Type 0 where
  pub written : (place : ℕ) → place < rows_in_page u → IsRowOfRun t first rows u (row_number u n place)
      → row_at (size_of u) new place ≡ row_at (size_of t) bytes (row_number u n place - first)
  pub others : (place : ℕ) → place < rows_in_page u → (IsRowOfRun t first rows u (row_number u n place) → ⊥)
      → row_at (size_of u) new place ≡ row_at (size_of u) old place

-- The same of all pages: each page of any table that is kept now was kept before, and has these rows and
-- otherwise its own.
abbrev pub ArePagesWritten : KeptPages → KeptPages → Table → ℕ → ℕ → List ℕ → Type 0
ArePagesWritten old new t first rows bytes =
    (u : Table) (n : ℕ) (page : List ℕ) → page_in new u n ≡ Some page
    → (was : List ℕ) × (page_in old u n ≡ Some was) × IsWrittenTo t first rows bytes u n was page
