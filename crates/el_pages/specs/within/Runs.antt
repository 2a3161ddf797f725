-- Runs: changed rows of one table that follow one another.
use Rattle.std.specs.Prelude.{◌≡◌, ◌<◌, ◌≤◌, ◌+◌, ◌*◌, ℕ, Bool, false, List, [], ◌∷◌, Some, length, slice_get, if◌then◌else◌}
use Rattle.std.specs.List.{sum_by}
use Rattle.std.specs.BTreeMap.{is_at}
use Rattle.el_row_formats.specs.declared.table.Table.{Table}
use Rattle.el_row_formats.specs.declared.table.RowKey.{RowKey}
use Rattle.el_row_formats.specs.Tables.{key, size_of, limit_of, row_at, row_cmp}
use Rattle.el_rows.specs.Changes.{Changes}
use Rattle.el_pages.specs.within.Staging.{full_writes}

-- From place k on, the changes are so many rows of a table, from that number on, and their bytes stand one
-- after another.
pub record AreConsecutiveRows (changes : Changes) (k : ℕ) (t : Table) (first rows : ℕ)
    (bytes : List ℕ) : Type 0 where
  pub within : k + rows ≤ length changes
  pub limit : first + rows ≤ limit_of t
  pub long : length bytes ≡ rows * size_of t
  pub each : (j : ℕ) → j < rows
      → slice_get changes (k + j) ≡ Some (key t (first + j), row_at (size_of t) bytes j)

-- that row is the first of the changed ones
abbrev pub is_first : RowKey → Changes → Bool
is_first row [] = false
is_first row (e ∷ es) = is_at (row_cmp row) e.0

-- How many runs the changed rows are: one ends with each row that the next changed row doesn't follow in its
-- table.
abbrev pub runs_of : Changes → ℕ
runs_of [] = 0
runs_of (e ∷ es) = (if is_first (key e.0.table (e.0.row + 1)) es then 0 else 1) + runs_of es

-- how many bytes they have
abbrev pub row_bytes : Changes → ℕ
row_bytes changes = sum_by (λ e. length e.1) changes

-- How many calls write them through a buffer of that size: one for each run, and one each time that it is
-- full.
abbrev pub row_writes : ℕ → Changes → ℕ
row_writes size changes = runs_of changes + full_writes size (row_bytes changes)
