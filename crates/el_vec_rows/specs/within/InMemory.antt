-- The eight tables in memory.
use Rattle.std.specs.Prelude.{◌≡◌, ◌<◌, ◌≤◌, ℕ, List, [], length, get_or, take, drop, None, unwrap_or}
use Rattle.el_row_formats.specs.declared.table.Table.{Table}
use Rattle.el_row_formats.specs.Tables.{Tables, index_of, size_of, limit_of}
use Rattle.el_rows.specs.Changes.{Changes, changed_at, count_at}
use Rattle.el_rows.specs.SizedRows.{SizedRows, HasGrown}

-- what stands for the list of a table that isn't there
abbrev pub no_list : SizedRows
no_list = record { size = 0; rows = [] }

-- the list that is kept of a table
abbrev pub sized_rows : List SizedRows → Table → SizedRows
sized_rows kept t = get_or kept (index_of t) no_list

-- the tables that the lists hold
abbrev pub tables_held : List SizedRows → Tables
tables_held kept t = (sized_rows kept t).rows

-- of the rows that are kept of each table, those that are shown
abbrev pub shown_rows : List SizedRows → List ℕ → Tables
shown_rows kept counts t = take (count_at counts t) (tables_held kept t)

-- each list has its table's size
abbrev pub AreSized : List SizedRows → Type 0
AreSized kept = (t : Table) → (sized_rows kept t).size ≡ size_of t

-- there are as many rows as these counts say
abbrev pub HasEnoughRows : List SizedRows → List ℕ → Type 0
HasEnoughRows kept counts = (t : Table) → count_at counts t ≤ length (tables_held kept t)

-- what is kept beside the counts
pub record AreKept (kept : List SizedRows) (counts : List ℕ) : Type 0 where
  pub sized : AreSized kept
  pub room : HasEnoughRows kept counts
  pub limited : (t : Table) → count_at counts t ≤ limit_of t

-- each table has grown, and its list has the same size
pub record AllGrown (old new : List SizedRows) : Type 0 where
  pub sizes : (t : Table) → (sized_rows new t).size ≡ (sized_rows old t).size
  pub rows : (t : Table) → HasGrown (sized_rows old t).size (tables_held old t) (tables_held new t)

-- the changed rows are written over, and each list has the same size
pub record AreWritten (old new : List SizedRows) (changes : Changes) : Type 0 where
  pub sizes : (t : Table) → (sized_rows new t).size ≡ (sized_rows old t).size
  pub long : (t : Table) → length (tables_held new t) ≡ length (tables_held old t)
  pub each : (t : Table) (i : ℕ) → i < length (tables_held old t)
      → get_or (tables_held new t) i [] ≡ unwrap_or (changed_at changes t i) (get_or (tables_held old t) i [])

-- the first k of the changed rows are written over, the others still stand as they were
pub record AreWriting (old new : List SizedRows) (changes : Changes) (k : ℕ) : Type 0 where
  pub tables : length new ≡ length old
  pub sizes : (t : Table) → (sized_rows new t).size ≡ (sized_rows old t).size
  pub long : (t : Table) → length (tables_held new t) ≡ length (tables_held old t)
  pub each : (t : Table) (i : ℕ) → i < length (tables_held old t) → changed_at (drop k changes) t i ≡ None
      → get_or (tables_held new t) i [] ≡ unwrap_or (changed_at changes t i) (get_or (tables_held old t) i [])
