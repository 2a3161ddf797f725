-- What contracts see of a store in memory, and what other counts make of its tables.
use Rattle.std.specs.Prelude.{◌≡◌, ◌<◌, ℕ, List, [], length, get_or}
use Rattle.el_row_formats.specs.declared.table.Table.{Table}
use Rattle.el_row_formats.specs.Tables.{Tables}
use Rattle.el_rows.specs.Changes.{count_at}

-- the rows of its tables, how many bits the number of a bucket has, and how many rows were read
pub record CountedRows : Type 0 where
  pub rows : List (List (List ℕ))
  pub bits : ℕ
  pub reads : ℕ

-- each table has so many rows now, the first of which are those that it had
pub record IsResized (counts : List ℕ) (old new : Tables) : Type 0 where
  pub long : (t : Table) → length (new t) ≡ count_at counts t
  pub first : (t : Table) (i : ℕ) → i < length (old t) → i < count_at counts t
      → get_or (new t) i [] ≡ get_or (old t) i []
