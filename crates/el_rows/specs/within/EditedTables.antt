-- The edits of one table: of the rows below its base those that were changed, and all rows from there on.
use Rattle.std.specs.Prelude.{◌≡◌, ◌<◌, ◌≤◌, ◌+◌, ◌-◌, ℕ, List, [], ◌∷◌, ◌++◌, ◌&&◌, is_some, Option, None, Some, map, cond, unwrap_or, length, get_or, slice_get, nat_lt, nat_eq}
use Rattle.std.specs.List.{list_any}
use Rattle.std.specs.List.Sorted.{IsStrictlySortedBy}
use Rattle.std.specs.Map.{lookup}
use Rattle.std.specs.BTreeMap.{is_at}
use Rattle.std.specs.Option.{ForSome}
use Rattle.el_row_formats.specs.declared.table.Table.{Table}
use Rattle.el_row_formats.specs.declared.table.Table.TheVariants as table
use Rattle.el_row_formats.specs.Tables.{index_of, size_of, limit_of, row_cmp, key}
use Rattle.el_row_formats.specs.declared.table.RowKey.{RowKey}
use Rattle.el_rows.specs.Changes.{Changes, changed_at, count_at}
use Rattle.el_rows.specs.SizedRows.{SizedRows}

-- the changed rows by their numbers, and the added ones in order
pub record EditedTable : Type 0 where
  pub changed : List (ℕ × List ℕ)
  pub added : SizedRows

-- numbers with their rows, as far as both reach
abbrev pub paired : List ℕ → List (List ℕ) → List (ℕ × List ℕ)
paired [] rows = []
paired (n ∷ numbers) [] = []
paired (n ∷ numbers) (row ∷ rows) = (n, row) ∷ paired numbers rows

-- the row of that place is this one, the others stay
pub record IsWritten (old new : List (List ℕ)) (place : ℕ) (row : List ℕ) : Type 0 where
  pub each : (n : ℕ) → slice_get new n ≡ cond (nat_eq place n) (Some row) (slice_get old n)
  pub longer : length old ≤ length new
  pub reach : place < length new

-- a row, where it was changed or added
abbrev pub edited_at : ℕ → EditedTable → ℕ → Option (List ℕ)
edited_at base e i = cond (nat_lt i base) (lookup (nat_eq i) e.changed) (slice_get e.added.rows (i - base))

-- no edits of a table whose rows have this size
abbrev pub unedited : ℕ → EditedTable
unedited size = record { changed = []; added = record { size = size; rows = [] } }

-- one row more is changed or added, or changed again
pub record Writes (base : ℕ) (old new : EditedTable) (i : ℕ) (row : List ℕ) : Type 0 where
  pub size : new.added.size ≡ old.added.size
  pub each : (j : ℕ) → edited_at base new j ≡ cond (nat_eq i j) (Some row) (edited_at base old j)
  pub below : (j : ℕ) → base ≤ j → lookup (nat_eq j) new.changed ≡ lookup (nat_eq j) old.changed
  pub longer : length old.added.rows ≤ length new.added.rows
  pub reach : i < base + length new.added.rows

-- no edits of a table
abbrev pub no_edits : EditedTable
no_edits = record { changed = []; added = record { size = 0; rows = [] } }

-- a table's edits among those of all tables
abbrev pub edits_of : List EditedTable → Table → EditedTable
edits_of tables t = get_or tables (index_of t) no_edits

-- rows of a table as changes, from this number on
abbrev pub numbered : Table → ℕ → List (List ℕ) → Changes
numbered t n [] = []
numbered t n (row ∷ rows) = (key t n, row) ∷ numbered t (n + 1) rows

-- a table's edits as changes
abbrev pub changes_in : Table → ℕ → EditedTable → Changes
changes_in t base e = map (λ c. (key t c.0, c.1)) e.changed ++ numbered t base e.added.rows

-- the edits of all tables as changes
abbrev pub all_changes : List ℕ → List EditedTable → Changes
all_changes base tables =
    let of : Table → Changes = λ t. changes_in t (count_at base t) (edits_of tables t) in
    of table.Blocks ++ (of table.Txs ++ (of table.TxHeads ++ (of table.Outs
    ++ (of table.Ins ++ (of table.Scripts ++ (of table.ScriptHeads ++ of table.Entries))))))

-- what edits keep, over these bases and with these counts: changed rows stand below the base, added ones
-- reach to the count, and each has its table's size
pub record AreEdited (base counts : List ℕ) (tables : List EditedTable) : Type 0 where
  pub below : (t : Table) (i : ℕ) → count_at base t ≤ i → lookup (nat_eq i) (edits_of tables t).changed ≡ None
  pub sizes : (t : Table) → (edits_of tables t).added.size ≡ size_of t
  pub sized : (t : Table) (i : ℕ)
      → ForSome (edited_at (count_at base t) (edits_of tables t) i) (λ row. length row ≡ size_of t)
  pub reach : (t : Table) → count_at counts t ≤ count_at base t + length (edits_of tables t).added.rows
  pub limited : (t : Table) → count_at counts t ≤ limit_of t

-- the rows of a table among those of all tables
abbrev pub rows_at : List (List ℕ) → Table → List ℕ
rows_at rows t = get_or rows (index_of t) []

-- the eight tables, in the order of their places
abbrev pub all_tables : List Table
all_tables = table.Blocks ∷ table.Txs ∷ table.TxHeads ∷ table.Outs
    ∷ table.Ins ∷ table.Scripts ∷ table.ScriptHeads ∷ table.Entries ∷ []

-- the keys of the rows of these tables, table by table
abbrev pub keys_over : List (List ℕ) → List Table → List RowKey
keys_over rows [] = []
keys_over rows (t ∷ ts) = map (key t) (rows_at rows t) ++ keys_over rows ts

-- the changed rows of these keys
abbrev pub listed_changes : Changes → List RowKey → Changes
listed_changes changes keys = map (λ k. (k, unwrap_or (changed_at changes k.table k.row) [])) keys

-- these are the keys of the changed rows that are shown under these counts, and they rise
pub record AreShown (counts : List ℕ) (changes : Changes) (keys : List RowKey) : Type 0 where
  pub rising : IsStrictlySortedBy row_cmp keys
  pub each : (t : Table) (i : ℕ)
      → list_any (is_at (row_cmp (key t i))) keys
      ≡ (nat_lt i (count_at counts t) && is_some (changed_at changes t i))
