-- Changed rows, and tables under them.
use Rattle.std.specs.Prelude.{◌≡◌, ◌≢◌, ◌<◌, ◌≤◌, ℕ, List, [], Option, None, Some, IsSome, map, unwrap_or, length, cond}
use Rattle.std.specs.Option.{ForSome}
use Rattle.std.specs.Prelude.{get_or, nat_lt}
use Rattle.std.specs.List.{range_with_len}
use Rattle.std.specs.List.Sorted.{IsStrictlySortedBy}
use Rattle.std.specs.Map.{lookup, keys_of}
use Rattle.std.specs.BTreeMap.{is_at}
use Rattle.el_row_formats.specs.declared.table.Table.{Table}
use Rattle.el_row_formats.specs.declared.table.RowKey.{RowKey}
use Rattle.el_row_formats.specs.Tables.{Tables, index_of, key, size_of, limit_of, row_cmp}

-- changed rows: the key of each, and its new bytes
abbrev pub Changes : Type 0
Changes = List (RowKey × List ℕ)

-- the changed row, where it was changed
abbrev pub changed_at : Changes → Table → ℕ → Option (List ℕ)
changed_at changes t i = lookup (is_at (row_cmp (key t i))) changes

-- a table's count among the counts of all tables
abbrev pub count_at : List ℕ → Table → ℕ
count_at counts t = get_or counts (index_of t) 0

-- a row under the changes
abbrev pub row_under : Tables → Changes → Table → ℕ → List ℕ
row_under lists changes t i = unwrap_or (changed_at changes t i) (get_or (lists t) i [])

-- the tables under the changes, with these counts
unfoldable pub under : Tables → List ℕ → Changes → Tables
under lists counts changes t = map (row_under lists changes t) (range_with_len 0 (count_at counts t))

-- What a store takes: edits of its tables, by rising table and row, each of a row that there then is.
pub record IsMadeFrom (base : Table → ℕ) (counts : List ℕ) (changes : Changes) : Type 0 where
  pub covers : (t : Table) (i : ℕ) → i < count_at counts t → changed_at changes t i ≡ None → i < base t
  pub sized : (t : Table) (i : ℕ) → ForSome (changed_at changes t i) (λ row. length row ≡ size_of t)
  pub limited : (t : Table) → count_at counts t ≤ limit_of t
  pub within : (t : Table) (i : ℕ) → IsSome (changed_at changes t i) → i < count_at counts t
  pub rising : IsStrictlySortedBy row_cmp (keys_of changes)

-- what contracts see of edits
pub record Edited : Type 0 where
  pub base : List ℕ
  pub counts : List ℕ
  pub changes : Changes

-- what contracts see of sealed edits: the new counts and the changed rows
pub record Update : Type 0 where
  pub counts : List ℕ
  pub changes : Changes

-- one row more is changed, or changed again
pub record Sets (old new : Changes) (t : Table) (i : ℕ) (row : List ℕ) : Type 0 where
  pub each : (u : Table) (j : ℕ)
      → changed_at new u j ≡ cond (is_at (row_cmp (key t i)) (key u j)) (Some row) (changed_at old u j)

-- one count becomes n, the others stay
pub record SetsCount (old new : List ℕ) (t : Table) (n : ℕ) : Type 0 where
  pub here : count_at new t ≡ n
  pub others : (u : Table) → u ≢ t → count_at new u ≡ count_at old u

-- one table becomes this one, the others stay
pub record OnTable (old new : Tables) (t : Table) (rows : List (List ℕ)) : Type 0 where
  pub here : new t ≡ rows
  pub others : (u : Table) → u ≢ t → new u ≡ old u

-- a changed row, where it is shown under these counts
abbrev pub shown_at : List ℕ → Changes → Table → ℕ → Option (List ℕ)
shown_at counts changes t i = cond (nat_lt i (count_at counts t)) (changed_at changes t i) None
