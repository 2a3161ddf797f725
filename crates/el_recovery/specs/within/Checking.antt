-- A body while an opening goes over its changes.
use Rattle.std.specs.Prelude.{◌≡◌, ◌≤◌, ◌<◌, ◌+◌, ◌^◌, ℕ, max, map, List, ◌∷◌, ◌++◌, length, get_or}
use Rattle.std.specs.List.{AllByRecursion}
use Rattle.el_outside.specs.Disk.{Image}
use Rattle.el_row_formats.specs.declared.table.Table.{Table}
use Rattle.el_row_formats.specs.Tables.{key}
use Rattle.el_rows.specs.Changes.{Changes}
use Rattle.el_redo.specs.RedoBody.{change_bytes, changes_bytes}
use Rattle.el_redone.specs.Redone.{WritesFit, into, ends, record_bytes}
use Rattle.el_pages.specs.declared.layout.Layout.{Layout}
use Rattle.el_pages.specs.Layouts.{file_of, redo_of, size_in}
use Rattle.el_pages.specs.Records.{write_of, IsWhole}

-- The redo file has an open gate, and behind it this body of that length, which has room for a meta row.
pub record HasBody (l : Layout) (seen : Image) (len : ℕ) (body stale : List ℕ) : Type 0 where
  pub long : length body ≡ len
  pub is : seen (redo_of l) ≡ 1 ∷ (record_bytes body ++ stale)
  pub room : l.meta ≤ len

-- Of a body these changes were gone over, and are as they have to be; `rest` is left, which stands from
-- `at` up to `end` in the redo file, and `reach` tells how far each table's file then reaches.
pub record IsBodyChecked (l : Layout) (seen : Image) (body stale : List ℕ) (at end : ℕ) (changes : Changes)
    (rest : List ℕ) (reach : Table → ℕ) : Type 0 where
  pub is : seen (redo_of l) ≡ 1 ∷ (record_bytes body ++ stale)
  pub meta : List ℕ
  pub long : length meta ≡ l.meta
  pub split : body ≡ meta ++ (changes_bytes changes ++ rest)
  pub whole : AllByRecursion (IsWhole l) changes
  pub fits : (f : ℕ) → WritesFit (into f (map (write_of l) changes)) (length (seen f))
  pub reaches : (t : Table) → reach t
      ≡ max (length (seen (file_of l t))) (ends (into (file_of l t) (map (write_of l) changes)))
  pub starts_at : at ≡ 9 + (length meta + length (changes_bytes changes))
  pub ends_at : end ≡ 9 + length body

-- these are so many bytes
pub record AreSoManyBytes (xs : List ℕ) (n : ℕ) : Type 0 where
  pub long : length xs ≡ n
  pub small : (i : ℕ) → get_or xs i 0 < 256

-- what is left begins with a whole change of that row
pub record IsNextRow (l : Layout) (rest : List ℕ) (t : Table) (i : ℕ) : Type 0 where
  pub row : List ℕ
  pub after : List ℕ
  pub is : rest ≡ change_bytes (key t i, row) ++ after
  pub sized : length row ≡ size_in l t
  pub small : i < 2 ^ 64
