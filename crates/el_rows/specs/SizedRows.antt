-- Rows of one size, one after another in a list of bytes.
use Rattle.std.specs.Prelude.{◌≡◌, ◌<◌, ◌≤◌, ℕ, List, [], map, length, get_or}
use Rattle.std.specs.List.{range_with_len}
use Rattle.el_row_formats.specs.Tables.{row_at}

-- rows that all have that size
pub record SizedRows : Type 0 where
  pub size : ℕ
  pub rows : List (List ℕ)

-- so many rows of that size, from the front of bytes
unfoldable pub cut_rows : ℕ → List ℕ → ℕ → List (List ℕ)
cut_rows size bytes count = map (row_at size bytes) (range_with_len 0 count)

-- all old rows are there, and each one after them has this size
pub record HasGrown (size : ℕ) (old new : List (List ℕ)) : Type 0 where
  pub longer : length old ≤ length new
  pub before : (i : ℕ) → i < length old → get_or new i [] ≡ get_or old i []
  pub sized : (i : ℕ) → length old ≤ i → i < length new → length (get_or new i []) ≡ size
