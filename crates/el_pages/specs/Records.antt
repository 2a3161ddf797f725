-- What the body of a redo record says: a meta row and changed rows, as writes into the files.
use Rattle.std.specs.Prelude.{◌≡◌, ◌<◌, ◌*◌, ◌^◌, ℕ, List, [], ◌∷◌, ◌++◌, map, length}
use Rattle.std.specs.List.{AllByRecursion}
use Rattle.el_row_formats.specs.declared.table.RowKey.{RowKey}
use Rattle.el_rows.specs.Changes.{Changes, count_at}
use Rattle.el_redo.specs.RedoBody.{all_tables, numbers_bytes, changes_bytes}
use Rattle.el_redone.specs.Redone.{Write}
use Rattle.el_pages.specs.declared.layout.Layout.{Layout}
use Rattle.el_pages.specs.Layouts.{file_of, size_in}

-- A meta row: what it begins with (letters, format, magic, and what else the format has there), and how many
-- rows each table has.
unfoldable pub meta_of : List ℕ → List ℕ → List ℕ
meta_of head counts = head ++ numbers_bytes (map (count_at counts) all_tables)

-- a changed row goes to its place
abbrev pub write_of : Layout → RowKey × List ℕ → Write
write_of l e = record { file = file_of l e.0.table; at = e.0.row * size_in l e.0.table; bytes = e.1 }

-- the changed rows go first, and then the meta row
abbrev pub writes_of : Layout → List ℕ → Changes → List Write
writes_of l meta changes = map (write_of l) changes ++ record { file = l.first; at = 0; bytes = meta } ∷ []

-- a whole row, whose number fits its bytes
pub record IsWhole (l : Layout) (e : RowKey × List ℕ) : Type 0 where
  pub sized : length e.1 ≡ size_in l e.0.table
  pub small : e.0.row < 2 ^ 64

-- the body is a meta row and whole changed rows, and these are its writes
pub record Spells (l : Layout) (body : List ℕ) (ws : List Write) : Type 0 where
  pub meta : List ℕ
  pub changes : Changes
  pub is : body ≡ meta ++ changes_bytes changes
  pub long : length meta ≡ l.meta
  pub whole : AllByRecursion (IsWhole l) changes
  pub writes : ws ≡ writes_of l meta changes
