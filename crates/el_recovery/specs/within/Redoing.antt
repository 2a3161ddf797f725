-- What is left of a record that an opening works through.
use Rattle.std.specs.Prelude.{◌≡◌, ◌+◌, ◌++◌, ◌∷◌, ℕ, List, map, length, drop}
use Rattle.std.specs.List.{AllByRecursion}
use Rattle.el_outside.specs.Disk.{Image}
use Rattle.el_rows.specs.Changes.{Changes}
use Rattle.el_redo.specs.RedoBody.{changes_bytes}
use Rattle.el_redone.specs.Redone.{Write, WritesFit, into, record_bytes}
use Rattle.el_pages.specs.declared.layout.Layout.{Layout}
use Rattle.el_pages.specs.Layouts.{redo_of}
use Rattle.el_pages.specs.Records.{Spells, write_of, IsWhole}

-- From that place up to the end the redo file has these changed rows, whole, and none begins after the end
-- that its file then has.
pub record HasLeft (l : Layout) (seen : Image) (at end : ℕ) (changes : Changes)
    (stale : List ℕ) : Type 0 where
  pub is : drop at (seen (redo_of l)) ≡ changes_bytes changes ++ stale
  pub ends_at : end ≡ at + length (changes_bytes changes)
  pub whole : AllByRecursion (IsWhole l) changes
  pub fits : (f : ℕ) → WritesFit (into f (map (write_of l) changes)) (length (seen f))

-- The redo file has an open gate and behind it a whole body of that length, whose writes fit.
pub record HasRedoRecord (l : Layout) (seen : Image) (len : ℕ) (body stale : List ℕ)
    (ws : List Write) : Type 0 where
  pub long : length body ≡ len
  pub is : seen (redo_of l) ≡ 1 ∷ (record_bytes body ++ stale)
  pub spelled : Spells l body ws
  pub fits : (f : ℕ) → WritesFit (into f ws) (length (seen f))
