-- What calls of rows alone leave as it was.
use Rattle.std.specs.Prelude.{◌≡◌, ◌⊎◌, ℕ}
use Rattle.el_row_formats.specs.declared.table.Table.{Table}
use Rattle.el_row_formats.specs.Tables.{Tables}

-- the same rows in each table
abbrev pub Same : Tables → Tables → Type 0
Same a b = (t : Table) → b t ≡ a t

-- what is left stands for the ones or for the others
abbrev pub IsEither : {C : Type 0} → (C → Tables → Type 0) → Tables → Tables → C → Type 0
IsEither shows a b c = shows c a ⊎ shows c b

-- Rows were read and nothing else: lists and counts stay, and how many heads there are; the store stays live,
-- and what is below it is kept, as `keeps` says.
pub record OnlyRead {R : Type 0} (lists : R → Tables) (counts : R → Table → ℕ) (heads : R → ℕ)
    (is_live : R → Type 0) (keeps : R → R → Type 0) (old new : R) : Type 0 where
  pub same : lists new ≡ lists old
  pub count : counts new ≡ counts old
  pub as_many : heads new ≡ heads old
  pub live : is_live new
  pub below : keeps old new
