-- Where a byte stands.
use Rattle.std.specs.Prelude.{◌≡◌, ℕ, ◌<◌, ◌≤◌, List, length, take, slice_index}
use Rattle.el_lines.specs.LineStates.{LacksByte}

-- none of the first `seen` bytes is
pub record IsSearched (byte : ℕ) (bytes : List ℕ) (seen : ℕ) : Type 0 where
  pub inside : seen ≤ length bytes
  pub none : LacksByte byte (take seen bytes)

-- the first one stands there
pub record StandsFirst (byte : ℕ) (bytes : List ℕ) (place : ℕ) : Type 0 where
  pub inside : place < length bytes
  pub none : LacksByte byte (take place bytes)
  pub is : slice_index bytes place ≡ byte
