-- The rows of a Merkle tree one after the other.
use Rattle.std.specs.Prelude.{◌≡◌, ℕ, zero, suc, ◌≤◌, ◌<◌, ◌^◌, List, ◌++◌, length, take}
use Rattle.el_base.specs.declared.hash.Hash32.{Hash32}
use Rattle.el_merkle.specs.Merkle.{pairs}

-- the hashes, and then each row above them, up to so many levels
unfoldable pub rows_through : ℕ → List Hash32 → List Hash32
rows_through zero list = list
rows_through (suc n) list = list ++ rows_through n (pairs list)

-- Of these hashes the first so many are the foot of a tree, and the others are its rows above, up to the one
-- that has one hash alone.
pub record AreRows (hashes : List Hash32) (count levels : ℕ) : Type 0 where
  pub some : 0 < count
  pub within : count ≤ length hashes
  pub reach : count ≤ 2 ^ levels
  pub rows : hashes ≡ rows_through levels (take count hashes)
