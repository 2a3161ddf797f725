-- A Merkle tree of which the rows up to some level are known.
use Rattle.std.specs.Prelude.{ℕ, List, length}
use Rattle.el_base.specs.declared.hash.Hash32.{Hash32}
use Rattle.el_merkle.specs.Merkle.{levels}

-- the hashes at its foot, and how many levels above them are known
pub record Grown : Type 0 where
  pub leaves : List Hash32
  pub levels : ℕ

-- the tree over hashes up to the root
abbrev pub whole_tree : List Hash32 → Grown
whole_tree list = record { leaves = list; levels = levels (length list) }
