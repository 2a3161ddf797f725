-- Block files that have all that a run may ask of them.
use Rattle.std.specs.Prelude.{ℕ, List}
use Rattle.std.specs.List.{AllByRecursion}
use Rattle.el_chain.specs.declared.node.Node.{Node}
use Rattle.el_chain.specs.Records.{block_at, IsBlockOf}
use Rattle.el_methods.specs.Archives.{HasRecords}
use Rattle.el_side.specs.Side.{Side}

-- the block of the node stands at its place, whole
abbrev pub HasBlockOf : (ℕ → List ℕ) → Node → Type 0
HasBlockOf files n = IsBlockOf n (block_at n.place (files n.place.file))

-- The block files have the block of each node that was found, and of each that the last tip line is still to
-- put in, and the records of the chain.
pub record HasAll (side : Side) : Type 0 where
  pub found : AllByRecursion (HasBlockOf side.files) side.found
  pub ahead : AllByRecursion (HasBlockOf side.files) side.ahead
  pub chain : HasRecords side.files side.chain
