-- What a chain and a path have in common from the first block on, and when that is all that they have in
-- common.
use Rattle.std.specs.Prelude.{◌≡◌, ℕ, suc, if◌then◌else◌, List, [], ◌∷◌, Some, slice_get, ⊤}
use Rattle.el_base.specs.declared.hash.Hash32.{Hash32}
use Rattle.el_block.specs.Blocks.{block_hash}
use Rattle.el_chain.specs.declared.node.Node.{Node}
use Rattle.el_chain.specs.declared.placed.Placed.{Placed}
use Rattle.el_chain.specs.Chains.{Chain}
use Rattle.el_chain.specs.Headers.{same_hash}

-- how many blocks the longest common prefix has; blocks are compared by hash
abbrev pub prefix : Chain → List Node → ℕ
prefix [] path = 0
prefix (b ∷ bs) [] = 0
prefix (b ∷ bs) (n ∷ ns) = if same_hash (block_hash b.block.header) n.hash then suc (prefix bs ns) else 0

-- each block names the one before it in its header, and the first of them the given hash
abbrev pub AreChained : Hash32 → Chain → Type 0
AreChained before [] = ⊤
AreChained before (b ∷ bs) = (b.block.header.previous ≡ before) × AreChained (block_hash b.block.header) bs

-- no header of the chain and other header of the path, at the same height, have one hash
abbrev pub HaveNoCollision : Chain → List Node → Type 0
HaveNoCollision chain path =
    (height : ℕ) (b : Placed) (n : Node) → slice_get chain height ≡ Some b → slice_get path height ≡ Some n
    → block_hash b.block.header ≡ n.hash → b.block.header ≡ n.header
