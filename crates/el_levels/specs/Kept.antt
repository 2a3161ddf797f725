-- What is kept for header proofs, and of which block hashes it is.
use Rattle.std.specs.Prelude.{◌≡◌, ℕ, ◌+◌, ◌-◌, ◌*◌, ◌/◌, min, nat_lt, if◌then◌else◌, List, length, map, take, drop, Option, IfSome, IsSomeAnd}
use Rattle.el_base.specs.declared.hash.Hash32.{Hash32}
use Rattle.el_merkle.specs.Merkle.{levels}
use Rattle.el_block.specs.Blocks.{block_hash}
use Rattle.el_chain.specs.declared.placed.Placed.{Placed}
use Rattle.el_chain.specs.Chains.{Chain}
use Rattle.el_levels.specs.declared.groups.TheConstants.{GROUP, LEVELS}
use Rattle.el_levels.specs.declared.kept.GroupTree.{GroupTree}
use Rattle.el_levels.specs.declared.kept.AboveTree.{AboveTree}
use Rattle.el_levels.specs.Groups.{lifted_groups, group_roots}
use Rattle.el_levels.specs.Trees.{whole_tree}

-- the hashes of a chain's blocks
abbrev pub block_hashes : Chain → List Hash32
block_hashes chain = map (λ (b : Placed). block_hash b.block.header) chain

-- Through how many levels the tree of a group goes among so many hashes: 11, or up to the root of all where
-- these are fewer than a full group.
abbrev pub group_levels : ℕ → ℕ
group_levels n = if nat_lt n GROUP then levels n else LEVELS

-- the tree is that of the group with this number among so many hashes
pub record IsGroupTreeOf (tree : GroupTree) (n number : ℕ) : Type 0 where
  pub first : tree.first ≡ GROUP * number
  pub count : length tree.tree.leaves ≡ min GROUP (n - GROUP * number)
  pub levels : tree.tree.levels ≡ group_levels n

-- the hashes at the tree's foot are those that stand from its first height on
abbrev pub IsGroupOf : List Hash32 → GroupTree → Type 0
IsGroupOf hashes group = group.tree.leaves ≡ take (length group.tree.leaves) (drop group.first hashes)

-- the tree stands above the groups of the hashes up to its checkpoint
abbrev pub IsAboveOf : List Hash32 → AboveTree → Type 0
IsAboveOf hashes above =
    above.tree ≡ whole_tree (lifted_groups (group_levels (above.upto + 1)) (take (above.upto + 1) hashes))

-- What is kept: the roots of full groups, the tree of the group that was used last, and the tree above groups
-- that was used last.
pub record KeptTrees : Type 0 where
  pub roots : List Hash32
  pub group : Option GroupTree
  pub above : Option AboveTree

-- all that is kept is of these block hashes, the root of each full group among them
pub record IsKeptOf (hashes : List Hash32) (kept : KeptTrees) : Type 0 where
  pub roots : kept.roots ≡ group_roots hashes
  pub group : IfSome kept.group (IsGroupOf hashes)
  pub above : IfSome kept.above (IsAboveOf hashes)

-- both trees of a proof of that height up to that checkpoint are kept
pub record HasTrees (kept : KeptTrees) (height upto : ℕ) : Type 0 where
  pub group : IsSomeAnd kept.group (λ (g : GroupTree). IsGroupTreeOf g (upto + 1) (height / GROUP))
  pub above : IsSomeAnd kept.above (λ (a : AboveTree). a.upto ≡ upto)
