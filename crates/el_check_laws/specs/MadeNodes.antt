-- What a scan of a made file finds.
use Rattle.std.specs.Prelude.{◌≡◌, ℕ, ◌+◌, ◌≤◌, List, [], ◌∷◌, ◌++◌, length, ⊤}
use Rattle.el_base.specs.declared.hash.Hash32.{Hash32}
use Rattle.el_block.specs.Blocks.{block_encoding, block_hash}
use Rattle.el_block.specs.declared.block.Block.{Block}
use Rattle.el_chain.specs.Headers.{IsPath}
use Rattle.el_chain.specs.Records.{block_at}
use Rattle.el_chain.specs.declared.node.Node.{Node}
use Rattle.el_gen.specs.MadeFile.{made_file, first_branch, side_branch}

-- The node is the block's, whose bytes stand at its place of file 0, which begins with these.
pub record IsNodeOf (bytes : List ℕ) (b : Block) (n : Node) : Type 0 where
  pub hash : n.hash ≡ block_hash b.header
  pub header : n.header ≡ b.header
  pub file : n.place.file ≡ 0
  pub len : n.place.len ≡ length (block_encoding b)
  pub text : block_at n.place bytes ≡ block_encoding b
  pub within : n.place.offset + 8 + n.place.len ≤ length bytes

-- these nodes are those of the blocks, in the same order
abbrev pub AreNodesOf : List ℕ → List Block → List Node → Type 0
AreNodesOf bytes [] [] = ⊤
AreNodesOf bytes (b ∷ bs) (n ∷ ns) = IsNodeOf bytes b n × AreNodesOf bytes bs ns
AreNodesOf bytes [] (n ∷ ns) = ⊥
AreNodesOf bytes (b ∷ bs) [] = ⊥

-- The nodes are those of the made blocks, in the order of the made file, and then whatever others.
pub record BeginAsMade (count : ℕ) (nodes : List Node) : Type 0 where
  pub first : List Node
  pub side : List Node
  pub others : List Node
  pub whole : nodes ≡ first ++ (side ++ others)
  pub first_are : AreNodesOf (made_file count) (first_branch count) first
  pub side_are : AreNodesOf (made_file count) (side_branch count) side

-- The path leads to the hash over found nodes, and no other does.
pub record LeadsAlone (found : List Node) (h : Hash32) (path : List Node) : Type 0 where
  pub is_path : IsPath found h path
  pub alone : (other : List Node) → IsPath found h other → other ≡ path
