-- Block files that give an index the blocks of its own chain.
use Rattle.std.specs.Prelude.{◌≡◌, ℕ, List}
use Rattle.el_block.specs.Blocks.{EncodesBlock}
use Rattle.el_chain.specs.declared.node.Node.{Node}
use Rattle.el_chain.specs.declared.placed.Placed.{Placed}
use Rattle.el_chain.specs.Records.{IsBlockOf}

-- Whatever stood at the node's place encodes the block, which stands there, and begins with the node's
-- header.
pub record GivesBlock (stood : Node → List ℕ → Type 0) (n : Node) (b : Placed) : Type 0 where
  pub place : n.place ≡ b.place
  pub reads : (text : List ℕ) → stood n text → IsBlockOf n text × EncodesBlock text b.block
