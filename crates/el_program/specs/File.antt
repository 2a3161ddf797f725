-- The chain of file 0, whose blocks are read one after the other.
use Rattle.std.specs.Prelude.{◌≡◌, ℕ, List, [], ◌∷◌, ◌++◌}
use Rattle.el_outside.specs.Files.{Grows}
use Rattle.el_block.specs.declared.block.Block.{Block}
use Rattle.el_block.specs.Blocks.{EncodesBlock}
use Rattle.el_chain.specs.Chains.{Chain}
use Rattle.el_chain.specs.Faults.{IsNext}
use Rattle.el_chain.specs.Moves.{AreNextBlocks, AreRead, Moves}
use Rattle.el_chain.specs.Records.{GivesChain, IsBlockOf}
use Rattle.el_chain.specs.declared.node.Node.{Node}

-- the chain is what a move from no blocks leads to, which puts in the blocks of these nodes
abbrev pub IsChainOf : (Node → List ℕ → Type 0) → List Node → Chain → Type 0
IsChainOf stood nodes chain = Moves stood [] (record { back = 0; forward = nodes }) chain

-- A block of these nodes can't stand after those before it: the bytes that stood at its place are not those
-- of its node, or they encode no block, or one that may not stand there.
pub record HasBadBlock (stood : Node → List ℕ → Type 0) (nodes : List Node) : Type 0 where
  pub front : List Node
  pub node : Node
  pub after : List Node
  pub whole : nodes ≡ front ++ node ∷ after
  pub texts : List (List ℕ)
  pub read : AreRead stood front texts
  pub blocks : Chain
  pub before : AreNextBlocks [] front texts blocks
  pub text : List ℕ
  pub told : stood node text
  pub bad : (b : Block) → IsBlockOf node text → EncodesBlock text b → IsNext blocks b → ⊥

-- no chain is given by the file: its records, in order, are no good chain
abbrev pub GivesNoChain : List ℕ → List ℕ → Type 0
GivesNoChain magic file = (chain : Chain) → GivesChain magic 0 file chain → ⊥

-- file 0 had these bytes at a moment between
pub record WasFile (before after : ℕ → List ℕ) (file : List ℕ) : Type 0 where
  pub grew : Grows (before 0) file
  pub grows : Grows file (after 0)
