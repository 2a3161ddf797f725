-- What the program knows before the first arrival.
use Rattle.std.specs.Prelude.{◌≡◌, ℕ, Bool, true, List, [], ◌∷◌, map}
use Rattle.std.specs.List.{AllByRecursion}
use Rattle.el_outside.specs.declared.archive.Archive as block_files
use Rattle.el_outside.specs.declared.archive.TheConstants.{MOST_FILES}
use Rattle.el_outside.specs.Files.{AllGrow}
use Rattle.el_block.specs.Blocks.{block_hash}
use Rattle.el_chain.specs.declared.node.Node.{Node}
use Rattle.el_chain.specs.declared.placed.Placed.{Placed}
use Rattle.el_chain.specs.Chains.{Chain}
use Rattle.el_chain.specs.Faults.{IsGood}
use Rattle.el_chain.specs.Headers.{added}
use Rattle.el_chain.specs.Moves.{StoodAt}
use Rattle.el_chain.specs.Records.{IsNode}
use Rattle.el_files.specs.Scanning.{AllScanned, IsFoundIn, IsFoundBelow, WasScanned}
use Rattle.el_program.specs.File.{IsChainOf}

-- the nodes that are found once these were added, in their order, to those found before
abbrev pub all_added : List Node → List Node → List Node
all_added found [] = found
all_added found (n ∷ ns) = all_added (added found n) ns

-- what is known of a block of a chain: its hash, its header, and the place of its record
abbrev pub node_of_block : Placed → Node
node_of_block b = record { hash = block_hash b.block.header; header = b.block.header; place = b.place }

-- the nodes of the chain's blocks, in their order
abbrev pub nodes_of_chain : Chain → List Node
nodes_of_chain chain = map node_of_block chain

-- The chain that an index has, as far as that is sure: where it isn't, the index may stand for no chain, and
-- this one is a name that says nothing.
pub record IndexChain : Type 0 where
  pub sure : Bool
  pub chain : Chain

-- a chain that the index surely has
abbrev pub certain : Chain → IndexChain
certain chain = record { sure = true; chain = chain }

-- The headers that an index tells: where its chain is sure, they are those of its blocks.
pub record AreHeaders (index : IndexChain) (headers : List Node) : Type 0 where
  pub each : AllByRecursion IsNode headers
  pub of_chain : index.sure ≡ true → headers ≡ nodes_of_chain index.chain

-- The nodes are those of all records of all block files, each file up to the size that was told of it, in the
-- order of their places. Whatever the files tell, the head of each node's record was read from one of them.
-- `now` is the archive after that scan.
pub record IsScanned {A : Type 0} (of_files : block_files.Ghosts A) (magic : List ℕ) (before now : A)
    (nodes : List Node) : Type 0 where
  pub each : AllByRecursion IsNode nodes
  pub read : AllByRecursion (IsFoundBelow of_files.gave magic MOST_FILES) nodes
  pub of_all : of_files.tells
      → AllScanned of_files (of_files.bytes before) (of_files.bytes now) magic nodes
  pub keeps : of_files.tells → AllGrow (of_files.bytes before) (of_files.bytes now)

-- The nodes are those of the records of file 0, up to the size that was told of it, and their blocks are the
-- chain. Whatever the file tells, the head of each node's record was read from it. `before`, `scanned` and
-- `now` are the bytes of the block files before the scan, after it, and once the blocks are read.
pub record IsRead {A : Type 0} (of_files : block_files.Ghosts A) (before now : ℕ → List ℕ) (magic : List ℕ)
    (nodes : List Node) (chain : Chain) : Type 0 where
  pub each : AllByRecursion IsNode nodes
  pub read : AllByRecursion (IsFoundIn of_files.gave magic 0) nodes
  pub good : IsGood chain
  pub scanned : ℕ → List ℕ
  pub of_file : of_files.tells → WasScanned of_files before scanned magic 0 nodes
  pub grows : of_files.tells → AllGrow scanned now
  pub blocks : IsChainOf (StoodAt of_files scanned now) nodes chain
  pub keeps : of_files.tells → AllGrow before now
