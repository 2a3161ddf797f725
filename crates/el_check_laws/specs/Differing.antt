-- Which hashes of a made file have to differ, so that an index can be led over both of its branches.
use Rattle.std.specs.Prelude.{◌≢◌, ◌≤◌, ℕ, List, ◌∷◌, ◌++◌, map, flat_map}
use Rattle.sha2.specs.Sha256.{sha256}
use Rattle.el_base.specs.declared.hash.Hash32.{Hash32}
use Rattle.el_block.specs.Blocks.{AllDiffer, block_hash, txids}
use Rattle.el_block.specs.declared.block.Block.{Block}
use Rattle.el_chain.specs.Chains.{Chain, zero_hash}
use Rattle.el_chain.specs.declared.placed.Placed.{Placed}
use Rattle.el_gen.specs.Generated.{locking_script}
use Rattle.el_gen.specs.MadeFile.{first_branch, fork, side_branch}

-- the blocks of a chain, without their places
abbrev pub blocks_of : Chain → List Block
blocks_of chain = map (λ (b : Placed). b.block) chain

-- the hashes of blocks
abbrev pub hashes_of_blocks : List Block → List Hash32
hashes_of_blocks blocks = map (λ (b : Block). block_hash b.header) blocks

-- the txids of all transactions of blocks, in their order
abbrev pub txids_of : List Block → List Hash32
txids_of blocks = flat_map (λ (b : Block). txids b.txs) blocks

-- In the made file of so many blocks the hashes of all blocks differ from each other and from the zero hash;
-- the txids of a branch differ, and so do those of the side branch's chain from its genesis on; and the
-- script of 100 has another script hash than the other scripts, which are those of 0 to 99 and of 101.
pub record HashesDiffer (count : ℕ) : Type 0 where
  pub blocks : AllDiffer (zero_hash ∷ hashes_of_blocks (first_branch count ++ side_branch count))
  pub first_txs : AllDiffer (txids_of (first_branch count))
  pub side_txs : AllDiffer (txids_of (first_branch (fork count) ++ side_branch count))
  pub scripts : (k : ℕ) → k ≤ 101 → k ≢ 100 → sha256 (locking_script k) ≢ sha256 (locking_script 100)
