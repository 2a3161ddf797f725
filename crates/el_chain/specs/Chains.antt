-- Chains of blocks with their places in the node's files. Hashes stand in inner order, the order in which
-- SHA-256 gives their bytes; users see the reverse.
use Rattle.std.specs.Prelude.{List, [], ◌∷◌, replicate}
use Rattle.el_base.specs.declared.hash.Hash32.{Hash32}
use Rattle.el_block.specs.Blocks.{block_hash}
use Rattle.el_chain.specs.declared.placed.Placed.{Placed}

-- a chain of blocks, each with its place, the genesis first
abbrev pub Chain : Type 0
Chain = List Placed

-- the hash that the genesis block names as the one before: 32 bytes 0
abbrev pub zero_hash : Hash32
zero_hash = record { 0 = replicate 32 0 }

-- the hash of the last block of some that stand after a block with that hash; of none it is that hash
abbrev pub tip_after : Hash32 → Chain → Hash32
tip_after before [] = before
tip_after before (b ∷ bs) = tip_after (block_hash b.block.header) bs

-- the hash of the last block, which a block that extends the chain names; of no blocks the zero hash
abbrev pub tip : Chain → Hash32
tip chain = tip_after zero_hash chain
