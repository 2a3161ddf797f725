-- Blocks whose places and sizes fit their fields.
use Rattle.std.specs.Prelude.{◌≤◌, length, ◌+◌}
use Rattle.std.specs.List.{flat_map, AllByRecursion}
use Rattle.el_tx.specs.declared.types.Tx.{Tx}
use Rattle.el_tx.specs.Hashing.{full_encoding}
use Rattle.el_block.specs.declared.limits.TheConstants.{MAX_BLOCK_WEIGHT}
use Rattle.el_block.specs.Blocks.{first_start}
use Rattle.el_chain.specs.declared.placed.Placed.{Placed}

-- The block has no more transactions, and its transactions end no later, than a block weighs.
pub record IsLight (b : Placed) : Type 0 where
  pub few : length b.block.txs ≤ MAX_BLOCK_WEIGHT
  pub ends : first_start b.block.txs + length (flat_map full_encoding b.block.txs) ≤ MAX_BLOCK_WEIGHT

-- the transaction has no more outputs than a block weighs
abbrev pub HasFewOutputs : Tx → Type 0
HasFewOutputs t = length t.outputs ≤ MAX_BLOCK_WEIGHT

-- no transaction of the block has more outputs than a block weighs
abbrev pub HaveFewOutputs : Placed → Type 0
HaveFewOutputs b = AllByRecursion HasFewOutputs b.block.txs
