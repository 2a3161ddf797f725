use Rattle.std.proofs.Common.{◌≡◌, ◌++◌, map, drop}
use Rattle.el_chain.specs.declared.placed.Placed.{Placed}
use Rattle.el_block.specs.Blocks.{block_hash}
use Rattle.el_plain.proofs.plain_calls.hashes_of.Given as goal

abbrev pub invariant-loop-placed : goal.invariant-loop-placed
invariant-loop-placed l = l.found.items ++ map (λ (b : Placed). block_hash b.block.header) (drop l.placed-index l.blocks) ≡ map (λ (b : Placed). block_hash b.block.header) l.blocks
