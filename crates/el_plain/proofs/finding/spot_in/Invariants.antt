use Rattle.std.proofs.Common.{◌≡◌, ◌+◌, ◌≤◌, List, drop, length}
use Rattle.std.specs.List.{flat_map}
use Rattle.el_tx.specs.Hashing.{full_encoding}
use Rattle.el_block.specs.declared.limits.TheConstants.{MAX_BLOCK_WEIGHT}
use Rattle.el_chain.specs.declared.coin.Coin.{Coin}
use Rattle.el_chain.specs.History.{positions_in, block_positions}
use Rattle.el_model.proofs.Findings.{found_in}
use Rattle.el_plain.proofs.finding.spot_in.Given as goal

-- where the transactions that are left begin, and what they add to what was found
abbrev pub invariant-loop-pos : goal.invariant-loop-pos
invariant-loop-pos l = record {
  within : l.start + length (flat_map full_encoding (drop l.pos l.placed.block.txs)) ≤ MAX_BLOCK_WEIGHT;
  found : (coins : List Coin) → (mid : List Coin) × (found_in l.placed.place l.id (positions_in l.height l.pos l.start (drop l.pos l.placed.block.txs) mid) l.found
      ≡ found_in l.placed.place l.id (block_positions l.height l.placed.block.txs coins) l.fn.before);
}
