-- What one block touches.
use Rattle.std.specs.Prelude.{Bool, length}
use Rattle.std.specs.List.{list_any}
use Rattle.el_base.specs.declared.hash.Hash32.{Hash32}
use Rattle.el_chain.specs.Chains.{Chain}
use Rattle.el_chain.specs.Coins.{coins}
use Rattle.el_chain.specs.History.{Position, block_positions}
use Rattle.el_chain.specs.Touches.{touches}
use Rattle.el_chain.specs.declared.placed.Placed.{Placed}

-- a transaction of the block after the chain touches the script hash, by the coins that stand before it
abbrev pub touched_in : Hash32 → Chain → Placed → Bool
touched_in s chain b =
    list_any (λ (p : Position). touches s.0 p.before p.tx)
    (block_positions (length chain) b.block.txs (coins chain))
