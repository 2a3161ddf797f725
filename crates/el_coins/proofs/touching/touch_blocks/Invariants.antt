use Rattle.std.proofs.Common.{◌≡◌, ◌||◌, drop}
use Rattle.std.specs.List.{list_any, AllByRecursion}
use Rattle.el_chain.specs.declared.placed.Placed.{Placed}
use Rattle.el_chain.specs.Headers.{same_hash}
use Rattle.el_chain.specs.Touches.{touches}
use Rattle.el_coins.specs.CoinTables.{HasFitting}
use Rattle.el_coins.specs.Touching.{IfCoins}
use Rattle.el_coins.proofs.touching.touch_blocks.Given as goal

abbrev pub invariant-loop-placed : goal.invariant-loop-placed
invariant-loop-placed l = record { fit : AllByRecursion HasFitting (drop l.placed-index l.blocks); each : IfCoins l.base (λ coins s. (list_any (same_hash s) l.touched || list_any (λ (b : Placed). list_any (touches s.0 coins) b.block.txs) (drop l.placed-index l.blocks)) ≡ (list_any (same_hash s) l.initial.touched || list_any (λ (b : Placed). list_any (touches s.0 coins) b.block.txs) l.blocks)) }
