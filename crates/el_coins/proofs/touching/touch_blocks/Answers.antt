use Rattle.std.proofs.Common.{arith}
use Rattle.std.specs.List.{list_any}
use Rattle.el_chain.specs.declared.placed.Placed.{Placed}
use Rattle.el_chain.specs.Touches.{touches}
use Rattle.el_coins.proofs.TouchLemmas.{any_ends}
use Rattle.el_coins.proofs.touching.touch_blocks.Goals as goal

pub returns : goal.returns
returns c = λ coins h s. any_ends (λ (b : Placed). list_any (touches s.0 coins) b.block.txs) c.args.blocks.now c.loop-placed.placed-index _ _
    (let e = c.loop-placed-test.false in omega arith) (c.loop-placed.invariant.each coins h s)
