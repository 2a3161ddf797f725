use Rattle.std.proofs.Common.{arith}
use Rattle.std.specs.List.{list_any}
use Rattle.el_chain.specs.declared.placed.Placed.{Placed}
use Rattle.el_chain.specs.History.{funds}
use Rattle.el_chain.proofs.TouchLemmas.{any_step}
use Rattle.el_audit.specs.within.Lists.{is_in_set}
use Rattle.el_audit.proofs.Walks.{any_ends}
use Rattle.el_audit.proofs.scripts.gather.Goals as goal

pub loop-placed-preserved : goal.loop-placed-preserved
loop-placed-preserved c = λ s. any_step (λ (b : Placed). list_any (funds s.0) b.block.txs) c.args.chain.now c.loop-placed.placed-index c.placed-item.result _
    (is_in_set c.loop-placed.scripts s) _ _ c.loop-placed-test.true c.placed-item.is (c.loop-placed.invariant s)
    (rw c.as_slice.ensures at (c.in_ok-add_txs.ensures s))

pub returns : goal.returns
returns c = λ s. any_ends (λ (b : Placed). list_any (funds s.0) b.block.txs) c.args.chain.now c.loop-placed.placed-index _ _
    (let e = c.loop-placed-test.false in omega arith) (c.loop-placed.invariant s)
