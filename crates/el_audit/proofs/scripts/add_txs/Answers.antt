use Rattle.std.proofs.Common.{arith}
use Rattle.el_chain.specs.History.{funds}
use Rattle.el_chain.proofs.TouchLemmas.{any_step}
use Rattle.el_audit.specs.within.Lists.{is_in_set}
use Rattle.el_audit.proofs.Walks.{any_ends}
use Rattle.el_audit.proofs.scripts.add_txs.Goals as goal

pub loop-tx-preserved : goal.loop-tx-preserved
loop-tx-preserved c = λ s. any_step (funds s.0) c.args.txs.now c.loop-tx.tx-index c.tx-item.result _
    (is_in_set c.loop-tx.scripts s) _ _ c.loop-tx-test.true c.tx-item.is (c.loop-tx.invariant s)
    (rw c.as_slice.ensures at (c.in_ok-add_outputs.ensures s))

pub returns : goal.returns
returns c = λ s. any_ends (funds s.0) c.args.txs.now c.loop-tx.tx-index _ _
    (let e = c.loop-tx-test.false in omega arith) (c.loop-tx.invariant s)
