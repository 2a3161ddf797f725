use Rattle.el_prepare.proofs.BatchLemmas.{one_block_more, stops_by}
use Rattle.el_prepare.proofs.batch.prepare_each.Goals as goal

pub returns-in-Err : goal.returns-in-Err
returns-in-Err c =
    stops_by (λ v. v.0.items) (λ v. v.1) c.args.texts.now c.loop-text.text-index c.text-item.result c.loop-text.list.items c.in-Err.fault c.stopped.result c.loop-text-test.true c.text-item.is
    c.loop-text.invariant (rw c.as_slice.ensures at c.in-Err.ensures.fault) c.stopped.ensures

pub loop-text-preserved : goal.loop-text-preserved
loop-text-preserved c =
    rw c.in_ok-push-in-Ok.ensures.items
    (one_block_more c.args.texts.now c.loop-text.text-index c.text-item.result c.loop-text.list.items c.in-Ok.prepared c.loop-text-test.true c.text-item.is c.loop-text.invariant
    (rw c.as_slice.ensures at c.in-Ok.ensures.read))
