use Rattle.indexmap.specs.IndexMap.{get}
use Rattle.el_tx.specs.Hashing.{same_outpoint}
use Rattle.el_kept.proofs.Cleared.{freed_step}
use Rattle.el_kept.proofs.taking.free_takers.Goals as goal

pub loop-source-preserved : goal.loop-source-preserved
loop-source-preserved c = λ o.
    freed_step o c.args.inputs.now c.loop-source.source-index _ (get same_outpoint c.free_taker.new.spenders o) (get same_outpoint c.loop-source.spenders o) (get same_outpoint c.args.spenders.now o)
    c.loop-source-test.true (c.free_taker.ensures o) (c.loop-source.invariant o)
