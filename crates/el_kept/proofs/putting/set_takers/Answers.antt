use Rattle.std.proofs.Common.{arith}
use Rattle.indexmap.specs.IndexMap.{get}
use Rattle.el_tx.specs.Hashing.{same_outpoint}
use Rattle.el_kept.proofs.Slots.{takers_step}
use Rattle.el_kept.proofs.putting.set_takers.Goals as goal

pub loop-source-preserved : goal.loop-source-preserved
loop-source-preserved c = record {
  room = (let before = c.loop-source.invariant.room in let less = c.set_taker.ensures.room in let lt = c.loop-source-test.true in omega arith);
  takers = λ o. takers_step o c.args.inputs.now c.loop-source.source-index _ (get same_outpoint c.set_taker.new.spenders o) (get same_outpoint c.loop-source.spenders o) (get same_outpoint c.args.spenders.now o)
      c.args.txid c.loop-source-test.true (c.set_taker.ensures.taker o) (c.loop-source.invariant.takers o);
}
