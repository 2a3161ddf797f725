use Rattle.std.proofs.Common.{◌-◌, length, get_or, refl}
use Rattle.indexmap.specs.IndexMap.{get}
use Rattle.el_tx.specs.Hashing.{same_outpoint}
use Rattle.el_mempool.specs.declared.fault.PoolFault.TheVariants as refusal
use Rattle.el_join.proofs.Backward.{one_back, neither}
use Rattle.el_join.proofs.conflicts.conflict_of.Goals as goal

pub loop-number-preserved : goal.loop-number-preserved
loop-number-preserved c = record {
  known = one_back (get same_outpoint c.args.table.now.spenders) c.args.txid c.args.inputs.now c.loop-number.number
      c.index-inputs-inputs.result
      (get_or c.args.inputs.now (length c.args.inputs.now - 1 - c.loop-number.number) c.index-inputs-inputs.result).from
      c.loop-number.first c.or-first.result
      c.conflict_at.result c.loop-number.later.keys c.add_outpoint.new.later.keys c.loop-number-test.true
      refl c.conflict_at.ensures.first c.or-first.ensures
      (λ o. c.in_ok-add_outpoint.ensures o) c.loop-number.invariant.known;
  other = neither c.conflict_at.result c.loop-number.first c.or-first.result refusal.DiskFailed c.or-first.ensures
      c.conflict_at.ensures.other c.loop-number.invariant.other;
}
