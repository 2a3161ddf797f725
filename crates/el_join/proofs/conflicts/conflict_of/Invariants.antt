use Rattle.std.proofs.Common.{◌-◌, length, drop, Some}
use Rattle.std.specs.Prelude.{◌≢◌}
use Rattle.indexmap.specs.IndexMap.{get}
use Rattle.el_tx.specs.Hashing.{same_outpoint}
use Rattle.el_mempool.specs.declared.fault.PoolFault.TheVariants as refusal
use Rattle.el_join.proofs.Backward.{AreKnown}
use Rattle.el_join.proofs.conflicts.conflict_of.Given as goal

-- the last inputs are known
abbrev pub invariant-loop-number : goal.invariant-loop-number
invariant-loop-number l = record {
  known : AreKnown (get same_outpoint l.table.spenders) l.txid (drop (length l.inputs - l.number) l.inputs) l.first
      l.later.keys;
  other : l.first ≢ Some refusal.DiskFailed;
}
