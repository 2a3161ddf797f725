use Rattle.std.proofs.Common.{◌≡◌, ◌≤◌, ◌-◌, length, take, cond, Some}
use Rattle.std.specs.List.{list_any}
use Rattle.indexmap.specs.IndexMap.{get, spare}
use Rattle.el_tx.specs.declared.types.Outpoint.{Outpoint}
use Rattle.el_tx.specs.Hashing.{same_outpoint}
use Rattle.el_kept.specs.Tables.{is_source_of}
use Rattle.el_kept.proofs.putting.set_takers.Given as goal

-- those before have their taker
abbrev pub invariant-loop-source : goal.invariant-loop-source
invariant-loop-source l = record {
  room : length l.inputs - l.source-index ≤ spare l.spenders;
  takers : (o : Outpoint) → get same_outpoint l.spenders o ≡ cond (list_any (is_source_of o) (take l.source-index l.inputs)) (Some l.txid) (get same_outpoint l.initial.spenders o);
}
