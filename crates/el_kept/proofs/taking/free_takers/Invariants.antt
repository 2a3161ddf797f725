use Rattle.std.proofs.Common.{◌≡◌, take, cond, None}
use Rattle.std.specs.List.{list_any}
use Rattle.indexmap.specs.IndexMap.{get}
use Rattle.el_tx.specs.declared.types.Outpoint.{Outpoint}
use Rattle.el_tx.specs.Hashing.{same_outpoint}
use Rattle.el_kept.specs.Tables.{is_source_of}
use Rattle.el_kept.proofs.taking.free_takers.Given as goal

-- what those before took is free
abbrev pub invariant-loop-source : goal.invariant-loop-source
invariant-loop-source l = (o : Outpoint) → get same_outpoint l.spenders o ≡ cond (list_any (is_source_of o) (take l.source-index l.inputs)) None (get same_outpoint l.initial.spenders o)
