use Rattle.std.proofs.Common.{◌≡◌, drop}
use Rattle.std.specs.List.{list_any}
use Rattle.std.specs.Option.{is_some}
use Rattle.indexmap.specs.IndexMap.{get}
use Rattle.el_tx.specs.Hashing.{same_outpoint}
use Rattle.el_mempool.specs.declared.held.Source.{Source}
use Rattle.el_kept.proofs.putting.any_taken.Given as goal

abbrev pub invariant-loop-source : goal.invariant-loop-source
invariant-loop-source l = list_any (λ (s : Source). is_some (get same_outpoint l.table.spenders s.from)) l.inputs
    ≡ list_any (λ (s : Source). is_some (get same_outpoint l.table.spenders s.from)) (drop l.source-index l.inputs)
