use Rattle.std.proofs.Common.{drop}
use Rattle.indexmap.specs.IndexMap.{get}
use Rattle.el_tx.specs.Hashing.{same_outpoint}
use Rattle.el_kept.specs.Tables.{slot}
use Rattle.el_join.specs.within.Going.{size, Gathers}
use Rattle.el_join.proofs.removing.gather.Given as goal

-- those before were looked at
abbrev pub invariant-loop-number : goal.invariant-loop-number
invariant-loop-number l = Gathers (get same_outpoint l.table.spenders) (λ id. size (slot l.table id)) l.txid (drop l.number l.gone) l.gone
