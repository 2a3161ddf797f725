use Rattle.indexmap.specs.IndexMap.{get}
use Rattle.el_tx.specs.Hashing.{same_outpoint}
use Rattle.el_join.specs.within.Going.{TakersAdded}
use Rattle.el_join.proofs.removing.add_takers.Given as goal

-- the takers of the outputs so far were added
abbrev pub invariant-loop-index : goal.invariant-loop-index
invariant-loop-index l = TakersAdded (get same_outpoint l.table.spenders) l.id l.index l.initial.gone l.gone
