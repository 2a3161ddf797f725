use Rattle.std.proofs.Common.{◌∙◌, ap}
use Rattle.indexmap.specs.IndexMap.{get}
use Rattle.el_tx.specs.Hashing.{same_outpoint}
use Rattle.el_join.specs.within.Going.{with_taker}
use Rattle.el_join.proofs.Gathered.{grown_more}
use Rattle.el_join.proofs.removing.add_takers.Goals as goal

pub loop-index-preserved : goal.loop-index-preserved
loop-index-preserved c =
    grown_more (get same_outpoint c.args.table.now.spenders) c.args.id.now c.loop-index.index c.args.gone.now c.loop-index.gone c.add_taker.new.gone c.loop-index.invariant
    (c.in_ok-add_taker.ensures ∙ ap (λ t. with_taker t c.loop-index.gone) c.taker_in-by.ensures)
