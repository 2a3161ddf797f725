use Rattle.std.proofs.Common.{◌∙◌, sym}
use Rattle.indexmap.specs.IndexMap.{get}
use Rattle.el_tx.specs.Hashing.{same_outpoint}
use Rattle.el_kept.specs.Tables.{slot}
use Rattle.el_join.specs.within.Going.{size}
use Rattle.el_join.proofs.Gathered.{gathers_more, gathers_all}
use Rattle.el_join.proofs.removing.gather.Goals as goal

pub returns-in-None : goal.returns-in-None
returns-in-None c =
    gathers_all (get same_outpoint c.args.table.now.spenders) (λ id. size (slot c.args.table.now id)) c.args.txid.now c.loop-number.number c.loop-number.gone c.loop-number.invariant
    (sym c.at.ensures ∙ c.in-None.is)

pub loop-number-preserved : goal.loop-number-preserved
loop-number-preserved c =
    gathers_more (get same_outpoint c.args.table.now.spenders) (λ id. size (slot c.args.table.now id)) c.args.txid.now c.in-Some.id c.loop-number.number c.loop-number.gone c.add_takers.new.gone
    c.loop-number.invariant (sym c.at.ensures ∙ c.in-Some.is) c.in_ok-add_takers-in-Some.ensures
