use Rattle.std.proofs.Common.{List, refl, sym, ◌∙◌, subst, arith}
use Rattle.std.proofs.lemmas.Result.{err_from_is_err_and}
use Rattle.el_chain.specs.declared.node.Node.{Node}
use Rattle.el_side.specs.Beneath.{beneath, ghosts}
use Rattle.el_sync.specs.Steps.{previous_hash}
use Rattle.el_check_chain.specs.within.Ways.{AreUnderWay}
use Rattle.el_check_chain.proofs.WayLemmas.{empty_left, some_left, linked_to, counts_on, none_made, one_more}
use Rattle.el_check_chain.proofs.leading.move_on.Goals as goal

pub loop-round-init : goal.loop-round-init
loop-round-init g c = record {
  live = c.requires.live;
  nodes = c.requires.nodes;
  linked = c.requires.linked;
  few = omega arith;
  moved = λ side stand. none_made (ghosts g.G.Ledger g.A.Archive) _ _ _ _ side stand;
  beside = λ told. refl;
  still = refl;
}

pub move_next-requires-clause-linked : goal.move_next-requires-clause-linked
move_next-requires-clause-linked g c = λ κs out.
    (previous_hash (g.G.Ledger.tip c.loop-round.ledger), c.loop-round.invariant.linked)

pub move_next-requires-clause-fits : goal.move_next-requires-clause-fits
move_next-requires-clause-fits g c = λ κs out chain stands.
    linked_to _ chain _ (g.met.G.Ledger.tip_is c.loop-round.ledger chain stands) c.loop-round.invariant.linked

pub loop-round-preserved : goal.loop-round-preserved
loop-round-preserved g c = record {
  live = c.in_ok-step.ensures.step.live;
  nodes = c.in_ok-step.ensures.step.nodes;
  linked = c.in_ok-step.ensures.step.linked;
  few = omega (arith, c.moves_told-told.ensures.few, c.loop-round.invariant.few);
  moved = λ side stand.
      let u = c.loop-round.invariant.moved side stand in
      rw c.moves_told-told.ensures.told (one_more (ghosts g.G.Ledger g.A.Archive) c.requires.never_fails side
      c.loop-round.moves (beneath c.args.ledger.now c.args.archive.now)
      (beneath c.loop-round.ledger c.loop-round.archive) (beneath c.move_next.new.ledger c.move_next.new.archive)
      c.loop-round.holdings c.move_next.new.holdings c.loop-round.caches c.move_next.new.caches c.loop-round.left c.in_ok-step.step u
      (some_left c.loop-round.left (sym c.is_empty.ensures ∙ c.if-is_empty.false))
      c.in_ok-step.ensures.tree c.in_ok-step.ensures.magic
      (c.in_ok-step.ensures.moving u.last u.stand.start u.stand.at));
  beside = λ told. c.in_ok-step.ensures.step.beside told ∙ c.loop-round.invariant.beside told;
  still = c.in_ok-step.ensures.step.disk_rose.uncounted ∙ c.loop-round.invariant.still;
}

pub returns-then-is_empty-clause-moved : goal.returns-then-is_empty-clause-moved
returns-then-is_empty-clause-moved g c = λ side stand.
    subst (λ (ns : List Node). AreUnderWay (ghosts g.G.Ledger g.A.Archive)
    (beneath c.args.ledger.now c.args.archive.now) (beneath c.loop-round.ledger c.loop-round.archive)
    c.loop-round.holdings c.loop-round.caches ns side c.loop-round.moves)
    (empty_left c.loop-round.left (sym c.is_empty.ensures ∙ c.if-is_empty.true))
    (c.loop-round.invariant.moved side stand)

pub returns-in_err-step-clause-cause : goal.returns-in_err-step-clause-cause
returns-in_err-step-clause-cause g c =
    counts_on _ _ _ c.from_residual.result c.in_err-step.field-0.0
    (err_from_is_err_and c.from_residual.result c.from_residual.ensures.1) c.loop-round.invariant.still
    c.in_err-step.ensures.step.disk_rose

pub returns-in_err-step-clause-beside : goal.returns-in_err-step-clause-beside
returns-in_err-step-clause-beside g c = λ told.
    c.in_err-step.ensures.step.beside told ∙ c.loop-round.invariant.beside told
