use Rattle.std.proofs.Common.{ℕ, ◌+◌, ◌-◌, length, refl, sym, ap, ◌∙◌, Err}
use Rattle.std.proofs.lemmas.Result.{err_from_is_err_and}
use Rattle.el_chain.specs.Moves.{StoodAt}
use Rattle.el_index.proofs.Kept.{lifted, quiet, blocks_in_top}
use Rattle.el_index.specs.Means.{top}
use Rattle.el_model.specs.Queries.{blocks_in}
use Rattle.el_index.proofs.Targets.{same_fault, flies, touched_once}
use Rattle.el_index.proofs.ledger_impl.IndexLedger.go.Goals as goal

pub returns-in_err-tip-clause-crash_failed : goal.returns-in_err-tip-clause-crash_failed
returns-in_err-tip-clause-crash_failed g c chain stands failed =
    let r = g.R.Rows in
    let a = g.A.Archive in
    let p = err_from_is_err_and c.from_residual-in_err-tip.result c.from_residual-in_err-tip.ensures.1 in
    let flight = rw c.as_slice-2.ensures.value at c.in_err-tip.ensures.crash_failed chain stands.told stands.stand (c.requires.fits chain stands) (ap Err (same_fault c.from_residual-in_err-tip.result c.in_err-tip.field-0.0 _ (p.1 ∙ ap Err p.2) failed)) in (
      flight.0,
      flies (StoodAt a (a.bytes c.args.archive.now) (a.bytes c.read_all.new.archive)) chain c.args.plan.now c.in_ok-texts.texts.items flight.0 (rw c.as_slice.ensures at c.in_ok-texts.ensures.read) flight.1,
      λ crash. lifted r.moment r.left_since (λ l. l.rows) c.args.self.now _ c.change.new.self.rows _ refl (flight.2 crash),
    )

-- the move is made
pub returns-clause-moved : goal.returns-clause-moved
returns-clause-moved g c chain stands =
    let r = g.R.Rows in
    let p = c.args.plan.now in
    let moved = rw c.as_slice-2.ensures.value at c.in_ok-tip.ensures.moved chain stands.told stands.stand (c.requires.fits chain stands) in (
      moved.0,
      record { texts = c.in_ok-texts.texts.items; read = rw c.as_slice.ensures at c.in_ok-texts.ensures.read; blocks_are = moved.1.next },
      record { told = stands.told; stand = moved.1.stand; last = moved.2 },
      touched_once (r.heads c.change.new.self.rows) p chain c.in_ok-texts.texts.items c.change.new.touched _ moved.0 moved.1 c.list-listed.ensures.once,
      λ crash. lifted r.moment r.left_since (λ l. l.rows) c.args.self.now _ c.change.new.self.rows _ refl (moved.3 crash),
    )

-- the height goes by the numbers of blocks
pub returns-clause-top : goal.returns-clause-top
returns-clause-top g c =
    let p = c.args.plan.now in
    ap blocks_in (c.top_of.ensures ∙ ap top c.count.ensures.count) ∙ blocks_in_top _ ∙ c.in_ok-tip.ensures.top
    ∙ ap (λ (n : ℕ). (n - p.back) + length p.forward) (sym (blocks_in_top _))

-- no move was made, and rows were read at most
pub returns-in_err-tip-clause-unchanged : goal.returns-in_err-tip-clause-unchanged
returns-in_err-tip-clause-unchanged g c =
    let r = g.R.Rows in
    let p = err_from_is_err_and c.from_residual-in_err-tip.result c.from_residual-in_err-tip.ensures.1 in
    rw (p.1 ∙ ap Err p.2) (λ other. quiet r (λ l. l.rows) (λ l. l.tip) c.args.self.now c.change.new.self c.change.new.self.rows refl
    c.in_err-tip.ensures.kept c.requires.live (c.in_err-tip.ensures.unchanged other))
