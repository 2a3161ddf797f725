use Rattle.std.proofs.Common.{◌≡◌, Some, refl, sym, ◌∙◌}
use Rattle.std.proofs.lemmas.Result.{err_from_is_err_and}
use Rattle.el_model.specs.Queries.{tip_of}
use Rattle.el_side.specs.Beneath.{beneath, ghosts}
use Rattle.el_check_chain.proofs.WayLemmas.{counts_on, ends_there, ends_elsewhere, line_from, is_there, line_led}
use Rattle.el_check_chain.proofs.leading.lead.Goals as goal

pub returns-then-ends_in-clause-led : goal.returns-then-ends_in-clause-led
returns-then-ends_in-clause-led g c = λ side stand.
    is_there (ghosts g.G.Ledger g.A.Archive) _ _ _ side c.args.tip stand
    (sym (g.met.G.Ledger.tip_is c.args.ledger.now side.chain (stand.at.stood stand.sure))
    ∙ ends_there _ c.args.tip (sym c.ends_in.ensures ∙ c.if-ends_in.true))

pub move_on-requires-clause-nodes : goal.move_on-requires-clause-nodes
move_on-requires-clause-nodes g c = λ κs out. c.in_ok-step.ensures.step.nodes

pub move_on-requires-clause-linked : goal.move_on-requires-clause-linked
move_on-requires-clause-linked g c = λ κs out. c.in_ok-step.ensures.step.linked

pub returns-clause-led : goal.returns-clause-led
returns-clause-led g c = λ side stand.
    let of = ghosts g.G.Ledger g.A.Archive in
    let away : tip_of side.chain ≡ Some c.args.tip → ⊥ = λ e. ends_elsewhere _ c.args.tip
    (sym c.ends_in.ensures ∙ c.if-ends_in.false) (g.met.G.Ledger.tip_is c.args.ledger.now side.chain (stand.at.stood stand.sure) ∙ e) in
    let l = rw c.in_ok-text.ensures at (c.in_ok-step.ensures.node side stand.start stand.at
    (line_from of _ _ _ side stand)) in
    rw c.moves_told-told.ensures.told (line_led of c.requires.never_fails side c.args.tip stand.start
    (beneath c.args.ledger.now c.args.archive.now) (beneath c.order.new.ledger c.order.new.archive)
    (beneath c.move_on.new.ledger c.move_on.new.archive) c.args.holdings.now c.order.new.holdings
    c.move_on.new.holdings c.order.new.caches c.move_on.new.caches c.in_ok-step.step c.in_ok-later.later stand.sure stand.magic c.in_ok-step.ensures.magic away l
    (λ mid s. c.in_ok-later.ensures.moved mid s))

pub returns-clause-beside : goal.returns-clause-beside
returns-clause-beside g c = λ told.
    c.in_ok-later.ensures.beside told ∙ c.in_ok-step.ensures.step.beside told

pub returns-in_err-step-clause-cause : goal.returns-in_err-step-clause-cause
returns-in_err-step-clause-cause g c =
    counts_on _ _ _ c.from_residual-in_err-step.result c.in_err-step.field-0.0
    (err_from_is_err_and c.from_residual-in_err-step.result c.from_residual-in_err-step.ensures.1) refl
    c.in_err-step.ensures.step.disk_rose

pub returns-in_err-later-clause-cause : goal.returns-in_err-later-clause-cause
returns-in_err-later-clause-cause g c =
    counts_on _ _ _ c.from_residual-in_err-later.result c.in_err-later.field-0.0
    (err_from_is_err_and c.from_residual-in_err-later.result c.from_residual-in_err-later.ensures.1)
    c.in_ok-step.ensures.step.disk_rose.uncounted c.in_err-later.ensures.cause

pub returns-in_err-later-clause-beside : goal.returns-in_err-later-clause-beside
returns-in_err-later-clause-beside g c = λ told.
    c.in_err-later.ensures.beside told ∙ c.in_ok-step.ensures.step.beside told
