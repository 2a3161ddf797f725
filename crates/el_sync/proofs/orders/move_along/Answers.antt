use Rattle.std.proofs.Common.{Err, false, ℕ, drop, refl, sym, ap, ◌∙◌}
use Rattle.std.proofs.lemmas.Result.{err_from_is_err_and, IfOk-weaker}
use Rattle.el_lines.specs.declared.node_answer.NodeAnswer.TheVariants as say
use Rattle.el_lines.specs.declared.node_answer.NodeRefusal.TheVariants as refusal
use Rattle.el_side.specs.Plans.{plan_of}
use Rattle.el_side.proofs.Settled.{by_sure}
use Rattle.el_side.specs.Side as side_of
use Rattle.el_side.specs.Side.{deep, there, unsure}
use Rattle.el_sync.proofs.Led.{along_moves, answered, asked_stops, if_err_map, leads_as, leads_on, memory_of, path_move, starved_still, step_asked, step_on, step_unmoved, stops_as, stops_on, unsure_moves}
use Rattle.el_model.proofs.LedgerMoves.{asked_moved}
use Rattle.el_sync.proofs.Compared.{drop_linked, path_linked, rest_fits, at_is}
use Rattle.el_outside.proofs.Traces.{all_grow_none}
use Rattle.el_sync.proofs.orders.move_along.Goals as goal

pub returns-then-back-clause-along : goal.returns-then-back-clause-along
returns-then-back-clause-along g c = λ path side start is at still.
    let asked = c.in_ok-back.ensures.asked in
    answered _ side start _ _ at still
    (by_sure side _
    (λ sure. let w = c.in_ok-back.ensures.way path side.chain is (c.requires.end path is) (at.stood sure) in
    deep (rw w.0 at c.if-back.true) (c.refusing.ensures.answer ∙ ap (λ (n : ℕ). say.Refused (refusal.Deep n)) w.0) refl refl)
    (λ un. unsure un c.in_ok-back.field-0.back c.in_ok-back.field-0.same (side_of.deep c.if-back.true c.refusing.ensures.answer refl refl)))
    refl c.refusing.ensures.left (λ t. all_grow_none _)
    (λ sure. asked_moved g.G.Ledger c.args.ledger.now c.compare.new.ledger side.chain (λ a d f h i j k. g.met.G.Ledger.leaves_own a d f h i j k) c.requires.live asked (at.stood sure))
    refl c.in_ok-back.ensures.disk_rose.uncounted

pub returns-then-is_there-clause-along : goal.returns-then-is_there-clause-along
returns-then-is_there-clause-along g c = λ path side start is at still.
    let asked = c.in_ok-back.ensures.asked in
    let none = c.is_there.ensures.there c.if-is_there.true in
    answered _ side start _ _ at still
    (by_sure side _
    (λ sure. let w = c.in_ok-back.ensures.way path side.chain is (c.requires.end path is) (at.stood sure) in
    let rest_is = c.in_ok-rest.ensures.rest path is ∙ ap (λ k. drop k path) w.1 in
    let here = asked.stays.still_stands side.chain (at.stood sure) in
    there (sym w.0 ∙ none.0) (sym rest_is ∙ none.1) (c.only_answer.ensures.answer
    ∙ at_is _ _ _ _ (c.tip.ensures ∙ g.met.G.Ledger.tip_is c.compare.new.ledger side.chain here) (c.height.ensures ∙ g.met.G.Ledger.height_is c.compare.new.ledger side.chain here)) refl refl)
    (λ un. unsure un c.in_ok-back.field-0.back c.in_ok-back.field-0.same
    (side_of.there _ _ none.0 (sym (c.in_ok-rest.ensures.rest path is) ∙ none.1) c.only_answer.ensures.answer refl refl)))
    refl c.only_answer.ensures.left (λ t. all_grow_none _)
    (λ sure. asked_moved g.G.Ledger c.args.ledger.now c.compare.new.ledger side.chain (λ a d f h i j k. g.met.G.Ledger.leaves_own a d f h i j k) c.requires.live asked (at.stood sure))
    refl c.in_ok-back.ensures.disk_rose.uncounted

pub move_once-requires-clause-linked : goal.move_once-requires-clause-linked
move_once-requires-clause-linked g c = λ lifetimes outlive.
    let path = c.requires.path.0 in
    drop_linked path c.in_ok-rest.rest (path_linked c.args.holdings.now.tree path c.args.end.now.node.hash c.requires.path.1) (c.in_ok-back.field-0.same, c.in_ok-rest.ensures.rest path c.requires.path.1)

pub move_once-requires-clause-fits : goal.move_once-requires-clause-fits
move_once-requires-clause-fits g c = λ lifetimes outlive chain stands.
    let path = c.requires.path.0 in
    let is = c.requires.path.1 in
    let w = c.in_ok-back.ensures.way path chain is (c.requires.end path is) (c.in_ok-back.ensures.asked.stays.stood chain stands) in
    let rest_is = c.in_ok-rest.ensures.rest path is ∙ ap (λ k. drop k path) w.1 in
    rest_fits chain path c.in_ok-rest.rest c.in_ok-back.field-0.back w.0 rest_is (path_linked c.args.holdings.now.tree path c.args.end.now.node.hash is)

pub returns-clause-along : goal.returns-clause-along
returns-clause-along g c = λ path side start is at still.
    let asked = c.in_ok-back.ensures.asked in
    IfOk-weaker c.move_once.result _ _ (λ s leads.
    leads_as _ side start _ _ _
    (λ losses next move. by_sure side _
    (λ sure. let w = c.in_ok-back.ensures.way path side.chain is (c.requires.end path is) (at.stood sure) in
    let rest_is = c.in_ok-rest.ensures.rest path is ∙ ap (λ k. drop k path) w.1 in
    along_moves _ side next path c.in_ok-rest.rest c.in_ok-back.field-0.back s.answer losses c.if-back.false w.0 rest_is
    (c.is_there.ensures.moves c.if-is_there.false) move)
    (λ un. unsure_moves _ side next path c.in_ok-rest.rest c.in_ok-back.field-0.back c.in_ok-back.field-0.same s.answer losses un c.if-back.false
    (c.in_ok-rest.ensures.rest path is) (c.is_there.ensures.moves c.if-is_there.false) move))
    (leads_on _ side start _ _ c.compare.new.ledger
    (λ a d f h i j k. g.met.G.Ledger.leaves_own a d f h i j k) c.requires.live asked c.in_ok-back.ensures.disk_rose.uncounted at.stood leads))
    (c.move_once.ensures.moving side start (record { stood = λ sure. asked.stays.still_stands side.chain (at.stood sure); set = at.set; told = at.told }) (λ e. still))

pub returns-clause-stopped : goal.returns-clause-stopped
returns-clause-stopped g c = λ path chain is stands.
    let w = c.in_ok-back.ensures.way path chain is (c.requires.end path is) stands in
    let rest_is = c.in_ok-rest.ensures.rest path is ∙ ap (λ k. drop k path) w.1 in
    let asked = c.in_ok-back.ensures.asked in
    if_err_map c.move_once.result _ _ (λ e f.
    stops_as _ _ _ chain false _ _ e
    (λ p. path_move chain path c.in_ok-rest.rest c.in_ok-back.field-0.back p c.if-back.false w.0 rest_is (c.is_there.ensures.moves c.if-is_there.false))
    (stops_on _ _ _ c.compare.new.ledger chain false _ e (λ a d f h i j k. g.met.G.Ledger.leaves_own a d f h i j k) c.requires.live asked c.in_ok-back.ensures.disk_rose.uncounted stands f))
    (c.move_once.ensures.stopped chain (asked.stays.still_stands chain stands))

pub returns-in_err-back-clause-stopped : goal.returns-in_err-back-clause-stopped
returns-in_err-back-clause-stopped g c = λ path chain is stands.
    let p = err_from_is_err_and c.from_residual.result c.from_residual.ensures.1 in
    let e = c.in_err-back.ensures in
    asked_stops _ c.from_residual.result c.in_err-back.field-0.0 _ c.compare.new.ledger chain _ (p.1 ∙ ap Err p.2)
    (asked_moved g.G.Ledger c.args.ledger.now c.compare.new.ledger chain (λ a d f h i j k. g.met.G.Ledger.leaves_own a d f h i j k) c.requires.live e.asked stands)
    (λ is. e.disk_rose.counted (ap Err is)) (λ other. e.disk_rose.others_uncounted other)

pub returns-in_err-rest-clause-stopped : goal.returns-in_err-rest-clause-stopped
returns-in_err-rest-clause-stopped g c = λ path chain is stands.
    let p = err_from_is_err_and c.from_residual-in_err-rest.result c.from_residual-in_err-rest.ensures.1 in
    starved_still _ c.from_residual-in_err-rest.result _ c.compare.new.ledger chain _
    (asked_moved g.G.Ledger c.args.ledger.now c.compare.new.ledger chain (λ a d f h i j k. g.met.G.Ledger.leaves_own a d f h i j k) c.requires.live c.in_ok-back.ensures.asked stands)
    (memory_of c.from_residual-in_err-rest.result p.0 p.1 (p.2 ∙ c.in_err-rest.ensures.memory)) c.in_ok-back.ensures.disk_rose.uncounted

pub returns-clause-step : goal.returns-clause-step
returns-clause-step g c =
    step_on _ _ _ c.compare.new.ledger c.move_once.result
    c.in_ok-back.ensures.asked c.in_ok-back.ensures.disk_rose.uncounted c.move_once.ensures.step

pub returns-in_err-back-clause-step : goal.returns-in_err-back-clause-step
returns-in_err-back-clause-step g c =
    let p = err_from_is_err_and c.from_residual.result c.from_residual.ensures.1 in
    let e = c.in_err-back.ensures in
    step_unmoved _ c.from_residual.result c.in_err-back.field-0.0 _ c.compare.new.ledger (p.1 ∙ ap Err p.2)
    c.requires.live e.asked (λ is. e.disk_rose.counted (ap Err is)) (λ other. e.disk_rose.others_uncounted other)

pub returns-then-back-clause-step : goal.returns-then-back-clause-step
returns-then-back-clause-step g c =
    let e = c.in_ok-back.ensures in
    step_asked _ c.refusing.result _ c.compare.new.ledger c.requires.live e.asked c.refusing.ensures.left e.disk_rose.uncounted

pub returns-then-is_there-clause-step : goal.returns-then-is_there-clause-step
returns-then-is_there-clause-step g c =
    let e = c.in_ok-back.ensures in
    step_asked _ c.only_answer.result _ c.compare.new.ledger c.requires.live e.asked c.only_answer.ensures.left
    e.disk_rose.uncounted

pub returns-in_err-back-clause-rows : goal.returns-in_err-back-clause-rows
returns-in_err-back-clause-rows g c = λ path chain is stands none. c.compare.ensures.rows path chain is (c.requires.end path is) stands

pub returns-then-back-clause-rows : goal.returns-then-back-clause-rows
returns-then-back-clause-rows g c = λ path chain is stands none. c.compare.ensures.rows path chain is (c.requires.end path is) stands

pub returns-in_err-rest-clause-rows : goal.returns-in_err-rest-clause-rows
returns-in_err-rest-clause-rows g c = λ path chain is stands none. c.compare.ensures.rows path chain is (c.requires.end path is) stands

pub returns-then-is_there-clause-rows : goal.returns-then-is_there-clause-rows
returns-then-is_there-clause-rows g c = λ path chain is stands none. c.compare.ensures.rows path chain is (c.requires.end path is) stands

pub returns-clause-rows : goal.returns-clause-rows
returns-clause-rows g c = λ path chain is stands none.
    let w = c.in_ok-back.ensures.way path chain is (c.requires.end path is) stands in
    let rest_is = c.in_ok-rest.ensures.rest path is ∙ ap (λ k. drop k path) w.1 in
    let m = path_move chain path c.in_ok-rest.rest c.in_ok-back.field-0.back (plan_of c.in_ok-back.field-0.back c.in_ok-rest.rest) c.if-back.false w.0 rest_is
    (c.is_there.ensures.moves c.if-is_there.false) refl in
    absurd (none m.few m.moving)

pub returns-clause-untouched : goal.returns-clause-untouched
returns-clause-untouched g c = IfOk-weaker c.move_once.result _ _ (λ s apart. apart refl) c.move_once.ensures.untouched
