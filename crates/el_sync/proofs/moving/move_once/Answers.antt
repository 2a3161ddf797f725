use Rattle.std.proofs.Common.{◌-◌, ap, true, [], ◌∙◌, Err}
use Rattle.el_model.specs.Queries.{blocks_in}
use Rattle.std.proofs.lemmas.Result.{err_from_is_err_and}
use Rattle.el_side.proofs.Settled.{by_sure}
use Rattle.el_side.specs.Side.{quiet_side}
use Rattle.el_sync.proofs.Reach.{is_told}
use Rattle.el_sync.proofs.Tried.{later_then, made_fewer, made_no_more, settled, step_unsettled, stops_first, unsettled, unsure_settled}
use Rattle.el_outside.proofs.Traces.{all_grow_none}
use Rattle.el_sync.proofs.moving.move_once.Goals as goal

pub returns-clause-moving : goal.returns-clause-moving
returns-clause-moving g c = λ side start at still.
    let e = c.in_ok-answer.ensures in
    let s = c.in_ok-changed.ensures in
    by_sure side _
    (λ sure. settled _ _ _ c.make_move.new.ledger side start c.args.back c.args.rest
    c.args.holdings.now c.settle.new.pool c.settle.new.fees c.args.caches.now c.take_back.new.self c.settle.new.caches c.in_ok-answer.field-0 c.in_ok-changed.changed c.args.later c.ends_line-ends.result (blocks_in c.height-top.result - c.args.back) (λ a d f h i j k. g.met.G.Ledger.leaves_own a d f h i j k) e.keeps.live sure at still
    (e.tried side (at.stood sure) at.told) e.keeps c.ends_line-ends.ensures (ap (λ h. blocks_in h - c.args.back) (c.height-top.ensures ∙ g.met.G.Ledger.height_is c.args.ledger.now side.chain (at.stood sure)))
    (λ first chain stood stands beyond ended. s.sifted first chain side.kept stood stands (is_told c.reach_of-reach.result (λ r. r.same) (λ r. r.touched.now) c.args.later first chain (blocks_in c.height-top.result - c.args.back) c.in_ok-answer.field-0.touched
    c.reach_of-reach.ensures.first c.reach_of-reach.ensures.reach beyond) ended)
    (λ first chain stood stands beyond of_fees. s.fees first chain side.kept stood stands (is_told c.reach_of-reach.result (λ r. r.same) (λ r. r.touched.now) c.args.later first chain (blocks_in c.height-top.result - c.args.back) c.in_ok-answer.field-0.touched
    c.reach_of-reach.ensures.first c.reach_of-reach.ensures.reach beyond) of_fees) s.same s.limits s.asked s.disk_rose.uncounted
    (rw c.taken.ensures at (c.take_back.ensures start side.chain (c.height-top.ensures ∙ g.met.G.Ledger.height_is c.args.ledger.now side.chain (at.stood sure)) (at.set.computed sure)))
    (λ first chain stand stands ended. s.followed first chain stand stands ended) s.kept)
    (λ un. unsure_settled _ _ _ c.make_move.new.ledger side start c.args.back c.args.rest
    c.args.holdings.now c.settle.new.pool c.settle.new.fees c.args.caches.now c.settle.new.caches c.in_ok-answer.field-0 c.in_ok-changed.changed un at e.keeps s.limits s.disk_rose.uncounted)

pub returns-in_err-answer-clause-stopped : goal.returns-in_err-answer-clause-stopped
returns-in_err-answer-clause-stopped g c = λ chain stands.
    let p = err_from_is_err_and c.from_residual.result c.from_residual.ensures.1 in
    stops_first _ c.from_residual.result c.in_err-answer.field-0.0 _ _ chain c.args.later _
    (p.1 ∙ ap Err p.2) (c.in_err-answer.ensures.stopped chain stands)

pub returns-in_err-changed-clause-stopped : goal.returns-in_err-changed-clause-stopped
returns-in_err-changed-clause-stopped g c = λ chain stands.
    let e = c.in_ok-answer.ensures in
    let s = c.in_err-changed.ensures in
    let p = err_from_is_err_and c.from_residual-in_err-changed.result c.from_residual-in_err-changed.ensures.1 in
    let tried = e.tried (quiet_side true chain [] (record { count = 0; bytes = 0 }) [] (g.A.Archive.bytes c.args.archive.now)) stands (λ t. all_grow_none _) in
    unsettled _ c.from_residual-in_err-changed.result c.in_err-changed.field-0.0 _ _ c.make_move.new.ledger _ c.args.back c.args.rest c.in_ok-answer.field-0 c.args.later (p.1 ∙ ap Err p.2) (λ a d f h i j k. g.met.G.Ledger.leaves_own a d f h i j k) e.keeps.live tried
    (later_then c.in_ok-answer.field-0.left c.in_ok-answer.field-0.moved c.args.later c.ends_line-ends.result c.ends_line-ends.ensures s.only) s.asked
    (λ is. s.disk_rose.counted (ap Err is)) (λ other. s.disk_rose.others_uncounted other)

pub returns-in_err-changed-clause-step : goal.returns-in_err-changed-clause-step
returns-in_err-changed-clause-step g c =
    let e = c.in_ok-answer.ensures in
    let s = c.in_err-changed.ensures in
    let p = err_from_is_err_and c.from_residual-in_err-changed.result c.from_residual-in_err-changed.ensures.1 in
    step_unsettled _ c.from_residual-in_err-changed.result c.in_err-changed.field-0.0 _ _ c.make_move.new.ledger c.args.rest c.in_ok-answer.field-0 c.args.later
    (p.1 ∙ ap Err p.2) e.keeps s.asked
    (later_then c.in_ok-answer.field-0.left c.in_ok-answer.field-0.moved c.args.later c.ends_line-ends.result c.ends_line-ends.ensures s.only)
    (λ is. s.disk_rose.counted (ap Err is)) (λ other. s.disk_rose.others_uncounted other)

pub returns-clause-no_more : goal.returns-clause-no_more
returns-clause-no_more g c = made_no_more c.in_ok-answer.field-0.moved c.args.rest c.in_ok-answer.field-0.left c.in_ok-answer.ensures.keeps.left

pub returns-clause-fewer : goal.returns-clause-fewer
returns-clause-fewer g c = made_fewer c.in_ok-answer.field-0.moved c.args.rest c.in_ok-answer.field-0.left c.in_ok-answer.ensures.keeps.left
