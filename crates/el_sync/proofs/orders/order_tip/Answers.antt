use Rattle.std.proofs.Common.{Err, false, refl}
use Rattle.std.proofs.lemmas.Result.{IfOk-weaker}
use Rattle.el_side.specs.Side.{Tips, along, unconnected, unknown}
use Rattle.el_sync.proofs.RowsRead.{unread_tip}
use Rattle.el_model.proofs.LedgerMoves.{asked_moved, asked_none}
use Rattle.el_sync.proofs.Led.{answered, if_err_map, leads_as, starved_still, step_asked, stops_as}
use Rattle.el_model.specs.declared.fault.QueryFault.TheVariants as fault
use Rattle.el_sync.specs.declared.moving.Step.{Step}
use Rattle.el_outside.proofs.Traces.{all_grow_none}
use Rattle.el_sync.proofs.orders.order_tip.Goals as goal

pub move_along-requires-clause-path : goal.move_along-requires-clause-path
move_along-requires-clause-path g c = λ lifetimes outlive. (c.in-Ok.ensures.there.0, rw c.in-Ok.ensures.hash c.in-Ok.ensures.there.1)

pub move_along-requires-clause-end : goal.move_along-requires-clause-end
move_along-requires-clause-end g c = λ lifetimes outlive path is. c.in-Ok.ensures.end path (rw c.in-Ok.ensures.hash at is)

pub returns-in-Ok-clause-tip : goal.returns-in-Ok-clause-tip
returns-in-Ok-clause-tip g c = λ side start at found still.
    let path = c.in-Ok.ensures.there.0 in
    let is = c.in-Ok.ensures.there.1 in
    IfOk-weaker c.move_along.result _ _ (λ s leads.
    leads_as _ side start _ _ _ (λ losses next. along path (rw found is)) leads)
    (c.move_along.ensures.along path side start (rw c.in-Ok.ensures.hash is) at still)

pub returns-in-Ok-clause-stopped : goal.returns-in-Ok-clause-stopped
returns-in-Ok-clause-stopped g c = λ side start sure at found.
    let path = c.in-Ok.ensures.there.0 in
    let is = c.in-Ok.ensures.there.1 in
    if_err_map c.move_along.result _ _ (λ e f.
    stops_as _ _ _ side.chain false _ _ e (λ p first. record { path = path; is_path = rw found is; move_is = first }) f)
    (c.move_along.ensures.stopped path side.chain (rw c.in-Ok.ensures.hash is) (at.stood sure))

pub returns-in-Err-Unknown-clause-tip : goal.returns-in-Err-Unknown-clause-tip
returns-in-Err-Unknown-clause-tip g c = λ side start at found still.
    answered _ side start (Tips g.A.Archive side c.args.h) _ at still
    (unknown (rw found (rw c.in-Err-Unknown.field-0-is at c.in-Err-Unknown.ensures.fault)) c.refusing.ensures.answer refl refl) refl
    c.refusing.ensures.left (λ t. all_grow_none _) (λ sure. asked_moved g.G.Ledger c.args.ledger.now c.args.ledger.now side.chain (λ a d f h i j k. g.met.G.Ledger.leaves_own a d f h i j k) c.requires.live (asked_none g.G.Ledger c.args.ledger.now) (at.stood sure)) refl refl

pub returns-in-Err-Unconnected-clause-tip : goal.returns-in-Err-Unconnected-clause-tip
returns-in-Err-Unconnected-clause-tip g c = λ side start at found still.
    let why = rw c.in-Err-Unconnected.field-0-is at c.in-Err-Unconnected.ensures.fault in
    answered _ side start (Tips g.A.Archive side c.args.h) _ at still
    (unconnected (rw found why.0) (rw found why.1) c.refusing-in-Err-Unconnected.ensures.answer refl refl) refl
    c.refusing-in-Err-Unconnected.ensures.left (λ t. all_grow_none _) (λ sure. asked_moved g.G.Ledger c.args.ledger.now c.args.ledger.now side.chain (λ a d f h i j k. g.met.G.Ledger.leaves_own a d f h i j k) c.requires.live (asked_none g.G.Ledger c.args.ledger.now) (at.stood sure)) refl refl

pub returns-in-Err-Memory-clause-stopped : goal.returns-in-Err-Memory-clause-stopped
returns-in-Err-Memory-clause-stopped g c = λ side start sure at found.
    starved_still _ {T = Step} (Err fault.Memory) _ c.args.ledger.now side.chain _
    (asked_moved g.G.Ledger c.args.ledger.now c.args.ledger.now side.chain (λ a d f h i j k. g.met.G.Ledger.leaves_own a d f h i j k) c.requires.live (asked_none g.G.Ledger c.args.ledger.now) (at.stood sure))
    refl refl

pub returns-in-Err-Unknown-clause-step : goal.returns-in-Err-Unknown-clause-step
returns-in-Err-Unknown-clause-step g c =
    step_asked _ c.refusing.result _ c.args.ledger.now c.requires.live (asked_none g.G.Ledger c.args.ledger.now) c.refusing.ensures.left refl

pub returns-in-Err-Unconnected-clause-step : goal.returns-in-Err-Unconnected-clause-step
returns-in-Err-Unconnected-clause-step g c =
    step_asked _ c.refusing-in-Err-Unconnected.result _ c.args.ledger.now c.requires.live (asked_none g.G.Ledger c.args.ledger.now)
    c.refusing-in-Err-Unconnected.ensures.left refl

pub returns-in-Ok-clause-rows : goal.returns-in-Ok-clause-rows
returns-in-Ok-clause-rows g c = λ side stands found. record {
  no_path = λ none. absurd (none c.in-Ok.ensures.there.0 (rw found c.in-Ok.ensures.there.1));
  no_move = λ path is still. c.move_along.ensures.rows path side.chain (rw c.in-Ok.ensures.hash (rw found at is)) stands still;
}

pub returns-in-Err-Unknown-clause-rows : goal.returns-in-Err-Unknown-clause-rows
returns-in-Err-Unknown-clause-rows g c = λ side stands found. unread_tip side c.args.h _

pub returns-in-Err-Unconnected-clause-rows : goal.returns-in-Err-Unconnected-clause-rows
returns-in-Err-Unconnected-clause-rows g c = λ side stands found. unread_tip side c.args.h _

pub returns-in-Err-Memory-clause-rows : goal.returns-in-Err-Memory-clause-rows
returns-in-Err-Memory-clause-rows g c = λ side stands found. unread_tip side c.args.h _
