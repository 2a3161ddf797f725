use Rattle.std.proofs.Common.{None, Some, Err, false, refl, sym, ap, ◌∙◌, arith}
use Rattle.std.proofs.lemmas.Result.{err_from_is_err_and, IfOk-weaker}
use Rattle.el_lines.specs.Lines.{line}
use Rattle.el_lines.specs.NodeLines as said
use Rattle.el_side.specs.Beneath.{beneath}
use Rattle.el_side.proofs.Settled.{by_sure}
use Rattle.el_side.specs.Side as side_of
use Rattle.el_side.specs.Side.{OrdersLine, Tips}
use Rattle.el_model.proofs.LedgerMoves.{asked_moved, asked_none}
use Rattle.el_sync.proofs.Led.{answered, asked_stops, block_leads, if_err_map, kept_leads, leads_in, memory_of, said_after, stands_there, starved, starved_still, step_asked, stops_as, unsure_leads}
use Rattle.el_model.specs.declared.fault.QueryFault.TheVariants as fault
use Rattle.el_sync.specs.Steps.{left_by}
use Rattle.el_sync.specs.declared.moving.Step.{Step}
use Rattle.el_outside.proofs.Traces.{all_grow_none}
use Rattle.el_sync.proofs.orders.order_line.Goals as goal

pub returns-in_ok-answer-in-Ok-Block-clause-node : goal.returns-in_ok-answer-in-Ok-Block-clause-node
returns-in_ok-answer-in-Ok-Block-clause-node g c = λ side start at from.
    block_leads _ side start c.args.holdings.now c.args.text.now c.in-Ok-Block.file c.in-Ok-Block.at _ _ at from.still
    c.in_ok-answer-in-Ok-Block.ensures.same (rw c.in-Ok-Block.field-0-is at c.in-Ok-Block.ensures.read) (c.in_ok-answer-in-Ok-Block.ensures.looked side from at.told) c.only_answer.ensures.answer c.only_answer.ensures.left
    (λ sure. asked_moved g.G.Ledger c.args.ledger.now c.args.ledger.now side.chain (λ a d f h i j k. g.met.G.Ledger.leaves_own a d f h i j k) c.requires.live (asked_none g.G.Ledger c.args.ledger.now) (at.stood sure)) refl

pub returns-in-Ok-Tip-clause-node : goal.returns-in-Ok-Tip-clause-node
returns-in-Ok-Tip-clause-node g c = λ side start at from.
    IfOk-weaker c.order_tip.result _ _ (λ s leads.
    leads_in _ side start (Tips g.A.Archive side c.in-Ok-Tip.h) (OrdersLine g.A.Archive side (line c.args.text.now))
    (left_by (beneath c.args.ledger.now c.args.archive.now) (beneath c.order_tip.new.ledger c.order_tip.new.archive) s side.found c.order_tip.new.holdings c.order_tip.new.caches) _ (from.found ∙ sym c.order_tip.ensures.tree)
    (λ losses next led. (Some (said.tip c.in-Ok-Tip.h.0), rw c.in-Ok-Tip.field-0-is at c.in-Ok-Tip.ensures.read, led)) leads)
    (c.order_tip.ensures.tip side start at from.found from.still)

pub returns-in-Ok-Tip-clause-stopped : goal.returns-in-Ok-Tip-clause-stopped
returns-in-Ok-Tip-clause-stopped g c = λ side start sure at from.
    if_err_map c.order_tip.result _ _ (λ e f. stops_as _ _ _ side.chain false _ _ e
    (λ p is. record {
      bytes = c.args.text.now;
      hash = c.in-Ok-Tip.h.0;
      path = is.path;
      met_is = refl;
      reads = rw c.in-Ok-Tip.field-0-is at c.in-Ok-Tip.ensures.read;
      is_path = is.is_path;
      few = is.move_is.few;
      moving = is.move_is.moving;
      plan_is = is.move_is.plan_is;
    }) f)
    (c.order_tip.ensures.stopped side start sure at from.found)

pub returns-in_ok-told-in-Ok-Tx-clause-node : goal.returns-in_ok-told-in-Ok-Tx-clause-node
returns-in_ok-told-in-Ok-Tx-clause-node g c = λ side start at from.
    let e = c.in_ok-told-in-Ok-Tx.ensures in
    let reads = rw c.in-Ok-Tx.field-0-is at c.in-Ok-Tx.ensures.read in
    by_sure side _
    (λ sure. kept_leads _ side start c.args.holdings.now _ _ _ _ sure at from.still
    (said_after c.order_tx.new.pool side _ _ c.args.text.now (said.tx c.in-Ok-Tx.bytes) _ reads (rw c.as_slice.ensures at (e.adds side (at.stood sure) (stands_there c.args.holdings.now c.args.caches.now side start sure at.set from.still) at.set.limits)))
    (e.fees side.chain side.kept (at.stood sure) (stands_there c.args.holdings.now c.args.caches.now side start sure at.set from.still) (at.set.fees sure))
    c.pool_step.ensures.answer (sym from.found) c.pool_step.ensures.left c.pool_step.ensures.changed e.limits refl
    (asked_moved g.G.Ledger c.args.ledger.now c.order_tx.new.ledger side.chain (λ a d f h i j k. g.met.G.Ledger.leaves_own a d f h i j k) c.requires.live e.asked (at.stood sure)) e.disk_rose.uncounted)
    (λ un. unsure_leads _ side start c.args.holdings.now (OrdersLine g.A.Archive side (line c.args.text.now)) _ un at from.still
    (Some (said.tx c.in-Ok-Tx.bytes), reads, side_of.unsure un (rw c.pool_step.ensures.answer e.tells) refl refl)
    (sym from.found) c.pool_step.ensures.left e.limits refl e.disk_rose.uncounted)

pub returns-in_ok-told-in-Ok-Drop-clause-node : goal.returns-in_ok-told-in-Ok-Drop-clause-node
returns-in_ok-told-in-Ok-Drop-clause-node g c = λ side start at from.
    let e = c.in_ok-told-in-Ok-Drop.ensures in
    let reads = rw c.in-Ok-Drop.field-0-is at c.in-Ok-Drop.ensures.read in
    by_sure side _
    (λ sure. kept_leads _ side start c.args.holdings.now _ _ _ _ sure at from.still
    (said_after c.order_drop.new.pool side _ _ c.args.text.now (said.dropped c.in-Ok-Drop.id.0) _ reads (e.drops side (stands_there c.args.holdings.now c.args.caches.now side start sure at.set from.still)))
    (e.fees side.chain side.kept (stands_there c.args.holdings.now c.args.caches.now side start sure at.set from.still) (at.set.fees sure))
    c.pool_step-in-Ok-Drop.ensures.answer (sym from.found) c.pool_step-in-Ok-Drop.ensures.left c.pool_step-in-Ok-Drop.ensures.changed e.limits refl
    (asked_moved g.G.Ledger c.args.ledger.now c.args.ledger.now side.chain (λ a d f h i j k. g.met.G.Ledger.leaves_own a d f h i j k) c.requires.live (asked_none g.G.Ledger c.args.ledger.now) (at.stood sure)) refl)
    (λ un. unsure_leads _ side start c.args.holdings.now (OrdersLine g.A.Archive side (line c.args.text.now)) _ un at from.still
    (Some (said.dropped c.in-Ok-Drop.id.0), reads, side_of.unsure un (rw c.pool_step-in-Ok-Drop.ensures.answer e.tells) refl refl)
    (sym from.found) c.pool_step-in-Ok-Drop.ensures.left e.limits refl refl)

pub returns-in_err-answer-in-Ok-Block-clause-stopped : goal.returns-in_err-answer-in-Ok-Block-clause-stopped
returns-in_err-answer-in-Ok-Block-clause-stopped g c = λ side start sure at from.
    let p = err_from_is_err_and c.from_residual.result c.from_residual.ensures.1 in
    starved _ c.from_residual.result _ _ side.chain _
    (asked_moved g.G.Ledger c.args.ledger.now c.args.ledger.now side.chain (λ a d f h i j k. g.met.G.Ledger.leaves_own a d f h i j k) c.requires.live (asked_none g.G.Ledger c.args.ledger.now) (at.stood sure))
    (memory_of c.from_residual.result p.0 p.1 (p.2 ∙ c.in_err-answer-in-Ok-Block.ensures.memory)) c.in_err-answer-in-Ok-Block.ensures.archive_rose refl

pub returns-in_err-told-in-Ok-Tx-clause-stopped : goal.returns-in_err-told-in-Ok-Tx-clause-stopped
returns-in_err-told-in-Ok-Tx-clause-stopped g c = λ side start sure at from.
    let p = err_from_is_err_and c.from_residual-in_err-told-in-Ok-Tx.result c.from_residual-in_err-told-in-Ok-Tx.ensures.1 in
    let e = c.in_err-told-in-Ok-Tx.ensures in
    asked_stops _ c.from_residual-in_err-told-in-Ok-Tx.result c.in_err-told-in-Ok-Tx.field-0.0 _ c.order_tx.new.ledger side.chain _ (p.1 ∙ ap Err p.2)
    (asked_moved g.G.Ledger c.args.ledger.now c.order_tx.new.ledger side.chain (λ a d f h i j k. g.met.G.Ledger.leaves_own a d f h i j k) c.requires.live e.asked (at.stood sure))
    (λ is. e.disk_rose.counted (ap Err is)) (λ other. e.disk_rose.others_uncounted other)

pub returns-in_err-told-in-Ok-Drop-clause-stopped : goal.returns-in_err-told-in-Ok-Drop-clause-stopped
returns-in_err-told-in-Ok-Drop-clause-stopped g c = λ side start sure at from.
    let p = err_from_is_err_and c.from_residual-in_err-told-in-Ok-Drop.result c.from_residual-in_err-told-in-Ok-Drop.ensures.1 in
    starved_still _ c.from_residual-in_err-told-in-Ok-Drop.result _ c.args.ledger.now side.chain _
    (asked_moved g.G.Ledger c.args.ledger.now c.args.ledger.now side.chain (λ a d f h i j k. g.met.G.Ledger.leaves_own a d f h i j k) c.requires.live (asked_none g.G.Ledger c.args.ledger.now) (at.stood sure))
    (memory_of c.from_residual-in_err-told-in-Ok-Drop.result p.0 p.1 (p.2 ∙ c.in_err-told-in-Ok-Drop.ensures.memory)) refl

pub returns-in-Err-Memory-clause-stopped : goal.returns-in-Err-Memory-clause-stopped
returns-in-Err-Memory-clause-stopped g c = λ side start sure at from.
    starved_still _ {T = Step} (Err fault.Memory) _ c.args.ledger.now side.chain _
    (asked_moved g.G.Ledger c.args.ledger.now c.args.ledger.now side.chain (λ a d f h i j k. g.met.G.Ledger.leaves_own a d f h i j k) c.requires.live (asked_none g.G.Ledger c.args.ledger.now) (at.stood sure))
    refl refl

pub returns-in_ok-told-in-Ok-Tx-clause-step : goal.returns-in_ok-told-in-Ok-Tx-clause-step
returns-in_ok-told-in-Ok-Tx-clause-step g c =
    let e = c.in_ok-told-in-Ok-Tx.ensures in
    step_asked _ c.pool_step.result _ c.order_tx.new.ledger c.requires.live e.asked c.pool_step.ensures.left e.disk_rose.uncounted

pub returns-in_ok-told-in-Ok-Drop-clause-step : goal.returns-in_ok-told-in-Ok-Drop-clause-step
returns-in_ok-told-in-Ok-Drop-clause-step g c =
    step_asked _ c.pool_step-in-Ok-Drop.result _ c.args.ledger.now c.requires.live (asked_none g.G.Ledger c.args.ledger.now)
    c.pool_step-in-Ok-Drop.ensures.left refl

pub returns-in_ok-answer-in-Ok-Block-clause-rows : goal.returns-in_ok-answer-in-Ok-Block-clause-rows
returns-in_ok-answer-in-Ok-Block-clause-rows g c = λ side start sure at from.
    (Some (said.block c.in-Ok-Block.file c.in-Ok-Block.at), rw c.in-Ok-Block.field-0-is at c.in-Ok-Block.ensures.read, omega arith)

pub returns-in-Ok-Tip-clause-rows : goal.returns-in-Ok-Tip-clause-rows
returns-in-Ok-Tip-clause-rows g c = λ side start sure at from.
    IfOk-weaker c.order_tip.result _ _ (λ s leads. (Some (said.tip c.in-Ok-Tip.h.0), rw c.in-Ok-Tip.field-0-is at c.in-Ok-Tip.ensures.read, c.order_tip.ensures.rows side (at.stood sure) from.found))
    (c.order_tip.ensures.tip side start at from.found from.still)

pub returns-in_ok-told-in-Ok-Tx-clause-rows : goal.returns-in_ok-told-in-Ok-Tx-clause-rows
returns-in_ok-told-in-Ok-Tx-clause-rows g c = λ side start sure at from.
    (Some (said.tx c.in-Ok-Tx.bytes), rw c.in-Ok-Tx.field-0-is at c.in-Ok-Tx.ensures.read, tt)

pub returns-in_ok-told-in-Ok-Drop-clause-rows : goal.returns-in_ok-told-in-Ok-Drop-clause-rows
returns-in_ok-told-in-Ok-Drop-clause-rows g c = λ side start sure at from.
    (Some (said.dropped c.in-Ok-Drop.id.0), rw c.in-Ok-Drop.field-0-is at c.in-Ok-Drop.ensures.read, omega arith)

pub returns-in-Err-Line-clause-node : goal.returns-in-Err-Line-clause-node
returns-in-Err-Line-clause-node g c = λ side start at from.
    answered _ side start (OrdersLine g.A.Archive side (line c.args.text.now)) _ at from.still
    (None, rw c.in-Err-Line.field-0-is at c.in-Err-Line.ensures.refused, (c.refusing.ensures.answer, refl, refl)) (sym from.found) c.refusing.ensures.left (λ t. all_grow_none _)
    (λ sure. asked_moved g.G.Ledger c.args.ledger.now c.args.ledger.now side.chain (λ a d f h i j k. g.met.G.Ledger.leaves_own a d f h i j k) c.requires.live (asked_none g.G.Ledger c.args.ledger.now) (at.stood sure)) refl refl

pub returns-in-Err-Line-clause-rows : goal.returns-in-Err-Line-clause-rows
returns-in-Err-Line-clause-rows g c = λ side start sure at from. (None, rw c.in-Err-Line.field-0-is at c.in-Err-Line.ensures.refused, omega arith)

pub returns-in_err-answer-in-Ok-Block-clause-memory : goal.returns-in_err-answer-in-Ok-Block-clause-memory
returns-in_err-answer-in-Ok-Block-clause-memory g c = λ side start sure at from is.
    (Some (said.block c.in-Ok-Block.file c.in-Ok-Block.at), rw c.in-Ok-Block.field-0-is at c.in-Ok-Block.ensures.read, c.in_err-answer-in-Ok-Block.ensures.there side from at.told)

pub returns-in-Ok-Tip-clause-memory : goal.returns-in-Ok-Tip-clause-memory
returns-in-Ok-Tip-clause-memory g c = λ side start sure at from is.
    (Some (said.tip c.in-Ok-Tip.h.0), rw c.in-Ok-Tip.field-0-is at c.in-Ok-Tip.ensures.read, c.order_tip.ensures.memory side (at.stood sure) from.found is)

pub returns-in_err-told-in-Ok-Tx-clause-memory : goal.returns-in_err-told-in-Ok-Tx-clause-memory
returns-in_err-told-in-Ok-Tx-clause-memory g c = λ side start sure at from is.
    (Some (said.tx c.in-Ok-Tx.bytes), rw c.in-Ok-Tx.field-0-is at c.in-Ok-Tx.ensures.read, tt)

pub returns-in_err-told-in-Ok-Drop-clause-memory : goal.returns-in_err-told-in-Ok-Drop-clause-memory
returns-in_err-told-in-Ok-Drop-clause-memory g c = λ side start sure at from is.
    (Some (said.dropped c.in-Ok-Drop.id.0), rw c.in-Ok-Drop.field-0-is at c.in-Ok-Drop.ensures.read, tt)

-- a transaction, for whose bytes no memory was found
pub returns-in-Err-Memory-clause-memory : goal.returns-in-Err-Memory-clause-memory
returns-in-Err-Memory-clause-memory g c = λ side start sure at from is.
    let reads = rw c.in-Err-Memory.field-0-is at c.in-Err-Memory.ensures.refused in (Some (said.tx reads.0), reads.1, tt)
