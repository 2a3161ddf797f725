use Rattle.std.proofs.Common.{◌≡◌, true, Err, ap, ◌∙◌, rules, arith}
use Rattle.std.proofs.lemmas.Result.{err_from_is_err_and}
use Rattle.el_relay.proofs.Passing.{reason_on, adds_none, calls_none, counts_none}
use Rattle.el_relay.proofs.desk.Desk.broadcast.Goals as goal

pub returns-in_err-id-clause-reason : goal.returns-in_err-id-clause-reason
returns-in_err-id-clause-reason g c =
    let p = err_from_is_err_and c.from_residual.result c.from_residual.ensures.1 in
    let on : c.args.self.now.on ≡ true = first_of (search rules, grind arith) in
    reason_on c.args.self.now c.args.bytes.now c.from_residual.result c.in_err-id.field-0.0 (p.1 ∙ ap Err p.2)
    (c.in_err-id.ensures.reason c.args.self.now on)

pub returns-in_err-id-clause-adds : goal.returns-in_err-id-clause-adds
returns-in_err-id-clause-adds g c = λ told.
    let p = err_from_is_err_and c.from_residual.result c.from_residual.ensures.1 in
    adds_none c.args.self.now c.args.bytes.now c.from_residual.result c.in_err-id.field-0.0 (g.Y.Relay.offers c.args.relay.now)
    (p.1 ∙ ap Err p.2) (c.in_err-id.ensures.unasked c.args.self.now)

pub returns-in_err-id-clause-called : goal.returns-in_err-id-clause-called
returns-in_err-id-clause-called g c =
    let p = err_from_is_err_and c.from_residual.result c.from_residual.ensures.1 in
    calls_none c.args.self.now c.from_residual.result c.in_err-id.field-0.0 (g.Y.Relay.calls c.args.relay.now)
    (p.1 ∙ ap Err p.2) (c.in_err-id.ensures.unasked c.args.self.now)

pub returns-in_err-id-clause-cause : goal.returns-in_err-id-clause-cause
returns-in_err-id-clause-cause g c =
    let p = err_from_is_err_and c.from_residual.result c.from_residual.ensures.1 in
    counts_none c.args.self.now c.from_residual.result c.in_err-id.field-0.0 (g.Y.Relay.faults c.args.relay.now)
    (p.1 ∙ ap Err p.2) (c.in_err-id.ensures.unasked c.args.self.now)
