use Rattle.el_loop.proofs.Deliveries.{delivered}
use Rattle.el_core.specs.Turn.{outs_of}
use Rattle.el_loop.proofs.sending.deliver.Goals as goal

pub returns-in-Ok-clause-delivered : goal.returns-in-Ok-clause-delivered
returns-in-Ok-clause-delivered g c = λ next rest can.
    let sent = rw c.as_slice.ensures at (c.in-Ok.ensures.sent next rest (outs_of c.args.outs.now).closing) in
    delivered g.G.Ledger.stands g.K.Link.tells next rest (outs_of c.args.outs.now) c.in-Ok.lost
    c.args.server.now c.send_all.new.server _ _ _ _ _ _
    can.can_close (sent can) c.close.ensures.closes c.close.ensures.same_faults

pub returns-in-Err-clause-undelivered : goal.returns-in-Err-clause-undelivered
returns-in-Err-clause-undelivered g c = λ next rest can.
    let stopped = rw c.as_slice.ensures at
    (c.in-Err.ensures.stopped next rest (outs_of c.args.outs.now).closing) in
    stopped can
