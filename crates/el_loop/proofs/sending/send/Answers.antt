use Rattle.std.proofs.Common.{ap, Err}
use Rattle.el_core.specs.State.{State}
use Rattle.el_loop.proofs.Sendings.{unsent_node, lost_client}
use Rattle.el_loop.proofs.Rises.{rises_node, rises_client}
use Rattle.el_loop.proofs.sending.send.Goals as goal

pub returns-then-p-eq0-clause-unsent : goal.returns-then-p-eq0-clause-unsent
returns-then-p-eq0-clause-unsent g c =
    unsent_node g.K.Link.tells c.args.p c.in-Err.fault c.loss_of-why.result.0 c.loss_of-why.result.1
    c.args.server.now
    (g.K.Link.trace c.args.link.now) (g.K.Link.trace c.send.new.self) (g.K.Link.faults c.args.link.now)
    (g.K.Link.faults c.send.new.self)
    c.if-p-eq0.true c.loss_of-why.ensures.loss (λ e. c.in-Err.ensures.counted (ap Err e))
    (λ e. c.in-Err.ensures.memory_uncounted (ap Err e)) c.in-Err.ensures.not_sent

pub returns-then-p-eq0-clause-counts : goal.returns-then-p-eq0-clause-counts
returns-then-p-eq0-clause-counts g c =
    rises_node c.in-Err.fault c.loss_of-why.result.0 c.loss_of-why.result.1 _ _ c.loss_of-why.ensures.loss
    (λ e. c.in-Err.ensures.counted (ap Err e)) (λ e. c.in-Err.ensures.memory_uncounted (ap Err e))

pub returns-clause-counts : goal.returns-clause-counts
returns-clause-counts g c =
    rises_client c.in-Err.fault _ _ _ _ (λ e. c.in-Err.ensures.counted (ap Err e))
    (λ e. c.in-Err.ensures.memory_uncounted (ap Err e)) c.close.ensures.uncounted

pub returns-clause-sent : goal.returns-clause-sent
returns-clause-sent g c =
    lost_client g.G.Ledger.stands g.K.Link.tells (record { peer = c.args.p; text = c.args.text.now })
    c.in-Err.fault c.loss_of-why.result.0 c.loss_of-why.result.1
    c.args.server.now c.gone.new.self (g.K.Link.trace c.args.link.now) (g.K.Link.trace c.send.new.self)
    (g.K.Link.trace c.close.new.self)
    (g.K.Link.faults c.args.link.now) (g.K.Link.faults c.send.new.self) (g.K.Link.faults c.close.new.self)
    c.if-p-eq0.false c.loss_of-why.ensures.loss (λ e. c.in-Err.ensures.counted (ap Err e))
    (λ e. c.in-Err.ensures.memory_uncounted (ap Err e)) c.close.ensures.uncounted
    (record {
      ledger = ap (λ (x : State g.row.G.Denot). x.ledger) c.gone.ensures.gone;
      surplus = ap (λ (x : State g.row.G.Denot). x.surplus) c.gone.ensures.gone;
      stood = c.gone.ensures.stands;
    })
    c.in-Err.ensures.not_sent c.close.ensures.closed
