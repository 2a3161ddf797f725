use Rattle.std.proofs.Common.{rules, ◌≡◌, ◌≢◌, Some, refl, ◌∙◌, ◌+◌, arith, take, drop, take_all}
use Rattle.el_outside.specs.Trace.{Message}
use Rattle.el_core.specs.Turn.{messages_of, GoesTo}
use Rattle.el_loop.proofs.Sendings.{sent_none, sent_skip, sent_more, stopped_at, more_messages, here_messages, message_goes, front_goes, message_of}
use Rattle.el_loop.proofs.Rises.{rises_after}
use Rattle.el_loop.proofs.sending.send_all.Goals as goal

pub loop-p-init : goal.loop-p-init
loop-p-init g c = record {
  sent = λ next rest closing can. sent_none g.G.Ledger.stands g.K.Link.tells next rest closing
      c.args.server.now _ _ can.stood can.are_open can.can_close;
  same_ledger = refl;
  no_more = omega arith;
  numbers = λ n up. up;
  same_calls = refl;
  same_last = refl;
  more = omega arith;
}

pub loop-p-preserved-then-is_lost : goal.loop-p-preserved-then-is_lost
loop-p-preserved-then-is_lost g c =
    let is : c.loop-p.lost ≡ Some c.loop-p-item.result.0 = search rules in
    record {
      sent = λ next rest closing can.
          rw (more_messages c.args.sends.now c.loop-p.p-index c.loop-p-item.result c.loop-p-test.true
          c.loop-p-item.is)
          (sent_skip g.G.Ledger.stands g.K.Link.tells next rest closing _ (message_of c.loop-p-item.result)
          c.loop-p.lost c.args.server.now c.loop-p.server _ _ _ _ is
          (c.loop-p.invariant.sent next rest closing can));
      same_ledger = c.loop-p.invariant.same_ledger;
      no_more = c.loop-p.invariant.no_more;
      numbers = c.loop-p.invariant.numbers;
      same_calls = c.loop-p.invariant.same_calls;
      same_last = c.loop-p.invariant.same_last;
      more = c.loop-p.invariant.more;
    }

pub returns-in-Err-clause-stopped : goal.returns-in-Err-clause-stopped
returns-in-Err-clause-stopped g c = λ next rest closing can.
    let differs : c.loop-p.lost ≢ Some c.loop-p-item.result.0 = search rules in
    let here = message_goes (λ (m : Message). m.peer ≡ can.one_peer) c.args.sends.now c.loop-p.p-index
    c.loop-p-item.result c.loop-p-test.true c.loop-p-item.is can.to_one in
    let front = front_goes (λ (m : Message). m.peer ≡ can.one_peer) c.args.sends.now c.loop-p.p-index
    c.loop-p-item.result c.loop-p-test.true c.loop-p-item.is can.to_one in
    stopped_at g.G.Ledger.stands g.K.Link.tells next rest closing (messages_of c.args.sends.now)
    (messages_of (take c.loop-p.p-index c.args.sends.now))
    (messages_of (drop (c.loop-p.p-index + 1) c.args.sends.now)) (message_of c.loop-p-item.result)
    c.loop-p.lost c.loop-p-item.result.0 _ c.args.server.now c.loop-p.server
    c.send.new.server _ _ _ _ _ _ (here_messages c.args.sends.now c.loop-p.p-index c.loop-p-item.result
    c.loop-p-test.true c.loop-p-item.is) refl (rw (← here) at front) differs
    c.in-Err.ensures.unsent (c.loop-p.invariant.sent next rest closing can)

pub returns-in-Err-clause-counts : goal.returns-in-Err-clause-counts
returns-in-Err-clause-counts g c = rises_after c.loop-p.invariant.more c.in-Err.ensures.counts

pub returns-in-Err-clause-numbers : goal.returns-in-Err-clause-numbers
returns-in-Err-clause-numbers g c = λ last up.
    c.send.ensures.numbers last (c.loop-p.invariant.numbers last up)

pub loop-p-preserved : goal.loop-p-preserved
loop-p-preserved g c =
    let differs : c.loop-p.lost ≢ Some c.loop-p-item.result.0 = search rules in
    record {
      sent = λ next rest closing can.
          rw (
            more_messages c.args.sends.now c.loop-p.p-index c.loop-p-item.result c.loop-p-test.true
                c.loop-p-item.is,
            c.now_lost-lost.ensures,
          )
          (sent_more g.G.Ledger.stands g.K.Link.tells next rest closing _ (message_of c.loop-p-item.result)
          c.loop-p.lost c.in-Ok.now c.args.server.now c.loop-p.server
          c.send.new.server _ _ _ _ _ _ can.one_peer
          (front_goes (λ (m : Message). m.peer ≡ can.one_peer) c.args.sends.now c.loop-p.p-index
          c.loop-p-item.result c.loop-p-test.true c.loop-p-item.is can.to_one)
          (message_goes (λ (m : Message). m.peer ≡ can.one_peer) c.args.sends.now c.loop-p.p-index
          c.loop-p-item.result c.loop-p-test.true c.loop-p-item.is can.to_one)
          (message_goes (GoesTo next c.args.server.now.surplus closing) c.args.sends.now c.loop-p.p-index
          c.loop-p-item.result c.loop-p-test.true c.loop-p-item.is can.sends_to)
          differs c.in-Ok.ensures.sent (c.loop-p.invariant.sent next rest closing can));
      same_ledger = c.in-Ok.ensures.same_ledger ∙ c.loop-p.invariant.same_ledger;
      no_more = let a = c.loop-p.invariant.no_more in let b = c.in-Ok.ensures.no_more in omega arith;
      numbers = λ n up. c.in-Ok.ensures.numbers n (c.loop-p.invariant.numbers n up);
      same_calls = c.in-Ok.ensures.same_calls ∙ c.loop-p.invariant.same_calls;
      same_last = c.in-Ok.ensures.same_last ∙ c.loop-p.invariant.same_last;
      more = let a = c.loop-p.invariant.more in let b = c.in-Ok.ensures.counts.more in omega arith;
    }

pub returns-clause-sent : goal.returns-clause-sent
returns-clause-sent g c = λ next rest closing can.
    let k = c.loop-p-test.false in
    rw (take_all c.loop-p.p-index c.args.sends.now (omega arith)) at
    (c.loop-p.invariant.sent next rest closing can)
