use Rattle.std.proofs.Common.{◌≡◌, ℕ, ◌+◌, ◌≤◌, length, map, true, sym, ◌∙◌, subst, arith, rules}
use Rattle.el_outside.specs.Trace.{IsNextArrival, was_closed, with_bytes}
use Rattle.el_fakes.specs.Coming.{SteadyState, next_after}
use Rattle.el_fakes.specs.Greatest.{greatest_peer}
use Rattle.el_fakes.specs.Kept.{trace_message, trace_closing}
use Rattle.el_fakes.specs.within.Heard.{arrivals_of}
use Rattle.el_fakes.specs.within.Links.{trace_of}
use Rattle.el_fakes.specs.within.Peers.{adds, greatest_after, closed_in}
use Rattle.el_fakes.specs.within.Taking.{steps_from}
use Rattle.el_fakes.proofs.Arriving.{same_next}
use Rattle.el_fakes.proofs.PeerLemmas.{arrives, last-arrives, length-peers_after, closed_of}
use Rattle.el_fakes.proofs.steady_link.SteadyLinkLink.next.Goals as goal

lawful : (c : goal.Joined-self-then) → IsNextArrival (greatest_peer (trace_of c.self.inside)) c.take-taken.result.arrival (greatest_after c.self.inside.last c.take-taken.result.arrival)
lawful c =
    subst (λ (n : ℕ). IsNextArrival n c.take-taken.result.arrival (greatest_after c.self.inside.last c.take-taken.result.arrival)) c.self.invariant.last c.take-taken.ensures.taken.lawful

greatest_now : (c : goal.Joined-self-then) → c.welcome-self-inside.result
    ≡ greatest_peer (record { arrivals = arrivals_of c.then.result; messages = map trace_message c.self.inside.sent.items; closings = map trace_closing c.self.inside.closed.items })
greatest_now c =
    rw (c.then.ensures, c.welcome-self-inside.ensures.last) (
    last-arrives (arrivals_of c.self.inside.heard) (map trace_message c.self.inside.sent.items) (map trace_closing c.self.inside.closed.items)
    c.self.inside.last c.take-taken.result.arrival c.take-taken.new.buf c.self.invariant.last)

pub invariant_of-self : goal.invariant_of-self
invariant_of-self c = record {
  peers =
      rw (c.then.ensures, c.welcome-self-inside.ensures.peers) (
      arrives (arrivals_of c.self.inside.heard) (map trace_message c.self.inside.sent.items) (map trace_closing c.self.inside.closed.items)
      c.self.inside.peers.items c.take-taken.result.arrival c.take-taken.new.buf _ c.self.invariant.peers (lawful c));
  last = greatest_now c;
  count =
      let more : length c.welcome-self-inside.new.peers.items ≤ length c.self.inside.peers.items + adds c.take-taken.result.arrival =
      rw c.welcome-self-inside.ensures.peers (length-peers_after c.self.inside.peers.items c.take-taken.result.arrival) in
      omega arith;
  place = search rules;
  peers_room = omega arith;
  closed_room = omega arith;
}

pub returns-clause-lawful : goal.returns-clause-lawful
returns-clause-lawful c =
    let after : greatest_after c.self.inside.last c.take-taken.result.arrival
    ≡ greatest_peer (record { arrivals = arrivals_of c.then.result; messages = map trace_message c.self.inside.sent.items; closings = map trace_closing c.self.inside.closed.items })
    = sym c.welcome-self-inside.ensures.last ∙ greatest_now c in
    rw (← c.self.view_is) (subst (λ (n : ℕ). IsNextArrival (greatest_peer (trace_of c.self.inside)) c.take-taken.result.arrival n) after (lawful c))

pub returns-clause-silent : goal.returns-clause-silent
returns-clause-silent c p named was =
    let before : was_closed (trace_of c.self.inside) p ≡ true = subst (λ (s : SteadyState). was_closed s.trace p ≡ true) (sym c.self.view_is) was in
    c.take-taken.ensures.taken.silent p named
    (rw c.as_slice-2.ensures.value (sym (closed_of c.self.inside.closed.items p) ∙ before))

-- what comes next is what is taken
next_is : (c : goal.Joined-self-then) → next_after (trace_of c.self.inside) (steps_from c.self.inside.spot c.self.inside.coming.items)
    ≡ record { arrival = with_bytes c.take-taken.result.arrival c.take-taken.new.buf; coming = steps_from c.take-taken.result.spot c.self.inside.coming.items }
next_is c =
    rw (← c.self.invariant.last, same_next c.self.inside.last (was_closed (trace_of c.self.inside)) (closed_in c.self.inside.closed.items) (closed_of c.self.inside.closed.items))
    (rw (c.as_slice.ensures.value, c.as_slice-2.ensures.value) at c.take-taken.ensures.handed)

pub returns-clause-handed : goal.returns-clause-handed
returns-clause-handed c = rw (← c.self.view_is) (next_is c)
