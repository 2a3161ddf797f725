use Rattle.std.proofs.Common.{◌≡◌, ◌<◌, ◌==◌, ◌++◌, ◌∷◌, [], length, map, true, sym, ◌∙◌, ap, arith, append-nil}
use Rattle.std.specs.List.{list_any}
use Rattle.el_outside.specs.Trace.{is_open}
use Rattle.el_fakes.specs.Coming.{SteadyState}
use Rattle.el_fakes.specs.Greatest.{greatest_peer}
use Rattle.el_fakes.specs.Kept.{trace_message, trace_closing}
use Rattle.el_fakes.specs.within.Heard.{arrivals_of}
use Rattle.el_fakes.specs.within.Links.{trace_of}
use Rattle.std.proofs.lemmas.List.{map-append}
use Rattle.el_fakes.proofs.PeerLemmas.{closes, last-closes, shorter-but}
use Rattle.el_fakes.proofs.steady_link.SteadyLinkLink.close.Goals as goal

-- the peer is one of those that are open
among : (c : goal.After-put_closed) → list_any (λ q. c.args.p == q) c.self.inside.peers.items ≡ true
among c = rw (← c.as_slice.ensures.value) (sym c.is_among.ensures ∙ c.if-is_among.true)

-- the closings with one more
closings_now : (c : goal.After-put_closed) → map trace_closing c.put_closed.new.closed.items ≡ map trace_closing c.self.inside.closed.items ++ record { peer = c.args.p; why = c.args.why } ∷ []
closings_now c = rw c.put_closed.ensures.items (map-append trace_closing c.self.inside.closed.items _)

-- the greatest number stays
same_greatest : (c : goal.After-put_closed) → greatest_peer (record {
  arrivals = arrivals_of c.self.inside.heard;
  messages = map trace_message c.self.inside.sent.items;
  closings = map trace_closing c.put_closed.new.closed.items;
}) ≡ greatest_peer (trace_of c.self.inside)
same_greatest c =
    rw (closings_now c) (
    last-closes (arrivals_of c.self.inside.heard) (map trace_message c.self.inside.sent.items) (map trace_closing c.self.inside.closed.items) c.args.p c.args.why
    (sym (c.self.invariant.peers c.args.p) ∙ among c))

same_trace : (c : goal.After-put_closed) → trace_of c.self.inside ≡ c.args.self.now.trace
same_trace c = ap (λ (s : SteadyState). s.trace) c.self.view_is

pub invariant_of-self : goal.invariant_of-self
invariant_of-self c = record {
  peers =
      rw (c.remove.ensures.without, closings_now c) (
      closes (arrivals_of c.self.inside.heard) (map trace_message c.self.inside.sent.items) (map trace_closing c.self.inside.closed.items)
      c.self.inside.peers.items c.args.p c.args.why c.self.invariant.peers);
  last = c.self.invariant.last ∙ sym (same_greatest c);
  count =
      let less : length c.remove.new.peers.items < length c.self.inside.peers.items =
      rw c.remove.ensures.without (shorter-but c.args.p c.self.inside.peers.items (among c)) in
      omega arith;
  place = omega arith;
  peers_room = omega arith;
  closed_room = omega arith;
}

pub returns-then-is_among-clause-closed : goal.returns-then-is_among-clause-closed
returns-then-is_among-clause-closed c =
    let open_is : is_open (trace_of c.self.inside) c.args.p ≡ true = sym (c.self.invariant.peers c.args.p) ∙ among c in
    rw (← same_trace c, open_is, closings_now c) (simp append-nil)

pub returns-then-is_among-clause-same_last : goal.returns-then-is_among-clause-same_last
returns-then-is_among-clause-same_last c = same_greatest c ∙ ap greatest_peer (same_trace c)
