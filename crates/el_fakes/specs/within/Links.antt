-- What a link in memory keeps.
use Rattle.std.specs.Prelude.{◌≡◌, ◌+◌, ◌≤◌, map, vec_len, vec_capacity}
use Rattle.el_outside.specs.Trace.{Trace}
use Rattle.el_fakes.specs.declared.steady_link.SteadyLink.TheInside.{Inside}
use Rattle.el_fakes.specs.Coming.{SteadyState}
use Rattle.el_fakes.specs.Kept.{trace_message, trace_closing}
use Rattle.el_fakes.specs.Greatest.{greatest_peer}
use Rattle.el_fakes.specs.within.Heard.{arrivals_of}
use Rattle.el_fakes.specs.within.Peers.{AreOpenPeers}
use Rattle.el_fakes.specs.within.Taking.{steps_from}

-- the trace so far
abbrev pub trace_of : Inside → Trace
trace_of a = record {
  arrivals = arrivals_of a.heard;
  messages = map trace_message a.sent.items;
  closings = map trace_closing a.closed.items;
}

-- the trace so far, what is still to come, and how many calls were made
abbrev pub link_state : Inside → SteadyState
link_state a = record { trace = trace_of a; coming = steps_from a.spot a.coming.items; calls = a.calls }

-- The peers are those that are open, the last number is the greatest of the trace, and there is room for each
-- peer that is open or may yet come to be closed.
pub record FieldsAgree (a : Inside) : Type 0 where
  pub peers : AreOpenPeers (trace_of a) a.peers.items
  pub last : a.last ≡ greatest_peer (trace_of a)
  pub count : vec_len a.peers + vec_len a.closed ≤ a.spot.place
  pub place : a.spot.place ≤ vec_len a.coming
  pub peers_room : vec_len a.coming ≤ vec_capacity a.peers
  pub closed_room : vec_len a.coming ≤ vec_capacity a.closed
