-- What went over a link: the arrivals that were taken, the messages that were sent, the closings.
use Rattle.std.specs.Prelude.{◌≡◌, ℕ, ◌<◌, ◌≤◌, ◌==◌, Bool, false, not, ◌&&◌, List, ◌++◌, take, IsTrue}
use Rattle.std.specs.List.{list_any}
use Rattle.el_outside.specs.declared.link.Arrival.{Arrival}
use Rattle.el_outside.specs.declared.link.Arrival.TheVariants as arrival
use Rattle.el_outside.specs.declared.link.Why.{Why}
use Rattle.el_outside.specs.declared.link.TheConstants.{BUFFER_SIZE}

-- an arrival with its bytes
pub data ArrivalWithBytes : Type 0 where
  opened : ℕ → ArrivalWithBytes
  brought : ℕ → List ℕ → ArrivalWithBytes
  closed : ℕ → ArrivalWithBytes
  quiet : ArrivalWithBytes
  ended : ArrivalWithBytes

-- the arrival, with the bytes that stand first in the buffer
abbrev pub with_bytes : Arrival → List ℕ → ArrivalWithBytes
with_bytes (arrival.Opened p) buf = opened p
with_bytes (arrival.Bytes p n) buf = brought p (take n buf)
with_bytes (arrival.Closed p) buf = closed p
with_bytes arrival.Quiet buf = quiet
with_bytes arrival.Ended buf = ended

-- What a call of `next` can answer, where `last` is the greatest number that was opened before and `now` the
-- greatest after it: a new peer has a number greater than all before, and bytes fill the buffer or a part of
-- it.
abbrev pub IsNextArrival : ℕ → Arrival → ℕ → Type 0
IsNextArrival last (arrival.Opened p) now = (last < p) × (p ≤ now)
IsNextArrival last (arrival.Bytes p n) now = (1 ≤ n) × (n ≤ BUFFER_SIZE) × (last ≤ now)
IsNextArrival last (arrival.Closed p) now = last ≤ now
IsNextArrival last arrival.Quiet now = last ≤ now
IsNextArrival last arrival.Ended now = last ≤ now

-- a message to a peer
pub record Message : Type 0 where
  pub peer : ℕ
  pub text : List ℕ

-- a peer that was closed, and why
pub record Closing : Type 0 where
  pub peer : ℕ
  pub why : Why

-- all that went over a link, each list in order
pub record Trace : Type 0 where
  pub arrivals : List ArrivalWithBytes
  pub messages : List Message
  pub closings : List Closing

-- the trace goes on by these
abbrev pub longer : List ArrivalWithBytes → List Message → List Closing → Trace → Trace
longer arrivals messages closings trace = record {
  arrivals = trace.arrivals ++ arrivals;
  messages = trace.messages ++ messages;
  closings = trace.closings ++ closings;
}

-- one trace goes on by these to the other
abbrev pub GoesOn : Trace → Trace → List ArrivalWithBytes → List Message → List Closing → Type 0
GoesOn before after arrivals messages closings = after ≡ longer arrivals messages closings before

-- the arrival tells that the peer has come
abbrev pub opens : ℕ → ArrivalWithBytes → Bool
opens p (opened q) = p == q
opens p other = false

-- the arrival tells that the peer has left
abbrev pub leaves : ℕ → ArrivalWithBytes → Bool
leaves p (closed q) = p == q
leaves p other = false

-- the arrival brings bytes of the peer, or that it left
abbrev pub names : ℕ → ArrivalWithBytes → Bool
names p (brought q bytes) = p == q
names p (closed q) = p == q
names p other = false

-- the peer was closed
abbrev pub was_closed : Trace → ℕ → Bool
was_closed trace p = list_any (λ (c : Closing). p == c.peer) trace.closings

-- nobody with that number left or was closed
abbrev pub is_unused : Trace → ℕ → Bool
is_unused trace p = not (list_any (leaves p) trace.arrivals) && not (was_closed trace p)

-- The peer is open: it came, and since then it neither left nor was closed. A number is never used again.
abbrev pub is_open : Trace → ℕ → Bool
is_open trace p = list_any (opens p) trace.arrivals && is_unused trace p

-- nobody with that number came, left or was closed
abbrev pub is_new : Trace → ℕ → Bool
is_new trace p = not (list_any (opens p) trace.arrivals) && is_unused trace p

-- no arrival names a peer that was closed
abbrev pub NamesNoClosed : Trace → ArrivalWithBytes → Type 0
NamesNoClosed trace arrival = (p : ℕ) → IsTrue (names p arrival) → IsTrue (was_closed trace p) → ⊥
