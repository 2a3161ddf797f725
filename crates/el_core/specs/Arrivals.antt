-- What the server makes of an arrival, before its turns.
use Rattle.std.specs.Prelude.{◌≡◌, ◌⊎◌, ℕ, ◌==◌, nat_lt, true, not, filter, ◌<◌, ◌≤◌, if◌then◌else◌, List, [], ◌∷◌, ◌++◌, length, Option, Some, None}
use Rattle.el_outside.specs.Trace.{ArrivalWithBytes, opened, brought, closed, quiet, ended}
use Rattle.el_outside.specs.declared.link.Arrival.{Arrival}
use Rattle.el_outside.specs.declared.link.Arrival.TheVariants as arrival
use Rattle.el_chain.specs.Chains.{Chain}
use Rattle.el_world.specs.World.{World, Event, joins, leaves, with_client, without_client, client_limit, events, after_hearing}
use Rattle.el_core.specs.State.{State, ClientState, Stands, is_numbered}

-- the arrival with all the bytes that were handed over
abbrev pub with_all_bytes : Arrival → List ℕ → ArrivalWithBytes
with_all_bytes (arrival.Opened p) bytes = opened p
with_all_bytes (arrival.Bytes p n) bytes = brought p bytes
with_all_bytes (arrival.Closed p) bytes = closed p
with_all_bytes arrival.Quiet bytes = quiet
with_all_bytes arrival.Ended bytes = ended

-- Events that are done with an arrival, at once and without a turn, since they send and close nothing:
-- `Takes` holds of each.
pub data Quietly (world : World) : List Event → World → Type 0 where
  none : Quietly world [] world
  joined : (p : ℕ) → nat_lt (length world.sessions) client_limit ≡ true
      → Quietly world (joins p ∷ []) (with_client p world)
  departed : (p : ℕ) → Quietly world (leaves p ∷ []) (without_client p world)

-- who is connected, or waits to be closed, once an arrival was taken
abbrev pub IsAfterArrival : ArrivalWithBytes → World → World → Option ℕ → Type 0
IsAfterArrival (opened p) world next surplus =
    ((next ≡ with_client p world) × (surplus ≡ None)) ⊎ (((next ≡ world) × (surplus ≡ Some p))
    ⊎ ((next ≡ world) × (surplus ≡ None)))
IsAfterArrival (brought p bytes) world next surplus =
    (next ≡ after_hearing (brought p bytes) world) × (surplus ≡ None)
IsAfterArrival (closed p) world next surplus = (next ≡ without_client p world) × (surplus ≡ None)
IsAfterArrival quiet world next surplus = (next ≡ world) × (surplus ≡ None)
IsAfterArrival ended world next surplus = (next ≡ world) × (surplus ≡ None)

-- The server took an arrival: its events are those that were done with it, and those that are left to turns.
pub record TookArrival {G : Type 0} (stands : G → Chain → Type 0) (arrival : ArrivalWithBytes) (world : World)
    (s : State G) : Type 0 where
  pub done : List Event
  pub left : List Event
  pub next : World
  pub whole : events world arrival ≡ done ++ left
  pub quietly : Quietly (after_hearing arrival world) done next
  pub stood : Stands stands s next left
  pub after : IsAfterArrival arrival world next s.surplus

-- the clients without this one
abbrev pub kept_clients : ℕ → List ClientState → List ClientState
kept_clients p clients = filter (λ (c : ClientState). not (is_numbered p c)) clients

-- nobody speaks any more where it was this client
abbrev pub kept_speaker : ℕ → Option ℕ → Option ℕ
kept_speaker p None = None
kept_speaker p (Some q) = if q == p then None else Some q

-- the server without that client
abbrev pub gone_from : {G : Type 0} → State G → ℕ → State G
gone_from s p = record s { clients = kept_clients p s.clients; speaker = kept_speaker p s.speaker }

-- who comes has a number above this one
abbrev pub IsAbove : ℕ → Arrival → Type 0
IsAbove last (arrival.Opened p) = last < p
IsAbove last other = Unit {0}

-- who comes has a number not above this one
abbrev pub ComesUpTo : ℕ → Arrival → Type 0
ComesUpTo now (arrival.Opened p) = p ≤ now
ComesUpTo now other = Unit {0}
