-- The peers of a link in memory.
use Rattle.std.specs.Prelude.{◌≡◌, ℕ, ◌==◌, Bool, not, List, [], ◌∷◌, ◌++◌, filter, max}
use Rattle.std.specs.List.{list_any}
use Rattle.el_outside.specs.declared.link.Arrival.{Arrival}
use Rattle.el_outside.specs.declared.link.Arrival.TheVariants as arrival
use Rattle.el_outside.specs.Trace.{Trace, is_open}
use Rattle.el_fakes.specs.declared.kept.Closed.{Closed}

-- how many peers an arrival adds
abbrev pub adds : Arrival → ℕ
adds (arrival.Opened p) = 1
adds (arrival.Bytes p n) = 0
adds (arrival.Closed p) = 0
adds arrival.Quiet = 0
adds arrival.Ended = 0

-- the peers but this one
abbrev pub but : ℕ → List ℕ → List ℕ
but p peers = filter (λ q. not (p == q)) peers

-- the peers that are open after an arrival
abbrev pub peers_after : List ℕ → Arrival → List ℕ
peers_after peers (arrival.Opened p) = peers ++ p ∷ []
peers_after peers (arrival.Bytes p n) = peers
peers_after peers (arrival.Closed p) = but p peers
peers_after peers arrival.Quiet = peers
peers_after peers arrival.Ended = peers

-- the greatest number of a peer after an arrival
abbrev pub greatest_after : ℕ → Arrival → ℕ
greatest_after last (arrival.Opened p) = max last p
greatest_after last (arrival.Bytes p n) = last
greatest_after last (arrival.Closed p) = max last p
greatest_after last arrival.Quiet = last
greatest_after last arrival.Ended = last

-- the peer was closed
abbrev pub closed_in : List Closed → ℕ → Bool
closed_in list p = list_any (λ (c : Closed). p == c.peer) list

-- the peers are those that the trace says are open
abbrev pub AreOpenPeers : Trace → List ℕ → Type 0
AreOpenPeers trace peers = (p : ℕ) → list_any (λ q. p == q) peers ≡ is_open trace p
