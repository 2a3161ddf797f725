-- What the sockets can bring.
use Rattle.std.specs.Prelude.{ℕ}
use Rattle.el_outside.specs.declared.link.Arrival.{Arrival}
use Rattle.el_outside.specs.declared.link.Arrival.TheVariants as arrival
use Rattle.el_outside.specs.Trace.{IsNextArrival}

-- the last client's number after an arrival
abbrev pub last_after : ℕ → Arrival → ℕ
last_after last (arrival.Opened p) = p
last_after last (arrival.Bytes p n) = last
last_after last (arrival.Closed p) = last
last_after last arrival.Quiet = last
last_after last arrival.Ended = last

-- what can come next after that last client's number
abbrev pub IsNextAfter : ℕ → Arrival → Type 0
IsNextAfter last arrival = IsNextArrival last arrival (last_after last arrival)
