-- The numbers that a link names.
use Rattle.std.proofs.Common.{ℕ, ◌≤◌, arith}
use Rattle.el_outside.specs.Trace.{IsNextArrival}
use Rattle.el_outside.specs.declared.link.Arrival.{Arrival}
use Rattle.el_outside.specs.declared.link.Arrival.TheVariants as arrival
use Rattle.el_core.specs.Arrivals.{IsAbove, ComesUpTo}

pub above_next : (last now : ℕ) (a : Arrival) → IsNextArrival last a now → IsAbove last a
above_next last now (arrival.Opened p) next = next.0
above_next last now (arrival.Bytes p n) next = tt
above_next last now (arrival.Closed p) next = tt
above_next last now arrival.Quiet next = tt
above_next last now arrival.Ended next = tt

pub up_to_next : (last now : ℕ) (a : Arrival) → IsNextArrival last a now → ComesUpTo now a
up_to_next last now (arrival.Opened p) next = next.1
up_to_next last now (arrival.Bytes p n) next = tt
up_to_next last now (arrival.Closed p) next = tt
up_to_next last now arrival.Quiet next = tt
up_to_next last now arrival.Ended next = tt

pub no_less : (last now : ℕ) (a : Arrival) → IsNextArrival last a now → last ≤ now
no_less last now (arrival.Opened p) next = let lt = next.0 in let le = next.1 in omega arith
no_less last now (arrival.Bytes p n) next = next.2
no_less last now (arrival.Closed p) next = next
no_less last now arrival.Quiet next = next
no_less last now arrival.Ended next = next
