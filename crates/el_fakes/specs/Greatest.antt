-- The greatest number of a peer that a trace names.
use Rattle.std.specs.Prelude.{ℕ, List, [], ◌∷◌, max}
use Rattle.el_outside.specs.Trace.{ArrivalWithBytes, opened, brought, closed, quiet, ended, Closing, Trace}

-- the number of a peer that came or left
abbrev pub number : ArrivalWithBytes → ℕ
number (opened p) = p
number (brought p bytes) = 0
number (closed p) = p
number quiet = 0
number ended = 0

-- the greatest number of a peer that came or left
abbrev pub greatest_arrived : List ArrivalWithBytes → ℕ
greatest_arrived [] = 0
greatest_arrived (c ∷ cs) = max (number c) (greatest_arrived cs)

-- the greatest number of a peer that was closed
abbrev pub greatest_closed : List Closing → ℕ
greatest_closed [] = 0
greatest_closed (c ∷ cs) = max c.peer (greatest_closed cs)

-- the greatest number of a peer in the trace: 0 where there is none
abbrev pub greatest_peer : Trace → ℕ
greatest_peer trace = max (greatest_arrived trace.arrivals) (greatest_closed trace.closings)
