-- The arrivals that a link in memory has handed over.
use Rattle.std.specs.Prelude.{List, [], ◌∷◌, ◌++◌}
use Rattle.el_outside.specs.Trace.{ArrivalWithBytes, with_bytes}
use Rattle.el_fakes.specs.declared.heard.Heard.{Heard, Nothing, After'}

-- the arrivals, in order
abbrev pub arrivals_of : Heard → List ArrivalWithBytes
arrivals_of Nothing = []
arrivals_of (After' shape before arrival buffer) = arrivals_of before ++ with_bytes arrival buffer.value ∷ []
