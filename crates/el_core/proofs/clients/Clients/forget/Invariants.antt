use Rattle.std.proofs.Common.{◌≡◌, length}
use Rattle.el_core.specs.Arrivals.{kept_clients}
use Rattle.el_core.proofs.clients.Clients.forget.Given as goal

abbrev pub decreases-loop-i : goal.decreases-loop-i
decreases-loop-i l = length l.self

abbrev pub invariant-loop-i : goal.invariant-loop-i
invariant-loop-i l = kept_clients l.p l.self ≡ kept_clients l.p l.initial.self
