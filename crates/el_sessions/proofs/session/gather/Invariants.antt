use Rattle.std.proofs.Common.{◌≡◌, ◌++◌, drop}
use Rattle.el_sessions.specs.within.Slots.{places_found}
use Rattle.el_sessions.proofs.session.gather.Given as goal

abbrev pub invariant-loop-s : goal.invariant-loop-s
invariant-loop-s l = l.places.items ++ places_found l.map.entries (drop l.s-index l.scripts) ≡ places_found l.map.entries l.scripts
