use Rattle.std.proofs.Common.{◌≡◌, ◌++◌, drop, map}
use Rattle.el_sessions.specs.declared.slots.Place.{Place}
use Rattle.el_sessions.proofs.session.scripts_of.Given as goal

abbrev pub invariant-loop-place : goal.invariant-loop-place
invariant-loop-place l =
    l.scripts.items ++ map (λ (p : Place). p.script_hash) (drop l.place-index l.places)
    ≡ map (λ (p : Place). p.script_hash) l.places
