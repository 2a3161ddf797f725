use Rattle.std.proofs.Common.{◌≡◌}
use Rattle.el_fakes.specs.Coming.{hand_first}
use Rattle.el_fakes.specs.within.Peers.{closed_in}
use Rattle.el_fakes.specs.within.Taking.{steps_from}
use Rattle.el_fakes.proofs.taking.take.Given as goal

-- what comes next from the spot on is what comes next from here on
abbrev pub invariant-loop-place : goal.invariant-loop-place
invariant-loop-place l = hand_first l.last (closed_in l.closed) (steps_from l.fn.spot l.coming)
    ≡ hand_first l.last (closed_in l.closed) (steps_from (record { place = l.place; given = l.given }) l.coming)
