use Rattle.std.proofs.Common.{◌≡◌, take}
use Rattle.el_audit.proofs.comparing.place_of_difference.Given as goal

-- the lists are the same so far
abbrev pub invariant-loop-place : goal.invariant-loop-place
invariant-loop-place g l = take l.place l.wanted ≡ take l.place l.claimed
