use Rattle.std.proofs.Common.{◌≡◌, take, drop, ◌++◌}
use Rattle.el_calls.specs.Versions.{cut_at_dot}
use Rattle.el_calls.proofs.versions.dot_in.Given as goal

abbrev pub invariant-loop-i : goal.invariant-loop-i
invariant-loop-i l = cut_at_dot l.text ≡ (take l.i l.text ++ (cut_at_dot (drop l.i l.text)).0, (cut_at_dot (drop l.i l.text)).1)
