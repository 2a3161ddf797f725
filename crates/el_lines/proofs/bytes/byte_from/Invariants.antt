use Rattle.std.proofs.Common.{◌≡◌, ◌+◌, take}
use Rattle.std.specs.Prelude.{◌≤◌}
use Rattle.el_lines.specs.LineStates.{LacksByte}
use Rattle.el_lines.proofs.bytes.byte_from.Given as goal

abbrev pub invariant-loop-place : goal.invariant-loop-place
invariant-loop-place l = LacksByte l.byte (take l.place l.bytes) × (l.seen ≤ l.place) × (l.looks + l.seen ≡ l.fn.looks + l.place)
