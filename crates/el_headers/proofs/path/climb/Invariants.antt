use Rattle.el_headers.proofs.Paths.{IsClimbing}
use Rattle.el_headers.proofs.path.climb.Given as goal

abbrev pub invariant-loop-step : goal.invariant-loop-step
invariant-loop-step l = IsClimbing l.table.nodes.items l.table.heights.items l.number l.at l.height l.step l.path.items
