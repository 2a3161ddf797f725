use Rattle.std.proofs.Common.{◌+◌, ◌≤◌, length}
use Rattle.std.specs.Prelude.{vec_capacity}
use Rattle.el_headers.specs.within.Tables.{AreHeights, NoneLeft, StayKnown, open_count}
use Rattle.el_headers.proofs.attach.attach_waiting.Given as goal

-- The nodes on the stack have children to be looked at; all others are attached where their parents are.
abbrev pub invariant-loop-parent : goal.invariant-loop-parent
invariant-loop-parent l = record {
  heights : AreHeights l.nodes l.heights l.stack.items NoneLeft;
  known : StayKnown l.initial.heights l.heights;
  room : length l.stack.items + open_count l.heights ≤ vec_capacity l.stack;
}

-- Each turn takes one node off the stack, and puts on it as many as are attached.
abbrev pub decreases-loop-parent : goal.decreases-loop-parent
decreases-loop-parent l = length l.stack.items + open_count l.heights
