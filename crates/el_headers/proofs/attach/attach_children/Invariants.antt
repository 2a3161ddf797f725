use Rattle.std.proofs.Common.{◌≡◌, ◌+◌, ℕ, Some, length}
use Rattle.std.specs.Prelude.{vec_capacity}
use Rattle.std.specs.List.{slice_get}
use Rattle.el_chain.specs.declared.node.Node.{Node}
use Rattle.el_headers.specs.within.Tables.{AreHeights, ChildrenLeft, StayKnown, open_count}
use Rattle.el_headers.proofs.Heights.{places_left}
use Rattle.el_headers.proofs.attach.attach_children.Given as goal

-- The parent's children are left from the newest that was not looked at; the others are attached.
abbrev pub invariant-loop-newest : goal.invariant-loop-newest
invariant-loop-newest l = record {
  heights : AreHeights l.nodes l.heights l.stack.items (ChildrenLeft l.parent l.newest);
  child : (child : ℕ) → l.newest ≡ Some child → (m : Node) → slice_get l.nodes l.parent ≡ Some m
      → (n : Node) × (slice_get l.nodes child ≡ Some n) × (n.header.previous ≡ m.hash);
  parent : slice_get l.heights l.parent ≡ Some (Some l.height);
  known : StayKnown l.initial.heights l.heights;
  sum : length l.stack.items + open_count l.heights ≡ length l.initial.stack.items + open_count l.initial.heights;
  capacity : vec_capacity l.stack ≡ vec_capacity l.initial.stack;
}

abbrev pub decreases-loop-newest : goal.decreases-loop-newest
decreases-loop-newest l = places_left l.newest
