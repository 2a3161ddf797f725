use Rattle.std.proofs.Common.{◌≡◌, ℕ, List, ◌+◌, ◌++◌, length}
use Rattle.el_rows.proofs.row_list.fill.Given as goal

abbrev pub invariant-loop-left : goal.invariant-loop-left
invariant-loop-left l = record {
  more : (more : List ℕ) × (l.bytes.items ≡ l.fn.bytes.items ++ more);
  long : length l.bytes.items + l.left ≡ length l.fn.bytes.items + l.n;
}

abbrev pub decreases-loop-left : goal.decreases-loop-left
decreases-loop-left l = l.left
