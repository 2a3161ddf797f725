use Rattle.std.proofs.Common.{◌≡◌, ◌-◌, ◌≤◌, ◌++◌}
use Rattle.el_levels.specs.within.RowsThrough.{rows_through}
use Rattle.el_levels.proofs.tree.rows_over.Given as goal

abbrev pub invariant-loop : goal.invariant-loop
invariant-loop l = record {
  inside : l.counter ≤ l.levels;
  rows : l.hashes.items ++ rows_through (l.levels - l.counter) l.last.items ≡ rows_through l.levels l.list;
}
