use Rattle.std.proofs.Common.{◌≡◌, ◌-◌, ◌≤◌}
use Rattle.el_merkle.specs.Merkle as spec
use Rattle.el_merkle.proofs.tree.row.Given as goal

abbrev pub invariant-loop : goal.invariant-loop
invariant-loop l = record {
  inside : l.counter ≤ l.levels;
  same : spec.row (l.levels - l.counter) l.hashes.items ≡ spec.row l.levels l.list;
}
