use Rattle.std.proofs.Common.{◌≡◌, ◌<◌, ◌++◌, length}
use Rattle.el_merkle.specs.Merkle as spec
use Rattle.el_merkle.proofs.tree.branch.Given as goal

abbrev pub invariant-loop-partners : goal.invariant-loop-partners
invariant-loop-partners l = record {
  inside : l.place < length l.row.items;
  same : spec.root l.row.items ≡ spec.root l.list;
  whole : l.partners.items ++ spec.branch_of l.row.items l.place ≡ spec.branch_of l.list l.pos;
}

abbrev pub decreases-loop-partners : goal.decreases-loop-partners
decreases-loop-partners l = length l.row.items
