use Rattle.std.proofs.Common.{◌≤◌, ◌-◌, length}
use Rattle.el_vec_rows.specs.within.InMemory.{AreWriting}
use Rattle.el_vec_rows.proofs.vec_rows.write.Given as goal

abbrev pub invariant-loop-k : goal.invariant-loop-k
invariant-loop-k l = record {
  within : l.k ≤ length l.sealed.changes;
  writing : AreWriting l.fn.kept l.kept l.sealed.changes l.k;
}

abbrev pub decreases-loop-k : goal.decreases-loop-k
decreases-loop-k l = length l.sealed.changes - l.k
