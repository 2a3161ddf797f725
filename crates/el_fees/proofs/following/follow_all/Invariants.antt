use Rattle.std.proofs.Common.{ℕ, ◌<◌, get_or, take, sum_by}
use Rattle.el_mempool.specs.declared.fees.TheConstants.{FEE_EDGES}
use Rattle.el_fees.specs.within.Sums.{added_at, removed_at, AreSums, IsBalanced}
use Rattle.el_fees.proofs.following.follow_all.Given as goal

abbrev pub invariant-loop-change : goal.invariant-loop-change
invariant-loop-change l = record {
  small : AreSums l.sizes;
  balanced : (k : ℕ) → k < 14
      → IsBalanced (get_or l.initial.sizes k 0) (get_or l.sizes k 0) (sum_by (added_at (get_or FEE_EDGES k 0)) (take l.change-index l.changes))
      (sum_by (removed_at (get_or FEE_EDGES k 0)) (take l.change-index l.changes));
}
