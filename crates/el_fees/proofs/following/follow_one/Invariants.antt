use Rattle.std.proofs.Common.{◌≡◌, ℕ, ◌<◌, ◌≤◌, ◌^◌, get_or}
use Rattle.el_mempool.specs.declared.fees.TheConstants.{FEE_EDGES}
use Rattle.el_fees.specs.within.Sums.{added_at, removed_at, IsBalanced}
use Rattle.el_fees.proofs.following.follow_one.Given as goal

abbrev pub invariant-loop-i : goal.invariant-loop-i
invariant-loop-i l = record {
  small : (k : ℕ) → k < l.i → get_or l.sizes k 0 < 2 ^ 64;
  done : (k : ℕ) → k < l.i
      → IsBalanced (get_or l.initial.sizes k 0) (get_or l.sizes k 0) (added_at (get_or FEE_EDGES k 0) l.change) (removed_at (get_or FEE_EDGES k 0) l.change);
  rest : (k : ℕ) → l.i ≤ k → get_or l.sizes k 0 ≡ get_or l.initial.sizes k 0;
}
