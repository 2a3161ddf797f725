use Rattle.std.proofs.Common.{◌≡◌, ◌≤◌, ◌*◌, ◌^◌, take}
use Rattle.el_mempool.specs.Sift.{total_held}
use Rattle.el_kept.proofs.sums.held_in.Given as goal

abbrev pub invariant-loop-held : goal.invariant-loop-held
invariant-loop-held l = record {
  so_far : l.sum ≡ total_held (take l.held-index l.outputs);
  small : l.sum ≤ l.held-index * 2 ^ 64;
}
