use Rattle.std.proofs.Common.{◌≡◌, ◌≤◌, ◌*◌, ◌^◌, take}
use Rattle.el_view.specs.within.Sums.{given_at}
use Rattle.el_view.proofs.sums.given_at.Given as goal

abbrev pub invariant-loop-held : goal.invariant-loop-held
invariant-loop-held l = record {
  so_far : l.sum ≡ given_at l.script_hash.0 (take l.held-index l.outputs);
  small : l.sum ≤ l.held-index * 2 ^ 64;
}
