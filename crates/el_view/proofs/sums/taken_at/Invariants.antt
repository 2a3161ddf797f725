use Rattle.std.proofs.Common.{◌≡◌, ◌≤◌, ◌*◌, ◌^◌, take}
use Rattle.el_view.specs.within.Sums.{taken_at}
use Rattle.el_view.proofs.sums.taken_at.Given as goal

abbrev pub invariant-loop-source : goal.invariant-loop-source
invariant-loop-source l = record {
  so_far : l.sum ≡ taken_at l.script_hash.0 (take l.source-index l.inputs);
  small : l.sum ≤ l.source-index * 2 ^ 64;
}
