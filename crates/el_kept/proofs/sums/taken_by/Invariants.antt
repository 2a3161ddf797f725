use Rattle.std.proofs.Common.{◌≡◌, ◌≤◌, ◌*◌, ◌^◌, take}
use Rattle.el_kept.specs.Named.{total_sources}
use Rattle.el_kept.proofs.sums.taken_by.Given as goal

abbrev pub invariant-loop-source : goal.invariant-loop-source
invariant-loop-source l = record {
  so_far : l.sum ≡ total_sources (take l.source-index l.sources);
  small : l.sum ≤ l.source-index * 2 ^ 64;
}
