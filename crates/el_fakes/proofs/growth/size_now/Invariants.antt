use Rattle.std.proofs.Common.{◌≡◌, ◌≤◌, drop}
use Rattle.el_fakes.specs.Archives.{size_by}
use Rattle.el_fakes.proofs.growth.size_now.Given as goal

abbrev pub invariant-loop-more : goal.invariant-loop-more
invariant-loop-more l = record {
  exact : size_by l.calls l.file (drop l.more-index l.later) l.least ≡ size_by l.calls l.file l.later l.fn.size;
  within : l.least ≤ l.fn.size;
}
