use Rattle.std.proofs.Common.{◌≡◌, ◌≤◌, drop}
use Rattle.el_fakes.specs.Archives.{size_ahead}
use Rattle.el_fakes.proofs.growth.size_with.Given as goal

abbrev pub invariant-loop-room : goal.invariant-loop-room
invariant-loop-room l = record {
  exact : size_ahead l.calls l.file (drop l.room-index l.rooms) l.most ≡ size_ahead l.calls l.file l.rooms l.fn.size;
  within : l.fn.size ≤ l.most;
}
