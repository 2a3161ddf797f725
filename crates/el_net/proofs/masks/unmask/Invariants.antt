use Rattle.std.proofs.Common.{◌≡◌, ◌%◌}
use Rattle.el_net.proofs.Unmasking.{so_far}
use Rattle.el_net.proofs.masks.unmask.Given as goal

pub record Loop (l : goal.Live-loop-at) : Type 0 where
  pub start : l.start ≡ l.place % 8
  pub bytes : l.bytes ≡ so_far l.mask.bytes l.place l.initial.bytes l.at

abbrev pub invariant-loop-at : goal.invariant-loop-at
invariant-loop-at l = Loop l
