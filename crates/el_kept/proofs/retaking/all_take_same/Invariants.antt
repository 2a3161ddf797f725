use Rattle.std.proofs.Common.{◌≡◌, length, take}
use Rattle.el_kept.proofs.retaking.all_take_same.Given as goal

-- as many, and those before are the same
abbrev pub invariant-loop-number : goal.invariant-loop-number
invariant-loop-number l = record {
  sizes : length l.old ≡ length l.new;
  same : take l.number l.old ≡ take l.number l.new;
}
