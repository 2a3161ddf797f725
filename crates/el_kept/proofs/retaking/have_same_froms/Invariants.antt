use Rattle.std.proofs.Common.{◌≡◌, length, drop}
use Rattle.el_kept.specs.Tables.{same_froms}
use Rattle.el_kept.proofs.retaking.have_same_froms.Given as goal

-- as many, and those before are the same
abbrev pub invariant-loop-number : goal.invariant-loop-number
invariant-loop-number l = record {
  sizes : length l.old ≡ length l.new;
  same : same_froms l.old l.new ≡ same_froms (drop l.number l.old) (drop l.number l.new);
}
