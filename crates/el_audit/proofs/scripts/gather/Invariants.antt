use Rattle.std.proofs.Common.{◌≡◌, ◌||◌, drop}
use Rattle.el_base.specs.declared.hash.Hash32.{Hash32}
use Rattle.el_audit.specs.Claims.{is_paid_in}
use Rattle.el_audit.specs.within.Lists.{is_in_set}
use Rattle.el_audit.proofs.scripts.gather.Given as goal

-- what was added, and what is left
abbrev pub invariant-loop-placed : goal.invariant-loop-placed
invariant-loop-placed l = (s : Hash32) → (is_in_set l.scripts s || is_paid_in (drop l.placed-index l.chain) s) ≡ is_paid_in l.chain s
