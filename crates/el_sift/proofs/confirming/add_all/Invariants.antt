use Rattle.std.proofs.Common.{◌≡◌, ◌||◌, drop}
use Rattle.el_base.specs.declared.hash.Hash32.{Hash32}
use Rattle.el_kept.specs.Tables.{has}
use Rattle.el_sift.proofs.confirming.add_all.Given as goal

-- those that were added and those of the rest
abbrev pub invariant-loop-id : goal.invariant-loop-id
invariant-loop-id l = (x : Hash32) → (has l.found x || has (drop l.id-index l.ids) x) ≡ (has l.initial.found x || has l.ids x)
