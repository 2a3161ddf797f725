use Rattle.std.proofs.Common.{◌≡◌, ◌++◌, drop}
use Rattle.std.specs.Prelude.{flat_map}
use Rattle.el_base.specs.declared.hash.Hash32.{Hash32}
use Rattle.el_kept.specs.Tables.{slot}
use Rattle.el_join.specs.within.Going.{gone_change}
use Rattle.el_join.proofs.removing.changes_of_all.Given as goal

abbrev pub invariant-loop-id : goal.invariant-loop-id
invariant-loop-id l = l.changes.items ++ flat_map (λ (id : Hash32). gone_change (slot l.table id)) (drop l.id-index l.ids)
    ≡ flat_map (λ (id : Hash32). gone_change (slot l.table id)) l.ids
