use Rattle.std.proofs.Common.{◌≡◌, ◌||◌, drop}
use Rattle.std.specs.List.{list_any}
use Rattle.el_base.specs.declared.hash.Hash32.{Hash32}
use Rattle.el_chain.specs.Headers.{same_hash}
use Rattle.el_kept.specs.Tables.{slot, slot_at_script}
use Rattle.el_join.proofs.removing.touched_by_all.Given as goal

abbrev pub invariant-loop-id : goal.invariant-loop-id
invariant-loop-id l = (s : Hash32) → (list_any (same_hash s) l.touched || list_any (λ (id : Hash32). slot_at_script s.0 (slot l.table id)) (drop l.id-index l.ids))
    ≡ list_any (λ (id : Hash32). slot_at_script s.0 (slot l.table id)) l.ids
