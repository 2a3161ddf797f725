use Rattle.std.proofs.Common.{◌∙◌, ◌-◌, sym, ap, not, false}
use Rattle.el_kept.proofs.Slots.{slot_is}
use Rattle.el_kept.proofs.Cleared.{taken_out, not_out}
use Rattle.el_kept.proofs.taking.take_out.Goals as goal

pub returns-then-is_none : goal.returns-then-is_none
returns-then-is_none c =
    not_out c.args.table.now c.args.id.now c.requires
    (slot_is c.args.table.now c.args.id.now c.kept_under.result (not c.is_none.result) false c.requires c.kept_under.ensures (sym c.is_none.ensures) (ap not c.if-is_none.true))

pub returns-in-Some : goal.returns-in-Some
returns-in-Some c =
    taken_out c.args.table.now (record { kept = c.clear_slot.new.kept; spenders = c.free_takers.new.spenders; count = c.saturating_sub-table.result; bytes = c.saturating_sub-table-in-Some.result })
    c.in-Some.entry c.args.id.now c.requires (sym c.clear_slot.ensures.was ∙ c.in-Some.is) c.clear_slot.ensures.entries c.clear_slot.ensures.unique
    (λ o. rw c.as_slice.ensures at (c.free_takers.ensures o)) c.saturating_sub-table.ensures
    (c.saturating_sub-table-in-Some.ensures ∙ ap (λ n. c.args.table.now.bytes - n) c.len.ensures)
