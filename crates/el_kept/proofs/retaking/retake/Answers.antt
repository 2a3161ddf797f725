use Rattle.std.proofs.Common.{List, None, refl, ap, sym, ◌∙◌}
use Rattle.std.specs.Option.{is_some}
use Rattle.std.specs.Map.{lookup}
use Rattle.el_chain.specs.Headers.{same_hash}
use Rattle.el_kept.proofs.Slots.{Slot}
use Rattle.el_kept.proofs.Retaken.{not_told, there, told}
use Rattle.el_kept.proofs.retaking.retake.Goals as goal

pub returns-then-not-is_of_kept : goal.returns-then-not-is_of_kept
returns-then-not-is_of_kept c =
    not_told c.args.table.now c.args.takes c.requires (sym c.is_of_kept.ensures ∙ c.if-not-is_of_kept.true)

pub fill_slot-requires : goal.fill_slot-requires
fill_slot-requires c =
    ap (λ (es : List Slot). is_some (lookup (same_hash c.args.takes.txid) es)) c.clear_slot.ensures.entries
    ∙ there c.args.takes.txid None c.args.table.now.kept.entries

pub returns-in-Some : goal.returns-in-Some
returns-in-Some c =
    told c.args.table.now (record {
      kept = c.fill_slot.new.kept;
      spenders = c.args.table.now.spenders;
      count = c.args.table.now.count;
      bytes = c.args.table.now.bytes;
    }) c.args.takes c.in-Some.entry c.taking.result
    c.clear_slot.new.kept.entries c.requires (sym c.clear_slot.ensures.was ∙ c.in-Some.is)
    (sym c.is_of_kept.ensures ∙ c.if-not-is_of_kept.false) c.taking.ensures c.clear_slot.ensures.entries
    c.fill_slot.ensures.entries c.fill_slot.ensures.unique refl refl refl
