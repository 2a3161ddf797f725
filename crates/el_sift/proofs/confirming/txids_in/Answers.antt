use Rattle.std.proofs.Common.{◌∙◌}
use Rattle.el_sift.proofs.Known.{begun, one_more, one_empty, all_sorted}
use Rattle.el_sift.proofs.confirming.txids_in.Goals as goal

pub loop-slot-init : goal.loop-slot-init
loop-slot-init c = begun c.new-ids.result.items c.args.table.now.kept.entries c.into_iter-slot-iterator.result c.new-ids.ensures.items
    (c.into_iter-slot-iterator.ensures.into_iter_gives ∙ c.iter-slot-items.ensures.rest)

pub loop-slot-preserved-in-Continue-1 : goal.loop-slot-preserved-in-Continue-1
loop-slot-preserved-in-Continue-1 c =
    one_more c.loop-slot.ids.items c.push.new.self.items c.loop-slot.slot-iterator c.next.new.self c.args.table.now.kept.entries _ c.in-Some.slot.now c.in-Some-slot.entry c.in-Some.ensures.steps c.in-Some-slot.is
    c.in_ok-push.ensures.items c.loop-slot.invariant

pub loop-slot-preserved : goal.loop-slot-preserved
loop-slot-preserved c =
    one_empty c.loop-slot.ids.items c.loop-slot.slot-iterator c.next.new.self c.args.table.now.kept.entries _ c.in-Some.slot.now c.in-Some.ensures.steps c.in_default.is c.loop-slot.invariant

pub returns : goal.returns
returns c x = all_sorted x c.loop-slot.ids.items c.sort_unstable.new.self.items c.loop-slot.slot-iterator c.args.table.now.kept.entries c.in-None.ensures.steps.0 c.loop-slot.invariant
    c.sort_unstable.ensures.permutation
