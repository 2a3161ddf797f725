use Rattle.el_kept.proofs.Slots.{put_is, few_more}
use Rattle.el_kept.proofs.putting.put.Goals as goal

pub returns-clause-table : goal.returns-clause-table
returns-clause-table c =
    put_is c.args.table.now (record { kept = c.set_entry.new.kept; spenders = c.set_takers.new.spenders; count = c.args.count; bytes = c.args.bytes }) c.give_way.new.kept c.args.entry
    c.requires.table c.requires.free c.give_way.ensures.standing c.give_way.ensures.right c.give_way.ensures.free c.set_entry.ensures.entries c.set_entry.ensures.unique
    (λ o. rw c.as_slice.ensures at (c.set_takers.ensures o)) c.requires.count c.requires.bytes

pub returns-clause-slots : goal.returns-clause-slots
returns-clause-slots c = λ few.
    few_more c.give_way.new.kept c.set_entry.new.kept.entries c.args.entry _ c.args.table.now.count c.args.count
    c.give_way.ensures.slots c.give_way.ensures.free c.set_entry.ensures.entries c.requires.count few
