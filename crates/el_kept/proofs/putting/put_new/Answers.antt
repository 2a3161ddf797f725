use Rattle.el_kept.specs.Tables.{undropped}
use Rattle.el_kept.proofs.Slots.{same_table, own_table, still_free}
use Rattle.el_kept.proofs.putting.put_new.Goals as goal

pub put-requires-clause-table : goal.put-requires-clause-table
put-requires-clause-table c =
    own_table c.make_room.new.table (undropped c.args.table.now.kept.entries)
    (same_table c.args.table.now c.make_room.new.table (undropped c.args.table.now.kept.entries) c.make_room.ensures.same c.requires.table)

pub put-requires-clause-free : goal.put-requires-clause-free
put-requires-clause-free c = still_free c.args.table.now c.make_room.new.table c.args.entry.inputs c.make_room.ensures.same c.requires.free
