use Rattle.el_relay_folder.proofs.Steps.{none_then}
use Rattle.el_relay_folder.proofs.writing.write_more.Goals as goal

pub returns-clause-none : goal.returns-clause-none
returns-clause-none g c = λ told.
    none_then (g.F.Outbox.files c.args.outbox.now) (g.F.Outbox.files c.expect_room.new.outbox) (g.F.Outbox.files c.write_draft.new.outbox)
    (c.expect_room.ensures told) (c.write_draft.ensures.none told)
