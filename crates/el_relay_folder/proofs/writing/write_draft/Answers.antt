use Rattle.el_relay_folder.proofs.Steps.{none_then}
use Rattle.el_relay_folder.proofs.writing.write_draft.Goals as goal

pub returns-in-Err-clause-none : goal.returns-in-Err-clause-none
returns-in-Err-clause-none g c = λ told.
    none_then (g.F.Outbox.files c.args.outbox.now) (g.F.Outbox.files c.create.new.self) (g.F.Outbox.files c.discard.new.self)
    (c.create.ensures.none told)
    (none_then (g.F.Outbox.files c.create.new.self) (g.F.Outbox.files c.fill.new.outbox) (g.F.Outbox.files c.discard.new.self)
    (c.fill.ensures.none told) (c.discard.ensures told))
