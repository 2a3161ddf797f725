use Rattle.el_relay_folder.proofs.Steps.{written_then_put}
use Rattle.el_relay_folder.proofs.writing.put_file.Goals as goal

pub returns-clause-only : goal.returns-clause-only
returns-clause-only g c = λ told.
    written_then_put (g.F.Outbox.draft c.in_ok-file.file) c.args.id.now c.args.text.now
    (g.F.Outbox.files c.args.outbox.now) (g.F.Outbox.files c.has.new.self) (g.F.Outbox.files c.write_more.new.outbox)
    (g.F.Outbox.files c.put.new.self) (c.in_ok-file.ensures.written told)
    (c.has.ensures.none told) (c.write_more.ensures.none told) (c.put.ensures.only told)
