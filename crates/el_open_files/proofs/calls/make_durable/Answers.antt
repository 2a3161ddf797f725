use Rattle.el_open_files.proofs.Held.{open_at}
use Rattle.el_open_files.proofs.Runs.{settles_after}
use Rattle.el_open_files.proofs.calls.make_durable.Goals as goal

pub returns-in-Some-clause-settles : goal.returns-in-Some-clause-settles
returns-in-Some-clause-settles g c = λ told.
    let here = open_at g.F.OpenFiles.tells g.F.OpenFiles.is_file g.F.OpenFiles.is_named c.make_open.new.files c.make_open.new.places
    c.args.file c.in-Some.it.now c.in-Some.ensures.open c.make_open.ensures.held in
    settles_after g.F.OpenFiles.seen g.F.OpenFiles.moment g.F.OpenFiles.left_since g.F.OpenFiles.is_named
    c.args.file c.args.files.now c.make_open.new.files c.sync.new.self (λ t u x. g.F.OpenFiles.earlier c.args.files.now t u x told)
    (c.make_open.ensures.idle told) (c.sync.ensures.settles told c.args.file here.file)
