use Rattle.el_open_files.proofs.Runs.{idle_more}
use Rattle.el_open_files.proofs.calls.size_of.Goals as goal

pub returns-in-Some-clause-idle : goal.returns-in-Some-clause-idle
returns-in-Some-clause-idle g c = λ told.
    idle_more g.F.OpenFiles.seen g.F.OpenFiles.moment g.F.OpenFiles.left_since g.F.OpenFiles.is_named
    c.args.files.now c.make_open.new.files c.len.new.self (λ t u x. g.F.OpenFiles.earlier c.args.files.now t u x told)
    (c.make_open.ensures.idle told) (c.len.ensures.idle told)
