use Rattle.el_open_files.proofs.Runs.{idle_more}
use Rattle.el_open_files.proofs.finding.find.Goals as goal

pub returns-in_err-make-in-None-clause-idle : goal.returns-in_err-make-in-None-clause-idle
returns-in_err-make-in-None-clause-idle g c = λ told. idle_more g.F.OpenFiles.seen g.F.OpenFiles.moment g.F.OpenFiles.left_since g.F.OpenFiles.is_named
    c.args.files.now c.look.new.files c.make.new.files (λ t u x. g.F.OpenFiles.earlier c.args.files.now t u x told)
    (c.look.ensures.idle told) (c.make.ensures.idle told)

pub returns-in_ok-make-in-None-clause-idle : goal.returns-in_ok-make-in-None-clause-idle
returns-in_ok-make-in-None-clause-idle g c = λ told. idle_more g.F.OpenFiles.seen g.F.OpenFiles.moment g.F.OpenFiles.left_since g.F.OpenFiles.is_named
    c.args.files.now c.look.new.files c.make.new.files (λ t u x. g.F.OpenFiles.earlier c.args.files.now t u x told)
    (c.look.ensures.idle told) (c.make.ensures.idle told)
