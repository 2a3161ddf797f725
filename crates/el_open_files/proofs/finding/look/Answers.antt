use Rattle.el_open_files.proofs.Runs.{idle_more}
use Rattle.el_open_files.proofs.finding.look.Goals as goal

pub returns-in_err-sync_folder-clause-idle : goal.returns-in_err-sync_folder-clause-idle
returns-in_err-sync_folder-clause-idle g c = λ told. idle_more g.F.OpenFiles.seen g.F.OpenFiles.moment g.F.OpenFiles.left_since g.F.OpenFiles.is_named
    c.args.files.now c.open.new.self c.sync_folder.new.self (λ t u x. g.F.OpenFiles.earlier c.args.files.now t u x told)
    (c.open.ensures.idle told) (c.sync_folder.ensures.idle told)

pub returns-clause-idle : goal.returns-clause-idle
returns-clause-idle g c = λ told. idle_more g.F.OpenFiles.seen g.F.OpenFiles.moment g.F.OpenFiles.left_since g.F.OpenFiles.is_named
    c.args.files.now c.open.new.self c.sync_folder.new.self (λ t u x. g.F.OpenFiles.earlier c.args.files.now t u x told)
    (c.open.ensures.idle told) (c.sync_folder.ensures.idle told)
