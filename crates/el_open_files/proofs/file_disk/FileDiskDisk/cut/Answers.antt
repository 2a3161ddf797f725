use Rattle.el_open_files.proofs.Runs.{passes}
use Rattle.el_open_files.proofs.file_disk.FileDiskDisk.cut.Goals as goal

pub returns-in-Ok-clause-time : goal.returns-in-Ok-clause-time
returns-in-Ok-clause-time g c = λ told. rw (← c.self.view_is) (
    let run = passes g.F.OpenFiles.seen g.F.OpenFiles.moment g.F.OpenFiles.left_since g.F.OpenFiles.is_named
    c.self.inside.files c.begin.new.self c.cut_to.new.files (λ t u x. g.F.OpenFiles.earlier c.self.inside.files t u x told)
    (c.begin.ensures.ticks told) (c.begin.ensures.idle told) (c.cut_to.ensures.changes told).lasts in
    record { ticks = run.ticks; time = run.time })

pub returns-in-Err-clause-time : goal.returns-in-Err-clause-time
returns-in-Err-clause-time g c = λ told. rw (← c.self.view_is) (
    let run = passes g.F.OpenFiles.seen g.F.OpenFiles.moment g.F.OpenFiles.left_since g.F.OpenFiles.is_named
    c.self.inside.files c.begin.new.self c.cut_to.new.files (λ t u x. g.F.OpenFiles.earlier c.self.inside.files t u x told)
    (c.begin.ensures.ticks told) (c.begin.ensures.idle told) (c.cut_to.ensures.changes told).lasts in
    record { ticks = run.ticks; time = run.time })
