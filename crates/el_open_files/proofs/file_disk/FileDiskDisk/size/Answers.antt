use Rattle.el_open_files.proofs.Runs.{passes}
use Rattle.el_open_files.proofs.file_disk.FileDiskDisk.size.Goals as goal

pub returns-in-Ok-clause-time : goal.returns-in-Ok-clause-time
returns-in-Ok-clause-time g c = λ told. rw (← c.self.view_is) (
    let run = passes g.F.OpenFiles.seen g.F.OpenFiles.moment g.F.OpenFiles.left_since g.F.OpenFiles.is_named
    c.self.inside.files c.begin.new.self c.size_of-found.new.files (λ t u x. g.F.OpenFiles.earlier c.self.inside.files t u x told)
    (c.begin.ensures.ticks told) (c.begin.ensures.idle told) (c.size_of-found.ensures.idle told).lasts in
    record { ticks = run.ticks; time = run.time })

pub returns-in_default-clause-time : goal.returns-in_default-clause-time
returns-in_default-clause-time g c = λ told. rw (← c.self.view_is) (
    let run = passes g.F.OpenFiles.seen g.F.OpenFiles.moment g.F.OpenFiles.left_since g.F.OpenFiles.is_named
    c.self.inside.files c.begin.new.self c.size_of-found.new.files (λ t u x. g.F.OpenFiles.earlier c.self.inside.files t u x told)
    (c.begin.ensures.ticks told) (c.begin.ensures.idle told) (c.size_of-found.ensures.idle told).lasts in
    record { ticks = run.ticks; time = run.time })
