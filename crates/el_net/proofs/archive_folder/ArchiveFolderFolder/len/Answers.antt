use Rattle.std.proofs.Common.{◌∙◌, length, ap}
use Rattle.el_net.proofs.Unpadding.{unpadded}
use Rattle.el_net.proofs.archive_folder.ArchiveFolderFolder.len.Goals as goal

pub returns-in-Ok-clause-len : goal.returns-in-Ok-clause-len
returns-in-Ok-clause-len g c = λ told f is.
    let a = g.A.Archive in
    let now = c.size.new.self in
    let file = c.args.file.now in
    rw (← is) (c.in-Ok.ensures.size told.0 ∙ ap length (unpadded (a.bytes now file) (a.padding now file) (told.1 now file)))

pub returns-in-Ok-clause-grows : goal.returns-in-Ok-clause-grows
returns-in-Ok-clause-grows g c = λ told. c.in-Ok.ensures.keeps told.0

pub returns-in-Err-clause-grows : goal.returns-in-Err-clause-grows
returns-in-Err-clause-grows g c = λ told. c.in-Err.ensures.keeps told.0
