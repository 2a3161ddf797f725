use Rattle.std.proofs.Common.{length}
use Rattle.el_open_files.proofs.Fronts.{front_of, none_more}
use Rattle.el_net.proofs.Unpadding.{count_unpadded, filled_unpadded}
use Rattle.el_net.proofs.archive_folder.ArchiveFolderFolder.read_at.Goals as goal

pub returns-in-Ok-clause-front : goal.returns-in-Ok-clause-front
returns-in-Ok-clause-front g c = λ told f is.
    let a = g.A.Archive in
    let now = c.read.new.self in
    let file = c.args.file.now in
    let long = length c.args.buf.now in
    rw (← is) (front_of c.args.at c.in-Ok.n long c.read.new.buf (a.bytes now file)
    (count_unpadded c.in-Ok.n c.args.at (a.bytes now file) (a.padding now file) long (told.1 now file) (c.in-Ok.ensures.count told.0))
    (filled_unpadded c.in-Ok.n c.args.at (a.bytes now file) (a.padding now file) c.read.new.buf (told.1 now file) (c.in-Ok.ensures.filled told.0)))

pub returns-in-Ok-clause-end : goal.returns-in-Ok-clause-end
returns-in-Ok-clause-end g c = λ told f is none.
    let a = g.A.Archive in
    let now = c.read.new.self in
    let file = c.args.file.now in
    let long = length c.args.buf.now in
    rw (← is) (none_more c.in-Ok.n long (length (a.bytes now file)) c.args.at
    (count_unpadded c.in-Ok.n c.args.at (a.bytes now file) (a.padding now file) long (told.1 now file) (c.in-Ok.ensures.count told.0)) none)

pub returns-in-Ok-clause-grows : goal.returns-in-Ok-clause-grows
returns-in-Ok-clause-grows g c = λ told. c.in-Ok.ensures.keeps told.0

pub returns-in-Err-clause-grows : goal.returns-in-Err-clause-grows
returns-in-Err-clause-grows g c = λ told. c.in-Err.ensures.keeps told.0
