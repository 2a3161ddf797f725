use Rattle.el_net.proofs.archive_folder.ArchiveFolderFolder.count.Goals as goal

pub returns-in-Ok-clause-number : goal.returns-in-Ok-clause-number
returns-in-Ok-clause-number g c = λ told. c.in-Ok.ensures.number told.0

pub returns-in-Ok-clause-grows : goal.returns-in-Ok-clause-grows
returns-in-Ok-clause-grows g c = λ told. c.in-Ok.ensures.keeps told.0

pub returns-in-Err-clause-grows : goal.returns-in-Err-clause-grows
returns-in-Err-clause-grows g c = λ told. c.in-Err.ensures.keeps told.0
