use Rattle.el_outside.proofs.Traces.{all_grow_none}
use Rattle.el_net.proofs.archive_folder.ArchiveFolderFolder.open.Goals as goal

pub returns-clause-grows : goal.returns-clause-grows
returns-clause-grows g c = λ told. all_grow_none (g.A.Archive.bytes c.args.self.now.archive)
