use Rattle.el_outside.proofs.Traces.{all_grow_none}
use Rattle.el_net.proofs.archive_folder.ArchiveFolderFolder.look.Goals as goal

pub returns : goal.returns
returns g c = λ told. all_grow_none (g.A.Archive.bytes c.args.self.now.archive)
