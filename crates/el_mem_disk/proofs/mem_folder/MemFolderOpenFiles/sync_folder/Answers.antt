use Rattle.el_mem_disk.proofs.FolderCalls.{absent_on_disk}
use Rattle.el_mem_disk.proofs.mem_folder.MemFolderOpenFiles.sync_folder.Goals as goal

pub returns-clause-absent : goal.returns-clause-absent
returns-clause-absent c = λ told f out.
    absent_on_disk c.look.new.self.disk f (c.look.new.self.absent f (rw c.look.ensures.made out))
