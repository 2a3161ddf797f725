use Rattle.std.proofs.Common.{◌≡◌, false, ap, rules}
use Rattle.el_mem_disk.specs.DiskFiles.{FileState}
use Rattle.el_mem_disk.proofs.FolderCalls.{Listed}
use Rattle.el_mem_disk.proofs.mem_folder.MemFolderOpenFiles.open.Goals as goal

pub returns-else-is_listed-clause-empty : goal.returns-else-is_listed-clause-empty
returns-else-is_listed-clause-empty c = λ told.
    let out : Listed c.args.file c.look.new.self.made.items ≡ false = search rules in
    ap (λ (x : FileState). x.bytes) (c.look.new.self.absent c.args.file out)
