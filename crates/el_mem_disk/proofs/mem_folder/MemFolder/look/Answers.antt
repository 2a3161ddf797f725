use Rattle.std.proofs.Common.{◌∙◌, sym, ap, length}
use Rattle.el_outside.specs.Disk.{Image}
use Rattle.el_mem_disk.specs.Disks.{disk_state}
use Rattle.el_mem_disk.proofs.DiskCalls.{nothing_new}
use Rattle.el_mem_disk.proofs.FolderCalls.{absent_same, files_same}
use Rattle.el_mem_disk.proofs.mem_folder.MemFolder.look.Goals as goal

pub invariant_of-self : goal.invariant_of-self
invariant_of-self c = record {
  absent = absent_same c.args.self.now.made.items (disk_state c.args.self.now.disk).files (disk_state c.size.new.self).files
      (files_same c.size.result (disk_state c.args.self.now.disk) (disk_state c.size.new.self) c.size.ensures.done c.size.ensures.not_done) c.args.self.now.absent;
  kept = c.args.self.now.kept;
}

pub returns-in-Ok-clause-size : goal.returns-in-Ok-clause-size
returns-in-Ok-clause-size c = c.in-Ok.ensures.size ∙ ap (λ (s : Image). length (s c.args.file)) (sym c.size.ensures.seen)

pub returns-in-Ok-clause-still : goal.returns-in-Ok-clause-still
returns-in-Ok-clause-still c = nothing_new (disk_state c.size.new.self).files (disk_state c.args.self.now.disk).files (disk_state c.size.new.self).past (disk_state c.args.self.now.disk).past
    (sym (files_same c.size.result (disk_state c.args.self.now.disk) (disk_state c.size.new.self) c.size.ensures.done c.size.ensures.not_done))

pub returns-in-Err-clause-still : goal.returns-in-Err-clause-still
returns-in-Err-clause-still c = nothing_new (disk_state c.size.new.self).files (disk_state c.args.self.now.disk).files (disk_state c.size.new.self).past (disk_state c.args.self.now.disk).past
    (sym (files_same c.size.result (disk_state c.args.self.now.disk) (disk_state c.size.new.self) c.size.ensures.done c.size.ensures.not_done))
