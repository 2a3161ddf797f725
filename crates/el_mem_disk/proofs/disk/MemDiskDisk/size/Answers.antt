use Rattle.std.proofs.Common.{length, ◌∙◌, ap}
use Rattle.el_mem_disk.specs.Disks.{disk_state}
use Rattle.el_mem_disk.proofs.DiskCalls.{files_by, nothing_new, bytes_in}
use Rattle.el_mem_disk.proofs.disk.MemDiskDisk.size.Goals as goal

pub returns-then-tick-clause-seen : goal.returns-then-tick-clause-seen
returns-then-tick-clause-seen c = ap bytes_in (files_by c.fault.ensures ∙ files_by c.tick.ensures.same)

pub returns-then-tick-clause-crash : goal.returns-then-tick-clause-crash
returns-then-tick-clause-crash c = nothing_new (disk_state c.args.self.now).files (disk_state c.fault.new.self).files (disk_state c.args.self.now).past (disk_state c.fault.new.self).past (files_by c.fault.ensures ∙ files_by c.tick.ensures.same)

pub returns-clause-size : goal.returns-clause-size
returns-clause-size c = ap length (c.bytes.ensures ∙ ap (λ files. (files c.args.file).bytes) (files_by c.tick.ensures.same))

pub returns-clause-seen : goal.returns-clause-seen
returns-clause-seen c = ap bytes_in (files_by c.tick.ensures.same)

pub returns-clause-crash : goal.returns-clause-crash
returns-clause-crash c = nothing_new (disk_state c.args.self.now).files (disk_state c.tick.new.self).files (disk_state c.args.self.now).past (disk_state c.tick.new.self).past (files_by c.tick.ensures.same)
