use Rattle.std.proofs.Common.{◌-◌, ℕ, List, length, take, drop, min, ◌∙◌, ap}
use Rattle.el_mem_disk.specs.Disks.{disk_state}
use Rattle.el_mem_disk.proofs.DiskCalls.{files_by, nothing_new, bytes_in}
use Rattle.el_mem_disk.proofs.disk.MemDiskDisk.read.Goals as goal

pub returns-then-is_refused-clause-seen : goal.returns-then-is_refused-clause-seen
returns-then-is_refused-clause-seen c = ap bytes_in (files_by c.fault.ensures ∙ files_by c.tick-is_refused.ensures.same)

pub returns-then-is_refused-clause-crash : goal.returns-then-is_refused-clause-crash
returns-then-is_refused-clause-crash c = nothing_new (disk_state c.args.self.now).files (disk_state c.fault.new.self).files (disk_state c.args.self.now).past (disk_state c.fault.new.self).past (files_by c.fault.ensures ∙ files_by c.tick-is_refused.ensures.same)

pub returns-clause-count : goal.returns-clause-count
returns-clause-count c =
    c.fill.ensures.count ∙ ap (λ (bytes : List ℕ). min (length c.args.buf.now) (length bytes - c.args.at)) (c.bytes.ensures ∙ ap (λ files. (files c.args.file).bytes) (files_by c.tick-is_refused.ensures.same))

pub returns-clause-filled : goal.returns-clause-filled
returns-clause-filled c =
    c.fill.ensures.filled ∙ ap (λ (bytes : List ℕ). take c.fill.result (drop c.args.at bytes)) (c.bytes.ensures ∙ ap (λ files. (files c.args.file).bytes) (files_by c.tick-is_refused.ensures.same))

pub returns-clause-seen : goal.returns-clause-seen
returns-clause-seen c = ap bytes_in (files_by c.tick-is_refused.ensures.same)

pub returns-clause-crash : goal.returns-clause-crash
returns-clause-crash c = nothing_new (disk_state c.args.self.now).files (disk_state c.tick-is_refused.new.self).files (disk_state c.args.self.now).past (disk_state c.tick-is_refused.new.self).past (files_by c.tick-is_refused.ensures.same)
