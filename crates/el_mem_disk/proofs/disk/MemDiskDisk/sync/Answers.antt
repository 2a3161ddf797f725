use Rattle.std.proofs.Common.{◌≡◌, true, inr, ◌∙◌, ap, rules}
use Rattle.el_outside.specs.Images.{at_file}
use Rattle.el_mem_disk.specs.DiskFiles.{file_synced}
use Rattle.el_mem_disk.specs.Disks.{DiskState, disk_state, with_file, failed}
use Rattle.el_mem_disk.specs.Failing.{is_failing}
use Rattle.el_mem_disk.proofs.DiskCalls.{files_by, nothing_new, sync_crash, sync_seen, sync_on_disk}
use Rattle.el_mem_disk.proofs.disk.MemDiskDisk.sync.Goals as goal

pub returns-then-tick-clause-others : goal.returns-then-tick-clause-others
returns-then-tick-clause-others c f ne = ap (λ files. (files f).bytes) (files_by c.fault.ensures ∙ files_by c.tick.ensures.same)

pub returns-then-tick-clause-crash : goal.returns-then-tick-clause-crash
returns-then-tick-clause-crash c = nothing_new (disk_state c.args.self.now).files (disk_state c.fault.new.self).files (disk_state c.args.self.now).past (disk_state c.fault.new.self).past (files_by c.fault.ensures ∙ files_by c.tick.ensures.same)

pub returns-in-Ok-clause-durable : goal.returns-in-Ok-clause-durable
returns-in-Ok-clause-durable c = sync_on_disk (disk_state c.args.self.now).files (disk_state c.settle.new.self).files (disk_state c.args.self.now).past (disk_state c.settle.new.self).past c.args.self.now.sound c.args.file
    (files_by c.in-Ok.ensures.ok ∙ ap (λ files. at_file files c.args.file (file_synced (files c.args.file))) (files_by c.tick.ensures.same))

pub returns-in-Ok-clause-seen : goal.returns-in-Ok-clause-seen
returns-in-Ok-clause-seen c = sync_seen (disk_state c.args.self.now).files (disk_state c.settle.new.self).files (disk_state c.args.self.now).past (disk_state c.settle.new.self).past c.args.self.now.sound c.args.file
    (files_by c.in-Ok.ensures.ok ∙ ap (λ files. at_file files c.args.file (file_synced (files c.args.file))) (files_by c.tick.ensures.same))

pub returns-in-Ok-clause-crash : goal.returns-in-Ok-clause-crash
returns-in-Ok-clause-crash c = sync_crash (disk_state c.args.self.now).files (disk_state c.settle.new.self).files (disk_state c.args.self.now).past (disk_state c.settle.new.self).past c.args.self.now.sound c.args.file
    (files_by c.in-Ok.ensures.ok ∙ ap (λ files. at_file files c.args.file (file_synced (files c.args.file))) (files_by c.tick.ensures.same))

pub returns-in-Ok-clause-others : goal.returns-in-Ok-clause-others
returns-in-Ok-clause-others c f ne = λ i. sync_seen (disk_state c.args.self.now).files (disk_state c.settle.new.self).files (disk_state c.args.self.now).past (disk_state c.settle.new.self).past c.args.self.now.sound c.args.file
    (files_by c.in-Ok.ensures.ok ∙ ap (λ files. at_file files c.args.file (file_synced (files c.args.file))) (files_by c.tick.ensures.same)) i f

pub returns-in-Err-clause-others : goal.returns-in-Err-clause-others
returns-in-Err-clause-others c f ne = ap (λ files. (files f).bytes) (files_by c.starve.ensures ∙ files_by c.in-Err.ensures.err ∙ files_by c.tick.ensures.same)

pub returns-in-Err-clause-crash : goal.returns-in-Err-clause-crash
returns-in-Err-clause-crash c = nothing_new (disk_state c.args.self.now).files (disk_state c.starve.new.self).files (disk_state c.args.self.now).past (disk_state c.starve.new.self).past (files_by c.starve.ensures ∙ files_by c.in-Err.ensures.err ∙ files_by c.tick.ensures.same)

pub returns-in-Ok-clause-done : goal.returns-in-Ok-clause-done
returns-in-Ok-clause-done c =
    c.in-Ok.ensures.ok ∙ ap (λ (s : DiskState). with_file s c.args.file (file_synced (s.files c.args.file))) c.tick.ensures.same

pub returns-then-tick-clause-not_done : goal.returns-then-tick-clause-not_done
returns-then-tick-clause-not_done c =
    let planned : is_failing (disk_state c.args.self.now).failing (disk_state c.tick.new.self).calls ≡ true = search rules in
    inr (
      ap (λ (s : DiskState). is_failing (disk_state c.args.self.now).failing s.calls) c.fault.ensures ∙ planned,
      c.fault.ensures ∙ ap failed c.tick.ensures.same,
    )
