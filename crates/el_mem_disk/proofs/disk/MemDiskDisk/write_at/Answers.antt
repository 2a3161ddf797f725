use Rattle.std.proofs.Common.{inr, ◌≤◌, ℕ, List, length, take, Bool, if◌then◌else◌, sym, ◌∙◌, ap, subst}
use Rattle.el_outside.specs.Disk.{over}
use Rattle.el_outside.specs.Images.{at_file}
use Rattle.el_mem_disk.specs.DiskFiles.{file_written}
use Rattle.el_mem_disk.specs.Disks.{DiskState, disk_state, ticked, with_file, failed}
use Rattle.el_mem_disk.specs.Failing.{is_failing, residue_of}
use Rattle.el_mem_disk.proofs.DiskCalls.{files_by, nothing_new, bytes_in, seen_here, seen_others, write_crash, torn_nothing}
use Rattle.el_mem_disk.proofs.disk.MemDiskDisk.write_at.Goals as goal

pub returns-then-bytes-room-clause-others : goal.returns-then-bytes-room-clause-others
returns-then-bytes-room-clause-others c f ne = ap (λ files. (files f).bytes) (files_by c.fault.ensures ∙ files_by c.tick-fails.ensures.same)

pub returns-then-bytes-room-clause-crash : goal.returns-then-bytes-room-clause-crash
returns-then-bytes-room-clause-crash c = torn_nothing (disk_state c.args.self.now).files (disk_state c.fault.new.self).files (disk_state c.args.self.now).past (disk_state c.fault.new.self).past c.args.file c.args.at (length c.args.bytes.now) (files_by c.fault.ensures ∙ files_by c.tick-fails.ensures.same)

pub returns-then-bytes-room-clause-too_long_seen : goal.returns-then-bytes-room-clause-too_long_seen
returns-then-bytes-room-clause-too_long_seen c long = ap bytes_in (files_by c.fault.ensures ∙ files_by c.tick-fails.ensures.same)

pub returns-then-bytes-room-clause-too_long_crash : goal.returns-then-bytes-room-clause-too_long_crash
returns-then-bytes-room-clause-too_long_crash c long = nothing_new (disk_state c.args.self.now).files (disk_state c.fault.new.self).files (disk_state c.args.self.now).past (disk_state c.fault.new.self).past (files_by c.fault.ensures ∙ files_by c.tick-fails.ensures.same)

pub write-requires-clause-place : goal.write-requires-clause-place
write-requires-clause-place c = subst (λ files. c.args.at ≤ length (files c.args.file).bytes) (sym (files_by c.tick-fails.ensures.same)) c.requires

pub returns-in-Ok-clause-written : goal.returns-in-Ok-clause-written
returns-in-Ok-clause-written c =
    seen_here (disk_state c.args.self.now).files (disk_state c.write.new.self).files (disk_state c.args.self.now).past (disk_state c.write.new.self).past c.args.self.now.sound c.args.file (file_written c.args.at (length c.args.bytes.now) c.front-seen.result.now ((disk_state c.args.self.now).files c.args.file))
    (files_by c.in-Ok.ensures.ok ∙ ap (λ files. at_file files c.args.file (file_written c.args.at (length c.args.bytes.now) c.front-seen.result.now (files c.args.file))) (files_by c.tick-fails.ensures.same))
    ∙ ap (over ((disk_state c.args.self.now).files c.args.file).bytes c.args.at) (c.front-seen.ensures.exact
    ∙ ap (λ (b : Bool). if b then take (residue_of c.tick-fails.new.self.failing.residue (length c.args.bytes.now)) c.args.bytes.now else c.args.bytes.now) c.if-not-fails.true)

pub returns-in-Ok-clause-others : goal.returns-in-Ok-clause-others
returns-in-Ok-clause-others c f ne = seen_others (disk_state c.args.self.now).files (disk_state c.write.new.self).files (disk_state c.args.self.now).past (disk_state c.write.new.self).past c.args.self.now.sound c.args.file (file_written c.args.at (length c.args.bytes.now) c.front-seen.result.now ((disk_state c.args.self.now).files c.args.file))
    (files_by c.in-Ok.ensures.ok ∙ ap (λ files. at_file files c.args.file (file_written c.args.at (length c.args.bytes.now) c.front-seen.result.now (files c.args.file))) (files_by c.tick-fails.ensures.same)) f ne

pub returns-in-Ok-clause-crash : goal.returns-in-Ok-clause-crash
returns-in-Ok-clause-crash c = write_crash (disk_state c.args.self.now).files (disk_state c.write.new.self).files (disk_state c.args.self.now).past (disk_state c.write.new.self).past c.args.self.now.sound c.args.file c.args.at (length c.args.bytes.now) c.front-seen.result.now c.requires
    (files_by c.in-Ok.ensures.ok ∙ ap (λ files. at_file files c.args.file (file_written c.args.at (length c.args.bytes.now) c.front-seen.result.now (files c.args.file))) (files_by c.tick-fails.ensures.same))

pub returns-in-Ok-2-clause-others : goal.returns-in-Ok-2-clause-others
returns-in-Ok-2-clause-others c f ne = seen_others (disk_state c.args.self.now).files (disk_state c.fault-in-Ok-2.new.self).files (disk_state c.args.self.now).past (disk_state c.fault-in-Ok-2.new.self).past c.args.self.now.sound c.args.file (file_written c.args.at (length c.args.bytes.now) c.front-seen.result.now ((disk_state c.args.self.now).files c.args.file))
    (files_by c.fault-in-Ok-2.ensures ∙ files_by c.in-Ok.ensures.ok ∙ ap (λ files. at_file files c.args.file (file_written c.args.at (length c.args.bytes.now) c.front-seen.result.now (files c.args.file))) (files_by c.tick-fails.ensures.same)) f ne

pub returns-in-Ok-2-clause-crash : goal.returns-in-Ok-2-clause-crash
returns-in-Ok-2-clause-crash c = write_crash (disk_state c.args.self.now).files (disk_state c.fault-in-Ok-2.new.self).files (disk_state c.args.self.now).past (disk_state c.fault-in-Ok-2.new.self).past c.args.self.now.sound c.args.file c.args.at (length c.args.bytes.now) c.front-seen.result.now c.requires
    (files_by c.fault-in-Ok-2.ensures ∙ files_by c.in-Ok.ensures.ok ∙ ap (λ files. at_file files c.args.file (file_written c.args.at (length c.args.bytes.now) c.front-seen.result.now (files c.args.file))) (files_by c.tick-fails.ensures.same))

pub returns-in-Err-clause-others : goal.returns-in-Err-clause-others
returns-in-Err-clause-others c f ne = ap (λ files. (files f).bytes) (files_by c.starve.ensures ∙ files_by c.in-Err.ensures.err ∙ files_by c.tick-fails.ensures.same)

pub returns-in-Err-clause-crash : goal.returns-in-Err-clause-crash
returns-in-Err-clause-crash c = torn_nothing (disk_state c.args.self.now).files (disk_state c.starve.new.self).files (disk_state c.args.self.now).past (disk_state c.starve.new.self).past c.args.file c.args.at (length c.args.bytes.now) (files_by c.starve.ensures ∙ files_by c.in-Err.ensures.err ∙ files_by c.tick-fails.ensures.same)

pub returns-in-Ok-clause-done : goal.returns-in-Ok-clause-done
returns-in-Ok-clause-done c =
    c.in-Ok.ensures.ok ∙ ap (λ (s : DiskState). with_file s c.args.file (file_written c.args.at (length c.args.bytes.now) c.front-seen.result.now (s.files c.args.file))) c.tick-fails.ensures.same
    ∙ ap (λ (seen : List ℕ). with_file (ticked (disk_state c.args.self.now)) c.args.file (file_written c.args.at (length c.args.bytes.now) seen ((disk_state c.args.self.now).files c.args.file)))
    (c.front-seen.ensures.exact
    ∙ ap (λ (b : Bool). if b then take (residue_of c.tick-fails.new.self.failing.residue (length c.args.bytes.now)) c.args.bytes.now else c.args.bytes.now) c.if-not-fails.true)

pub returns-in-Ok-2-clause-not_done : goal.returns-in-Ok-2-clause-not_done
returns-in-Ok-2-clause-not_done c short = inr (
  ap (λ (s : DiskState). is_failing (disk_state c.args.self.now).failing s.calls) (c.fault-in-Ok-2.ensures ∙ ap failed c.in-Ok.ensures.ok)
      ∙ sym c.tick-fails.ensures.fails ∙ c.if-not-fails.false,
  c.fault-in-Ok-2.ensures ∙ ap failed
      (c.in-Ok.ensures.ok ∙ ap (λ (s : DiskState). with_file s c.args.file (file_written c.args.at (length c.args.bytes.now) c.front-seen.result.now (s.files c.args.file))) c.tick-fails.ensures.same
      ∙ ap (λ (seen : List ℕ). with_file (ticked (disk_state c.args.self.now)) c.args.file (file_written c.args.at (length c.args.bytes.now) seen ((disk_state c.args.self.now).files c.args.file)))
      (c.front-seen.ensures.exact
      ∙ ap (λ (b : Bool). if b then take (residue_of c.tick-fails.new.self.failing.residue (length c.args.bytes.now)) c.args.bytes.now else c.args.bytes.now) c.if-not-fails.false
      ∙ ap (λ (s : DiskState). take (residue_of s.failing.residue (length c.args.bytes.now)) c.args.bytes.now) c.tick-fails.ensures.same)),
)
