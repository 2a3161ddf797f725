use Rattle.std.proofs.Common.{inr, ◌≤◌, length, take, not, if◌then◌else◌, Bool, sym, ◌∙◌, ap, subst}
use Rattle.el_outside.specs.Images.{at_file}
use Rattle.el_mem_disk.specs.DiskFiles.{file_cut}
use Rattle.el_mem_disk.specs.Disks.{DiskState, disk_state, ticked, with_file, failed}
use Rattle.el_mem_disk.specs.Failing.{is_failing}
use Rattle.el_mem_disk.proofs.DiskCalls.{files_by, seen_here, seen_others, cut_crash, cut_nothing}
use Rattle.el_mem_disk.proofs.disk.MemDiskDisk.cut.Goals as goal

pub shorten-requires : goal.shorten-requires
shorten-requires c = subst (λ files. c.args.len ≤ length (files c.args.file).bytes) (sym (files_by c.tick-fails.ensures.same)) c.requires

pub returns-in-Ok-clause-cut : goal.returns-in-Ok-clause-cut
returns-in-Ok-clause-cut c = seen_here (disk_state c.args.self.now).files (disk_state c.shorten.new.self).files (disk_state c.args.self.now).past (disk_state c.shorten.new.self).past c.args.self.now.sound c.args.file (file_cut c.args.len (not c.tick-fails.result) ((disk_state c.args.self.now).files c.args.file))
    (files_by c.in-Ok.ensures.ok ∙ ap (λ files. at_file files c.args.file (file_cut c.args.len (not c.tick-fails.result) (files c.args.file))) (files_by c.tick-fails.ensures.same))
    ∙ ap (λ (b : Bool). if not b then take c.args.len ((disk_state c.args.self.now).files c.args.file).bytes else ((disk_state c.args.self.now).files c.args.file).bytes) c.if-not-fails.true

pub returns-in-Ok-clause-others : goal.returns-in-Ok-clause-others
returns-in-Ok-clause-others c f ne = seen_others (disk_state c.args.self.now).files (disk_state c.shorten.new.self).files (disk_state c.args.self.now).past (disk_state c.shorten.new.self).past c.args.self.now.sound c.args.file (file_cut c.args.len (not c.tick-fails.result) ((disk_state c.args.self.now).files c.args.file))
    (files_by c.in-Ok.ensures.ok ∙ ap (λ files. at_file files c.args.file (file_cut c.args.len (not c.tick-fails.result) (files c.args.file))) (files_by c.tick-fails.ensures.same)) f ne

pub returns-in-Ok-clause-crash : goal.returns-in-Ok-clause-crash
returns-in-Ok-clause-crash c = cut_crash (disk_state c.args.self.now).files (disk_state c.shorten.new.self).files (disk_state c.args.self.now).past (disk_state c.shorten.new.self).past c.args.self.now.sound c.args.file c.args.len (not c.tick-fails.result)
    (files_by c.in-Ok.ensures.ok ∙ ap (λ files. at_file files c.args.file (file_cut c.args.len (not c.tick-fails.result) (files c.args.file))) (files_by c.tick-fails.ensures.same))

pub returns-in-Ok-2-clause-others : goal.returns-in-Ok-2-clause-others
returns-in-Ok-2-clause-others c f ne = seen_others (disk_state c.args.self.now).files (disk_state c.fault.new.self).files (disk_state c.args.self.now).past (disk_state c.fault.new.self).past c.args.self.now.sound c.args.file (file_cut c.args.len (not c.tick-fails.result) ((disk_state c.args.self.now).files c.args.file))
    (files_by c.fault.ensures ∙ files_by c.in-Ok.ensures.ok ∙ ap (λ files. at_file files c.args.file (file_cut c.args.len (not c.tick-fails.result) (files c.args.file))) (files_by c.tick-fails.ensures.same)) f ne

pub returns-in-Ok-2-clause-crash : goal.returns-in-Ok-2-clause-crash
returns-in-Ok-2-clause-crash c = cut_crash (disk_state c.args.self.now).files (disk_state c.fault.new.self).files (disk_state c.args.self.now).past (disk_state c.fault.new.self).past c.args.self.now.sound c.args.file c.args.len (not c.tick-fails.result)
    (files_by c.fault.ensures ∙ files_by c.in-Ok.ensures.ok ∙ ap (λ files. at_file files c.args.file (file_cut c.args.len (not c.tick-fails.result) (files c.args.file))) (files_by c.tick-fails.ensures.same))

pub returns-in-Err-clause-others : goal.returns-in-Err-clause-others
returns-in-Err-clause-others c f ne = ap (λ files. (files f).bytes) (files_by c.starve.ensures ∙ files_by c.in-Err.ensures.err ∙ files_by c.tick-fails.ensures.same)

pub returns-in-Err-clause-crash : goal.returns-in-Err-clause-crash
returns-in-Err-clause-crash c = cut_nothing (disk_state c.args.self.now).files (disk_state c.starve.new.self).files (disk_state c.args.self.now).past (disk_state c.starve.new.self).past c.args.file c.args.len (files_by c.starve.ensures ∙ files_by c.in-Err.ensures.err ∙ files_by c.tick-fails.ensures.same)

pub returns-in-Ok-clause-done : goal.returns-in-Ok-clause-done
returns-in-Ok-clause-done c =
    c.in-Ok.ensures.ok ∙ ap (λ (s : DiskState). with_file s c.args.file (file_cut c.args.len (not c.tick-fails.result) (s.files c.args.file))) c.tick-fails.ensures.same
    ∙ ap (λ (b : Bool). with_file (ticked (disk_state c.args.self.now)) c.args.file (file_cut c.args.len (not b) ((disk_state c.args.self.now).files c.args.file))) c.if-not-fails.true

pub returns-in-Ok-2-clause-not_done : goal.returns-in-Ok-2-clause-not_done
returns-in-Ok-2-clause-not_done c = inr (
  ap (λ (s : DiskState). is_failing (disk_state c.args.self.now).failing s.calls) (c.fault.ensures ∙ ap failed c.in-Ok.ensures.ok)
      ∙ sym c.tick-fails.ensures.fails ∙ c.if-not-fails.false,
  c.fault.ensures ∙ ap failed
      (c.in-Ok.ensures.ok ∙ ap (λ (s : DiskState). with_file s c.args.file (file_cut c.args.len (not c.tick-fails.result) (s.files c.args.file))) c.tick-fails.ensures.same
      ∙ ap (λ (b : Bool). with_file (ticked (disk_state c.args.self.now)) c.args.file (file_cut c.args.len (not b) ((disk_state c.args.self.now).files c.args.file))) c.if-not-fails.false),
)
