use Rattle.std.proofs.Common.{◌≡◌, true, rules}
use Rattle.el_outside.specs.Disk.{Cut}
use Rattle.el_mem_disk.specs.Disks.{disk_state}
use Rattle.el_mem_disk.proofs.FolderCalls.{Listed, absent_after, files_changed, changes_none, changed, cut_not}
use Rattle.el_mem_disk.proofs.mem_folder.MemFolderOpenFiles.set_len.Goals as goal

pub returns-then-not-is_made-clause-changes : goal.returns-then-not-is_made-clause-changes
returns-then-not-is_made-clause-changes c = λ told f is le. changes_none c.args.self.now f (Cut c.args.len) (cut_not c.args.len)

pub invariant_of-self : goal.invariant_of-self
invariant_of-self c =
    let number = c.args.file.now.number in
    let old = disk_state c.args.self.now.disk in
    let is : Listed number c.args.self.now.made.items ≡ true = search rules in
    record {
      absent = absent_after c.args.self.now.made.items old.files (disk_state c.cut.new.self).files number is
          (files_changed _ c.cut.result old (disk_state c.cut.new.self) number _ _ c.cut.ensures.done c.cut.ensures.not_done) c.args.self.now.absent;
      kept = c.args.self.now.kept;
    }

pub returns-in-Ok-clause-changes : goal.returns-in-Ok-clause-changes
returns-in-Ok-clause-changes c = λ told f is le.
    changed c.args.self.now _ (λ g named. named) c.args.file.now.number f (Cut c.args.len) (Cut c.args.len) (λ xs ys cut. cut) is
    c.cut.ensures.others c.cut.ensures.crash c.cut.ensures.time

pub returns-in-Err-clause-changes : goal.returns-in-Err-clause-changes
returns-in-Err-clause-changes c = λ told f is le.
    changed c.args.self.now _ (λ g named. named) c.args.file.now.number f (Cut c.args.len) (Cut c.args.len) (λ xs ys cut. cut) is
    c.cut.ensures.others c.cut.ensures.crash c.cut.ensures.time
