use Rattle.std.proofs.Common.{◌≡◌, true, length, rules, arith}
use Rattle.el_outside.specs.Disk.{Torn}
use Rattle.el_outside.specs.declared.archive.TheConstants.{SIZE_LIMIT}
use Rattle.el_outside.proofs.Bytes.{torn_not}
use Rattle.el_mem_disk.specs.Disks.{disk_state}
use Rattle.el_mem_disk.proofs.FolderCalls.{Listed, absent_after, files_written, same_or, changes_none, changes_idle, changed, torn_wider, still}
use Rattle.el_mem_disk.proofs.mem_folder.MemFolderOpenFiles.write_at.Goals as goal

pub returns-then-is_interrupted-clause-changes : goal.returns-then-is_interrupted-clause-changes
returns-then-is_interrupted-clause-changes c = λ told f is le.
    changes_idle c.args.self.now c.interrupt.new.self f (Torn c.args.at (length c.args.bytes.now)) (torn_not c.args.at (length c.args.bytes.now)) c.interrupt.ensures.idle

pub returns-then-not-is_made-clause-changes : goal.returns-then-not-is_made-clause-changes
returns-then-not-is_made-clause-changes c = λ told f is le.
    changes_none c.args.self.now f (Torn c.args.at (length c.args.bytes.now)) (torn_not c.args.at (length c.args.bytes.now))

pub invariant_of-self : goal.invariant_of-self
invariant_of-self c =
    let number = c.args.file.now.number in
    let old = disk_state c.args.self.now.disk in
    let is : Listed number c.args.self.now.made.items ≡ true = search rules in
    record {
      absent = absent_after c.args.self.now.made.items old.files (disk_state c.write_at.new.self).files number is
          (same_or old.files _ number c.args.at _
          (files_written _ c.write_at.result old (disk_state c.write_at.new.self) number c.args.at _ SIZE_LIMIT _ _ c.write_at.ensures.too_long_done c.write_at.ensures.done c.write_at.ensures.not_done)) c.args.self.now.absent;
      kept = c.args.self.now.kept;
    }

pub returns-in-Ok-clause-changes : goal.returns-in-Ok-clause-changes
returns-in-Ok-clause-changes c = λ told f is le.
    changed c.args.self.now _ (λ g named. named) c.args.file.now.number f _ (Torn c.args.at (length c.args.bytes.now))
    (λ xs ys torn. torn_wider c.args.at _ (length c.args.bytes.now) xs ys (search (rules, arith)) torn) is
    c.write_at.ensures.others c.write_at.ensures.crash c.write_at.ensures.time

pub returns-in-Ok-clause-still : goal.returns-in-Ok-clause-still
returns-in-Ok-clause-still c = λ told.
    still c.args.self.now.disk c.write_at.new.self c.args.file.now.number c.args.at _
    (files_written _ c.write_at.result (disk_state c.args.self.now.disk) (disk_state c.write_at.new.self) c.args.file.now.number c.args.at _ SIZE_LIMIT _ _ c.write_at.ensures.too_long_done c.write_at.ensures.done c.write_at.ensures.not_done)

pub returns-in-Err-clause-changes : goal.returns-in-Err-clause-changes
returns-in-Err-clause-changes c = λ told f is le.
    changed c.args.self.now _ (λ g named. named) c.args.file.now.number f _ (Torn c.args.at (length c.args.bytes.now))
    (λ xs ys torn. torn_wider c.args.at _ (length c.args.bytes.now) xs ys (search (rules, arith)) torn) is
    c.write_at.ensures.others c.write_at.ensures.crash c.write_at.ensures.time

pub returns-in-Err-clause-still : goal.returns-in-Err-clause-still
returns-in-Err-clause-still c = λ told.
    still c.args.self.now.disk c.write_at.new.self c.args.file.now.number c.args.at _
    (files_written _ c.write_at.result (disk_state c.args.self.now.disk) (disk_state c.write_at.new.self) c.args.file.now.number c.args.at _ SIZE_LIMIT _ _ c.write_at.ensures.too_long_done c.write_at.ensures.done c.write_at.ensures.not_done)
