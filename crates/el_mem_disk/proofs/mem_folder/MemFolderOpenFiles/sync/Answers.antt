use Rattle.std.proofs.Common.{◌≡◌, true, false, sym, ap, ◌∙◌, subst, rules}
use Rattle.el_outside.specs.Disk.{OnDisk}
use Rattle.el_outside.specs.Moments.{LeftNow}
use Rattle.el_mem_disk.specs.Disks.{disk_state, seen_on, moment_of, left_on}
use Rattle.el_mem_disk.proofs.FolderCalls.{Listed, absent_after, files_settled, settles_idle}
use Rattle.el_mem_disk.proofs.mem_folder.MemFolderOpenFiles.sync.Goals as goal

pub returns-in_err-look-clause-settles : goal.returns-in_err-look-clause-settles
returns-in_err-look-clause-settles c = λ told f is. settles_idle c.args.self.now c.look.new.self f c.look.ensures.idle

pub returns-then-not-is_listed-clause-durable : goal.returns-then-not-is_listed-clause-durable
returns-then-not-is_listed-clause-durable c = λ told f is named.
    let out : Listed c.args.file.now.number c.args.self.now.named.items ≡ false = search rules in
    let both : true ≡ false = sym named ∙ ap (λ k. Listed k c.args.self.now.named.items) (sym is) ∙ out in
    absurd (cc both)

pub returns-then-not-is_listed-clause-settles : goal.returns-then-not-is_listed-clause-settles
returns-then-not-is_listed-clause-settles c = λ told f is. settles_idle c.args.self.now c.look.new.self f c.look.ensures.idle

pub invariant_of-self : goal.invariant_of-self
invariant_of-self c =
    let number = c.args.file.now.number in
    let old = disk_state c.args.self.now.disk in
    let is : Listed number c.args.self.now.named.items ≡ true = search rules in
    record {
      absent = absent_after c.args.self.now.made.items old.files (disk_state c.sync.new.self).files number (c.args.self.now.kept number is)
          (files_settled _ c.sync.result old (disk_state c.sync.new.self) number _ c.sync.ensures.done c.sync.ensures.not_done) c.args.self.now.absent;
      kept = c.args.self.now.kept;
    }

pub returns-in-Ok-clause-durable : goal.returns-in-Ok-clause-durable
returns-in-Ok-clause-durable c = λ told f is named.
    subst (λ g. OnDisk g (seen_on c.sync.new.self) (LeftNow moment_of left_on c.sync.new.self)) is c.in-Ok.ensures.durable
