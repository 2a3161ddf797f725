use Rattle.std.proofs.Common.{◌≤◌, ◌-◌, length, drop, arith, rules}
use Rattle.el_mem_disk.specs.Disks.{disk_state, seen_on}
use Rattle.el_mem_disk.proofs.FolderCalls.{absent_same, files_same, end_of, front_of}
use Rattle.el_mem_disk.proofs.mem_folder.MemFolderOpenFiles.read_at.Goals as goal

pub invariant_of-self : goal.invariant_of-self
invariant_of-self c = record {
  absent = absent_same c.args.self.now.made.items (disk_state c.args.self.now.disk).files (disk_state c.read.new.self).files
      (files_same c.read.result (disk_state c.args.self.now.disk) (disk_state c.read.new.self) c.read.ensures.done c.read.ensures.not_done) c.args.self.now.absent;
  kept = c.args.self.now.kept;
}

pub returns-in-Ok-clause-front : goal.returns-in-Ok-clause-front
returns-in-Ok-clause-front c = λ told f is.
    let long : c.in-Ok.n ≤ length c.read.new.buf = search (rules, arith) in
    let there : c.in-Ok.n ≤ length (seen_on c.args.self.now.disk c.args.file.now.number) - c.args.at = omega (arith, c.in-Ok.ensures.count) in
    front_of c.in-Ok.n c.args.at c.args.file.now.number f c.read.new.buf (drop c.min-most.result c.args.buf.now) (seen_on c.args.self.now.disk) (seen_on c.read.new.self)
    is c.read.ensures.seen long there c.in-Ok.ensures.filled

pub returns-in-Ok-clause-end : goal.returns-in-Ok-clause-end
returns-in-Ok-clause-end c = λ told f is none.
    end_of c.in-Ok.n _ (length c.args.buf.now) c.args.self.now.most c.args.at c.args.file.now.number f (seen_on c.args.self.now.disk) (seen_on c.read.new.self)
    is c.read.ensures.seen c.in-Ok.ensures.count (search (rules, arith)) none
