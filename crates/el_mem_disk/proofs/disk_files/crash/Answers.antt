use Rattle.std.proofs.Common.{arith}
use Rattle.el_mem_disk.proofs.DiskFileLists.{crash_all}
use Rattle.el_mem_disk.proofs.disk_files.crash.Goals as goal

pub returns : goal.returns
returns c =
    crash_all c.args.files.now c.loop-file.all.items c.args.numbers.now (omega (arith, c.loop-file.invariant.long))
    (λ k lt. c.loop-file.invariant.done k (omega (arith, lt)))
