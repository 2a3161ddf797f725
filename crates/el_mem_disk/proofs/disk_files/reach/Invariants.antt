use Rattle.std.proofs.Common.{◌≡◌, ◌+◌, ◌-◌, length}
use Rattle.el_mem_disk.specs.DiskFiles.{file_numbered}
use Rattle.el_mem_disk.proofs.disk_files.reach.Given as goal

abbrev pub invariant-loop-alloc : goal.invariant-loop-alloc
invariant-loop-alloc l = file_numbered l.files.items ≡ file_numbered l.fn.files.items

abbrev pub decreases-loop-alloc : goal.decreases-loop-alloc
decreases-loop-alloc l = l.file + 1 - length l.files.items
