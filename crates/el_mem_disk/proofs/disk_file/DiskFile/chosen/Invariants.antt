use Rattle.std.proofs.Common.{◌≡◌, map}
use Rattle.std.specs.List.{range_with_len}
use Rattle.el_mem_disk.specs.DiskFiles.{chosen_byte}
use Rattle.el_mem_disk.proofs.disk_file.DiskFile.chosen.Given as goal

abbrev pub invariant-loop-i : goal.invariant-loop-i
invariant-loop-i l = l.bytes.items ≡ map (chosen_byte l.self.kept l.numbers) (range_with_len 0 l.i)
