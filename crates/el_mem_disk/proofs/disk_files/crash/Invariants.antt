use Rattle.std.proofs.Common.{◌≡◌, ◌<◌, ℕ, length, drop}
use Rattle.el_mem_disk.specs.DiskFiles.{file_numbered, numbers_before, crashed}
use Rattle.el_mem_disk.proofs.disk_files.crash.Given as goal

abbrev pub invariant-loop-file : goal.invariant-loop-file
invariant-loop-file l = record {
  done : (k : ℕ) → k < l.file-index → file_numbered l.all.items k ≡ crashed (file_numbered l.files) l.numbers k;
  long : length l.all.items ≡ l.file-index;
  rest : l.rest ≡ drop (numbers_before (file_numbered l.files) l.file-index) l.numbers;
}
