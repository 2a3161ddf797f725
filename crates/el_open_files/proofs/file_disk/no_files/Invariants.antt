use Rattle.std.proofs.Common.{◌≡◌, ℕ, None}
use Rattle.el_open_files.specs.OpenFiles.{opened}
use Rattle.el_open_files.proofs.file_disk.no_files.Given as goal

abbrev pub invariant-loop-file : goal.invariant-loop-file
invariant-loop-file g l = (f : ℕ) → opened l.places.items f ≡ None
