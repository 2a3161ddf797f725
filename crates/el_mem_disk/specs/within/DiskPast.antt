-- What was known of the files of a disk in memory at each moment before.
use Rattle.std.specs.Prelude.{ℕ, List, [], ◌∷◌}
use Rattle.el_outside.specs.Images.{Kept}
use Rattle.el_mem_disk.specs.DiskFiles.{file_numbered}
use Rattle.el_mem_disk.specs.declared.disk_past.DiskPast.{DiskPast, Nothing, After'}

-- what was known of each file at the moments before, the last moment first
abbrev pub known_at : DiskPast → List (ℕ → Kept)
known_at Nothing = []
known_at (After' shape before files) = (λ f. (file_numbered files.value.items f).kept) ∷ known_at before
