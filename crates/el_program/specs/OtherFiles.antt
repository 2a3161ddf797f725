-- The files of a disk that are none of the index's.
use Rattle.std.specs.Prelude.{◌≡◌, ℕ}
use Rattle.el_outside.specs.declared.disk.Disk as disk
use Rattle.el_migrate.specs.ImageChains.{IsOtherFile}

-- no file beyond the index's changed, whichever format they are of
abbrev pub OtherFilesStay : {D : Type 0} → disk.Ghosts D → D → D → Type 0
OtherFilesStay of_disk old new = (f : ℕ) → IsOtherFile f → of_disk.seen new f ≡ of_disk.seen old f
