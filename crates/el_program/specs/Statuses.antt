-- How the program ends, and how it tells that: the exit status, and a line on standard error.
use Rattle.std.specs.Prelude.{◌≡◌, ℕ, List, [], ◌∷◌, ◌++◌, codes, Option, None, Some}
use Rattle.el_side.specs.Deeds.{Device, link, archive, disk}
use Rattle.el_loop.specs.Counts.{Counts, IsCaused}
use Rattle.el_loop.specs.declared.end.End.{End}
use Rattle.el_loop.specs.declared.end.End.TheVariants as end
use Rattle.el_program.specs.declared.status.Status.{Status}
use Rattle.el_program.specs.declared.status.Status.TheVariants as status

-- how it ends where its run ends so
abbrev pub status_of_end : End → Status
status_of_end end.Ended = status.Ended
status_of_end end.DiskFailed = status.DiskFailed
status_of_end end.LinkFailed = status.LinkFailed
status_of_end end.OutOfMemory = status.OutOfMemory
status_of_end end.TurnsSpent = status.TurnsSpent

-- the device whose failure ends it
abbrev pub ending_device : Status → Option Device
ending_device status.ArchiveFailed = Some archive
ending_device status.DiskFailed = Some disk
ending_device status.LinkFailed = Some link
ending_device other = None

-- the counts show the cause of such an end
abbrev pub ShowsCause : Counts → Status → Type 0
ShowsCause c s = IsCaused c (ending_device s) (s ≡ status.TurnsSpent)

-- the number that the program exits with
abbrev pub exit_code : Status → ℕ
exit_code status.Ended = 0
exit_code status.Usage = 2
exit_code status.BadIndex = 3
exit_code status.ArchiveFailed = 4
exit_code status.DiskFailed = 5
exit_code status.LinkFailed = 6
exit_code status.OutOfMemory = 7
exit_code status.TurnsSpent = 8
exit_code status.OtherChain = 9
exit_code status.BadChain = 10
exit_code status.AuditDiffers = 11
exit_code status.AuditTooLarge = 12

-- how the call ended, in words
abbrev pub status_words : Status → List ℕ
status_words status.Ended = codes "ended"
status_words status.Usage = codes "usage"
status_words status.BadIndex = codes "bad index"
status_words status.ArchiveFailed = codes "block files failed"
status_words status.DiskFailed = codes "index device failed"
status_words status.LinkFailed = codes "link failed"
status_words status.OutOfMemory = codes "out of memory"
status_words status.TurnsSpent = codes "turns spent"
status_words status.OtherChain = codes "other chain"
status_words status.BadChain = codes "bad chain"
status_words status.AuditDiffers = codes "audit differs"
status_words status.AuditTooLarge = codes "audit too large"

-- the line: the program's name, a colon and a blank, the words, and byte 10
abbrev pub line_of : Status → List ℕ
line_of s = codes "electrum_serve: " ++ (status_words s ++ 10 ∷ [])
