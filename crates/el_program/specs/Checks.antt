-- How a call of `check-chain` ends, over a disk whose files are empty.
use Rattle.std.specs.Prelude.{◌≡◌, ◌≤◌, ℕ, List, [], ◌∷◌}
use Rattle.el_outside.specs.declared.disk.Disk as disks
use Rattle.el_side.specs.Deeds as deed
use Rattle.el_side.specs.Deeds.{disk, link, Rose}
use Rattle.el_loop.specs.Traffic.{Traffic}
use Rattle.el_gen.specs.MadeFile.{regtest_magic}
use Rattle.el_check_chain.specs.Checked.{Way, summary_at_end}
use Rattle.el_check_chain.specs.Summaries.{summary_line}
use Rattle.el_check_laws.specs.Differing.{HashesDiffer}
use Rattle.el_check_laws.specs.Numbers.{LedAsMade}
use Rattle.el_loop.specs.Counts.{Counts}
use Rattle.el_program.specs.Ends.{IsSilent}
use Rattle.el_program.specs.IndexDisks.{LeavesOneOf}
use Rattle.el_program.specs.declared.status.Status.{Status}
use Rattle.el_program.specs.declared.status.Status.TheVariants as status

-- this text was sent to client 1, nothing else went over the link, and no call failed
pub record IsSent (c : Counts) (t : Traffic) (text : List ℕ) : Type 0 where
  pub traffic : t ≡ record
      { arrivals = []; messages = record { peer = 1; text = text } ∷ []; closings = []; offers = [] }
  pub calls : c.calls_after ≡ c.calls_before
  pub rose : Rose c.faults_before c.faults_after []

-- How a command ends that sends one line to client 1, of which this is so: the line was sent; or nothing was,
-- since a call of the index's device failed, or the send, or no memory was found.
abbrev pub SummaryEnds : (List ℕ → Type 0) → Counts → Traffic → Status → Type 0
SummaryEnds is_line c t status.Ended = (text : List ℕ) × is_line text × IsSent c t text
SummaryEnds is_line c t status.DiskFailed = IsSilent c t (deed.lost disk ∷ [])
SummaryEnds is_line c t status.LinkFailed = IsSilent c t (deed.lost link ∷ [])
SummaryEnds is_line c t status.OutOfMemory = IsSilent c t []
SummaryEnds is_line c t other = ⊥

-- The disk was checked over a made file of so many blocks, and this is the line that sums it up. Where the
-- hashes of that file differ, the way leads along its two branches, and the line has their numbers. Whatever
-- a crash then leaves of the disk stands for the chain at the end of the way; and at some moment of the call
-- all that a crash might have left stood for the chain of the second tip line.
pub record IsCheckedDisk {D : Type 0} (of_disk : disks.Ghosts D) (count : ℕ) (before after : D)
    (text : List ℕ) : Type 0 where
  pub way : Way count
  pub line : text ≡ summary_line (summary_at_end way)
  pub made : HashesDiffer count → LedAsMade way
  pub leaves : LeavesOneOf of_disk regtest_magic after way.last.chain way.last.chain
  pub between : D
  pub later : of_disk.moment before ≤ of_disk.moment between
  pub earlier : of_disk.moment between ≤ of_disk.moment after
  pub stood : LeavesOneOf of_disk regtest_magic between way.side.chain way.side.chain
