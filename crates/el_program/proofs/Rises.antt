-- What holds of a call's counts where nobody was served, whatever the devices tell.
use Rattle.std.proofs.Common.{◌≡◌, ◌≢◌, ◌⊎◌, inl, inr, ℕ, ◌≤◌, List, refl, arith, Err, Some, sym, ◌∙◌}
use Rattle.el_outside.specs.Counts.{RoseBy, OnlyReads, CountsOnly}
use Rattle.el_loop.specs.Counts as loop
use Rattle.el_side.specs.Deeds.{Device, link, archive, disk, relay, Faults, faults}
use Rattle.el_loop.specs.Counts.{Counts, counts, HasRisen, IsCaused}
use Rattle.el_side.proofs.Deeds.{each_more}
use Rattle.el_loop.specs.declared.end.End.{End}
use Rattle.el_loop.specs.declared.end.End.TheVariants as end
use Rattle.el_program.specs.Ends.{IsUnserved, IsOpenedEnd}
use Rattle.el_program.specs.Statuses.{ending_device, ShowsCause, status_of_end}
use Rattle.el_program.specs.declared.file.FileFault.{FileFault}
use Rattle.el_program.specs.declared.file.FileFault.TheVariants as file
use Rattle.el_program.specs.declared.opening.StartFault.{StartFault}
use Rattle.el_program.specs.declared.opening.StartFault.TheVariants as start
use Rattle.el_program.specs.declared.status.Status.{Status}
use Rattle.el_program.specs.declared.status.Status.TheVariants as status
use Rattle.el_program.specs.within.Unread.{start_status, unread_status}

-- no status is of the relay's failure
pub no_relay : (s : Status) → ending_device s ≡ Some relay → ⊥
no_relay status.ArchiveFailed e = cc
no_relay status.DiskFailed e = cc
no_relay status.LinkFailed e = cc
no_relay status.Ended e = cc
no_relay status.Usage e = cc
no_relay status.BadIndex e = cc
no_relay status.OutOfMemory e = cc
no_relay status.TurnsSpent e = cc
no_relay status.OtherChain e = cc
no_relay status.BadChain e = cc
no_relay status.AuditDiffers e = cc
no_relay status.AuditTooLarge e = cc

-- No call of `next` was made, and no call failed but one that is told, of the block files or of the index's
-- device.
pub unserved_caused : {y : ℕ} (turns calls of_link low high of_disk now : ℕ) (s : Status) → low ≤ high → of_disk ≤ now
    → ending_device s ≢ Some link → s ≢ status.TurnsSpent
    → (ending_device s ≡ Some archive → HasRisen low high)
    → (ending_device s ≡ Some disk → HasRisen of_disk now)
    → ShowsCause (counts turns calls calls (faults of_link low of_disk y) (faults of_link high now y)) s
unserved_caused {y} turns calls of_link low high of_disk now s files_more disk_more no_link no_turns by_files
    by_disk =
    record {
      more = each_more (faults of_link low of_disk y) (faults of_link high now y) (omega arith) files_more
          disk_more (omega arith);
      rose = rose;
      calls = 0;
      called = omega arith;
      few = omega arith;
      spent = λ e. absurd (no_turns e);
    }
  where
    rose : (device : Device) → ending_device s ≡ Some device
        → HasRisen (faults of_link low of_disk y device) (faults of_link high now y device)
    rose link e = absurd (no_link e)
    rose archive e = by_files e
    rose disk e = by_disk e
    rose relay e = absurd (no_relay s e)

pub one_risen : (a b : ℕ) → RoseBy a b 1 → HasRisen a b
one_risen a b r = omega arith

pub one_more : (a b : ℕ) → RoseBy a b 1 → a ≤ b
one_more a b r = omega arith

pub still : (a b : ℕ) → b ≡ a → a ≤ b
still a b e = omega arith

-- the words are refused
pub caused_none : (turns calls : ℕ) (f : Faults) → ShowsCause (counts turns calls calls f f) status.Usage
caused_none turns calls f = record {
  more = λ device. omega arith;
  rose = λ device e. absurd cc;
  calls = 0;
  called = omega arith;
  few = omega arith;
  spent = λ e. absurd cc;
}

-- out of memory before a device was called
pub caused_starved : (turns calls : ℕ) (f : Faults) → ShowsCause (counts turns calls calls f f) status.OutOfMemory
caused_starved turns calls f = record {
  more = λ device. omega arith;
  rose = λ device e. absurd cc;
  calls = 0;
  called = omega arith;
  few = omega arith;
  spent = λ e. absurd cc;
}

-- the index isn't opened
pub unopened_caused : {y : ℕ} (turns calls of_link of_archive of_disk now : ℕ) (s : Status)
    → (s ≡ status.BadIndex) ⊎ ((s ≡ status.DiskFailed) ⊎ (s ≡ status.OutOfMemory))
    → (s ≡ status.DiskFailed → RoseBy of_disk now 1) → (s ≢ status.DiskFailed → now ≡ of_disk)
    → ShowsCause
    (counts turns calls calls (faults of_link of_archive of_disk y) (faults of_link of_archive now y)) s
unopened_caused turns calls of_link of_archive of_disk now s is counted uncounted = elim is [
  | inl bad ↦ rw bad (unserved_caused turns calls of_link of_archive of_archive of_disk now _ (omega arith)
      (still of_disk now (uncounted (λ e. cc))) (λ e. cc) (λ e. cc) (λ e. absurd cc) (λ e. absurd cc))
  | inr (inl failed) ↦ rw failed (unserved_caused turns calls of_link of_archive of_archive of_disk now _
      (omega arith) (one_more of_disk now (counted failed)) (λ e. cc) (λ e. cc) (λ e. absurd cc)
      (λ e. one_risen of_disk now (counted failed)))
  | inr (inr memory) ↦ rw memory (unserved_caused turns calls of_link of_archive of_archive of_disk now _
      (omega arith) (still of_disk now (uncounted (λ e. cc))) (λ e. cc) (λ e. cc) (λ e. absurd cc)
      (λ e. absurd cc))
]

-- the index is open, but its headers or those of the block files can't be had
pub start_caused : {S T : Type 0} (tells : Type 0) (files files_now : ℕ → List ℕ)
    {y : ℕ} (turns calls of_link low high of_disk now : ℕ) (e : StartFault)
    → OnlyReads {T = S} tells files files_now low high start.ArchiveFailed (Err e)
    → CountsOnly {T = T} of_disk now start.DiskFailed (Err e)
    → ShowsCause (counts turns calls calls (faults of_link low of_disk y) (faults of_link high now y))
    (start_status e)
start_caused tells files files_now turns calls of_link low high of_disk now start.DiskFailed reads counts =
    let d = counts.counted refl in
    unserved_caused turns calls of_link low high of_disk now _ (still low high
    (reads.others_uncounted (λ e. cc)))
    (one_more of_disk now d) (λ e. cc) (λ e. cc) (λ e. absurd cc) (λ e. one_risen of_disk now d)
start_caused tells files files_now turns calls of_link low high of_disk now start.ArchiveFailed reads counts =
    let a = reads.counted refl in
    unserved_caused turns calls of_link low high of_disk now _ (one_more low high a)
    (still of_disk now (counts.others_uncounted (λ e. cc))) (λ e. cc) (λ e. cc) (λ e. one_risen low high a)
    (λ e. absurd cc)
start_caused tells files files_now turns calls of_link low high of_disk now start.OtherChain reads counts =
    unserved_caused turns calls of_link low high of_disk now _ (still low high
    (reads.others_uncounted (λ e. cc)))
    (still of_disk now (counts.others_uncounted (λ e. cc))) (λ e. cc) (λ e. cc) (λ e. absurd cc)
    (λ e. absurd cc)
start_caused tells files files_now turns calls of_link low high of_disk now start.Memory reads counts =
    unserved_caused turns calls of_link low high of_disk now _ (still low high
    (reads.others_uncounted (λ e. cc)))
    (still of_disk now (counts.others_uncounted (λ e. cc))) (λ e. cc) (λ e. cc) (λ e. absurd cc)
    (λ e. absurd cc)

-- file 0 can't be read
pub unread_caused : {T : Type 0} (tells : Type 0) (files files_now : ℕ → List ℕ)
    {y : ℕ} (turns calls of_link low high of_disk : ℕ) (e : FileFault)
    → OnlyReads {T = T} tells files files_now low high file.Failed (Err e)
    → ShowsCause (counts turns calls calls (faults of_link low of_disk y) (faults of_link high of_disk y))
    (unread_status e)
unread_caused tells files files_now turns calls of_link low high of_disk file.Failed reads =
    let a = reads.counted refl in
    unserved_caused turns calls of_link low high of_disk of_disk _ (one_more low high a) (omega arith)
    (λ e. cc) (λ e. cc)
    (λ e. one_risen low high a) (λ e. absurd cc)
unread_caused tells files files_now turns calls of_link low high of_disk file.Memory reads =
    unserved_caused turns calls of_link low high of_disk of_disk _ (still low high
    (reads.others_uncounted (λ e. cc))) (omega arith)
    (λ e. cc) (λ e. cc) (λ e. absurd cc) (λ e. absurd cc)
unread_caused tells files files_now turns calls of_link low high of_disk file.Bad reads =
    unserved_caused turns calls of_link low high of_disk of_disk _ (still low high
    (reads.others_uncounted (λ e. cc))) (omega arith)
    (λ e. cc) (λ e. cc) (λ e. absurd cc) (λ e. absurd cc)

-- a count that stays 0 counts no failure, and another count may stay
pub caused_still : {y y' : ℕ} (turns calls calls_now of_link link_now of_archive archive_now of_disk : ℕ) (s : Status)
    → ShowsCause (counts turns calls calls_now (faults of_link of_archive 0 y) (faults link_now archive_now 0 y'))
    s
    → ShowsCause (counts turns calls calls_now (faults of_link of_archive of_disk y)
    (faults link_now archive_now of_disk y')) s
caused_still {y} {y'} turns calls calls_now of_link link_now of_archive archive_now of_disk s k = record {
  more = each_more (faults of_link of_archive of_disk y) (faults link_now archive_now of_disk y') (k.more link)
      (k.more archive) (omega arith) (k.more relay);
  rose = rose;
  calls = k.calls;
  called = k.called;
  few = k.few;
  spent = k.spent;
}
  where
    rose : (device : Device) → ending_device s ≡ Some device
        → HasRisen (faults of_link of_archive of_disk y device) (faults link_now archive_now of_disk y' device)
    rose link e = k.rose link e
    rose archive e = k.rose archive e
    rose disk e = let r = k.rose disk e in absurd (omega arith)
    rose relay e = k.rose relay e

-- the program ends for the device for which its run ends, and as all turns are made
same_failed : (e : End) → ending_device (status_of_end e) ≡ loop.failed_device e
same_failed end.Ended = refl
same_failed end.DiskFailed = refl
same_failed end.LinkFailed = refl
same_failed end.OutOfMemory = refl
same_failed end.TurnsSpent = refl

same_spent : (e : End) → status_of_end e ≡ status.TurnsSpent → e ≡ end.TurnsSpent
same_spent end.Ended is = absurd cc
same_spent end.DiskFailed is = absurd cc
same_spent end.LinkFailed is = absurd cc
same_spent end.OutOfMemory is = absurd cc
same_spent end.TurnsSpent is = refl

pub run_caused : (c : Counts) (e : End) → IsCaused c (loop.failed_device e) (e ≡ end.TurnsSpent)
    → ShowsCause c (status_of_end e)
run_caused c e k = record {
  more = k.more;
  rose = λ device is. k.rose device (sym (same_failed e) ∙ is);
  calls = k.calls;
  called = k.called;
  few = k.few;
  spent = λ is. k.spent (same_spent e is);
}

-- a call in which a node or clients were served
pub serves : (e : End) → IsUnserved (status_of_end e) → ⊥
serves end.Ended unserved = unserved
serves end.DiskFailed unserved = unserved
serves end.LinkFailed unserved = unserved
serves end.OutOfMemory unserved = unserved
serves end.TurnsSpent unserved = unserved

-- how a call with an index that is open ends
pub opened_end : (e : End) → IsOpenedEnd (status_of_end e)
opened_end end.Ended = tt
opened_end end.DiskFailed = tt
opened_end end.LinkFailed = tt
opened_end end.OutOfMemory = tt
opened_end end.TurnsSpent = tt

pub start_opened : (e : StartFault) → IsOpenedEnd (start_status e)
start_opened start.DiskFailed = tt
start_opened start.ArchiveFailed = tt
start_opened start.OtherChain = tt
start_opened start.Memory = tt
