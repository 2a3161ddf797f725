-- How a check ends.
use Rattle.std.proofs.Common.{◌≡◌, ◌≢◌, ◌⊎◌, inl, inr, ℕ, ◌≤◌, List, [], ◌∷◌, length, refl, sym, ◌∙◌, subst, arith, Some, Err}
use Rattle.el_outside.specs.declared.link.Link as links
use Rattle.el_outside.specs.Counts.{RoseBy, CountsOnly}
use Rattle.el_side.specs.Deeds as deed
use Rattle.el_side.specs.Deeds.{Device, Deed, link, archive, disk, relay, faults, failures, Rose}
use Rattle.el_outside.specs.Disk.{Image}
use Rattle.el_outside.specs.Trace.{GoesOn}
use Rattle.el_loop.specs.Traffic.{Traffic}
use Rattle.el_side.proofs.Deeds.{each_more, rose_still}
use Rattle.el_program.proofs.Rises.{no_relay}
use Rattle.el_outside.proofs.Traces.{goes_none}
use Rattle.el_outside.specs.Images.{LeftSince}
use Rattle.el_mem_disk.specs.Disks.{DiskState, disk_state, left_on, moment_of, kept_in}
use Rattle.el_mem_disk.specs.DiskFiles.{never_written}
use Rattle.el_mem_disk.specs.declared.disk.MemDisk.{MemDisk}
use Rattle.el_mem_disk.specs.declared.failing.FailingCalls.{FailingCalls}
use Rattle.el_words.specs.Words.{IsServeOf, IsOnceOf, IsCheckOf}
use Rattle.el_words.specs.declared.words.Command.TheVariants as command
use Rattle.el_words.specs.declared.words.Network.{Network}
use Rattle.el_words.specs.declared.words.ServeWords.{ServeWords}
use Rattle.el_words.proofs.OneCommand.{one_command}
use Rattle.el_loop.specs.Counts.{counts, HasRisen}
use Rattle.el_loop.specs.Traffic.{WentBy, no_traffic}
use Rattle.el_model.specs.declared.fault.QueryFault.{QueryFault}
use Rattle.el_model.specs.declared.fault.QueryFault.TheVariants as query
use Rattle.el_program.specs.Checks.{SummaryEnds}
use Rattle.el_program.specs.Statuses.{ending_device, ShowsCause}
use Rattle.el_program.specs.declared.status.Status.{Status}
use Rattle.el_program.specs.declared.status.Status.TheVariants as status
use Rattle.el_program.specs.within.Unread.{check_status}

-- words are those of one command alone, and say one number
pub serve_no_check : {words : List (List ℕ)} {said : ServeWords} {count : ℕ} → IsServeOf words said → IsCheckOf words count → ⊥
serve_no_check {words} {said} {count} is check = let one = is.words_are in let other = check.words_are in cc

pub once_no_check : {words : List (List ℕ)} {blocks : List ℕ} {network : Network} {count : ℕ} → IsOnceOf words blocks network → IsCheckOf words count → ⊥
once_no_check {words} {blocks} {network} {count} is check = let one = is.words_are in let other = check.words_are in cc

pub one_check : {words : List (List ℕ)} (a b : ℕ) → IsCheckOf words a → IsCheckOf words b → a ≡ b
one_check {words} a b is other = let same = one_command words (command.CheckChain a) (command.CheckChain b) is other in cc

-- the counts of the devices rose, but for the relay's
pub all_rose : (y a a' b b' d d' : ℕ) (losses : List Deed) → RoseBy a a' (failures link losses)
    → RoseBy b b' (failures archive losses) → RoseBy d d' (failures disk losses) → failures relay losses ≡ 0 → Rose (faults a b d y) (faults a' b' d' y) losses
all_rose y a a' b b' d d' losses of_link of_files of_disk of_relay link = of_link
all_rose y a a' b b' d d' losses of_link of_files of_disk of_relay archive = of_files
all_rose y a a' b b' d d' losses of_link of_files of_disk of_relay disk = of_disk
all_rose y a a' b b' d d' losses of_link of_files of_disk of_relay relay = rw of_relay (rose_still y y refl)

-- after a summary was there to be sent
pub summary_sent : {K : Type 0} (of_link : links.Ghosts K) (old new : K) (is_line : List ℕ → Type 0) (text : List ℕ) (y turns of_files low high : ℕ) (s : Status)
    → (s ≡ status.Ended) ⊎ ((s ≡ status.LinkFailed) ⊎ (s ≡ status.OutOfMemory))
    → (of_link.tells → s ≡ status.Ended → GoesOn (of_link.trace old) (of_link.trace new) [] (record { peer = 1; text = text } ∷ []) [])
    → (of_link.tells → s ≢ status.Ended → of_link.trace new ≡ of_link.trace old)
    → (s ≡ status.LinkFailed → RoseBy (of_link.faults old) (of_link.faults new) 1)
    → (s ≢ status.LinkFailed → of_link.faults new ≡ of_link.faults old)
    → of_link.calls new ≡ of_link.calls old → high ≡ low → is_line text
    → (t : Traffic) × WentBy of_link old new t
    × SummaryEnds is_line (counts turns (of_link.calls old) (of_link.calls new) (faults (of_link.faults old) of_files low y) (faults (of_link.faults new) of_files high y)) t s
summary_sent of_link old new is_line text y turns of_files low high s is sent not_sent counted uncounted calls same line = elim is [
  | inl e ↦ (
    record { arrivals = []; messages = record { peer = 1; text = text } ∷ []; closings = []; offers = [] },
    λ told. sent told e,
    rw e (
      text,
      line,
      record {
        traffic = refl;
        calls = calls;
        rose = all_rose y (of_link.faults old) (of_link.faults new) of_files of_files low high [] (rose_still _ _ (uncounted (λ f. let g = sym e in let h = f in cc)))
            (rose_still of_files of_files refl) (rose_still low high same) refl;
      },
    ),
  )
  | inr (inl e) ↦ (
    no_traffic,
    λ told. rw (not_sent told (λ f. let g = e in cc)) (goes_none (of_link.trace old)),
    rw e (record {
      traffic = refl;
      calls = calls;
      rose = all_rose y (of_link.faults old) (of_link.faults new) of_files of_files low high (deed.lost link ∷ []) (counted e)
          (rose_still of_files of_files refl) (rose_still low high same) refl;
    }),
  )
  | inr (inr e) ↦ (
    no_traffic,
    λ told. rw (not_sent told (λ f. let g = e in cc)) (goes_none (of_link.trace old)),
    rw e (record {
      traffic = refl;
      calls = calls;
      rose = all_rose y (of_link.faults old) (of_link.faults new) of_files of_files low high [] (rose_still _ _ (uncounted (λ f. let g = e in cc)))
          (rose_still of_files of_files refl) (rose_still low high same) refl;
    }),
  )
]

-- where nothing was there to be sent: a call of the index's device failed, or memory ran out
pub nothing_sent : {K : Type 0} (of_link : links.Ghosts K) (k : K) (is_line : List ℕ → Type 0) (y turns of_files low high : ℕ) (s : Status)
    → (s ≡ status.DiskFailed) ⊎ (s ≡ status.OutOfMemory)
    → (s ≡ status.DiskFailed → RoseBy low high 1) → (s ≢ status.DiskFailed → high ≡ low)
    → (t : Traffic) × WentBy of_link k k t
    × SummaryEnds is_line (counts turns (of_link.calls k) (of_link.calls k) (faults (of_link.faults k) of_files low y) (faults (of_link.faults k) of_files high y)) t s
nothing_sent of_link k is_line y turns of_files low high s is counted uncounted = elim is [
  | inl e ↦ (
    no_traffic,
    λ told. goes_none (of_link.trace k),
    rw e (record {
      traffic = refl;
      calls = refl;
      rose = all_rose y (of_link.faults k) (of_link.faults k) of_files of_files low high (deed.lost disk ∷ []) (rose_still _ _ refl)
          (rose_still of_files of_files refl) (counted e) refl;
    }),
  )
  | inr e ↦ (
    no_traffic,
    λ told. goes_none (of_link.trace k),
    rw e (record {
      traffic = refl;
      calls = refl;
      rose = all_rose y (of_link.faults k) (of_link.faults k) of_files of_files low high [] (rose_still _ _ refl)
          (rose_still of_files of_files refl) (rose_still low high (uncounted (λ f. let g = e in cc))) refl;
    }),
  )
]

-- each status of a check has its cause
pub check_caused : {y : ℕ} (turns calls calls' a a' b d d' : ℕ) (s : Status) → calls' ≡ calls → a ≤ a' → d ≤ d'
    → s ≢ status.TurnsSpent → ending_device s ≢ Some archive
    → (ending_device s ≡ Some link → HasRisen a a') → (ending_device s ≡ Some disk → HasRisen d d')
    → ShowsCause (counts turns calls calls' (faults a b d y) (faults a' b d' y)) s
check_caused {y} turns calls calls' a a' b d d' s same more_link more_disk no_turns no_files by_link by_disk = record {
  more = each_more (faults a b d y) (faults a' b d' y) more_link (omega arith) more_disk (omega arith);
  rose = rose;
  calls = 0;
  called = omega arith;
  few = omega arith;
  spent = λ e. absurd (no_turns e);
}
  where
    rose : (device : Device) → ending_device s ≡ Some device → HasRisen (faults a b d y device) (faults a' b d' y device)
    rose link e = by_link e
    rose archive e = absurd (no_files e)
    rose disk e = by_disk e
    rose relay e = absurd (no_relay s e)

pub risen_by : (a b : ℕ) → RoseBy a b 1 → (a ≤ b) × HasRisen a b
risen_by a b r = (omega arith, omega arith)

-- where a summary was there to be sent
pub sent_caused : {y : ℕ} (turns calls calls' a a' b d d' : ℕ) (s : Status)
    → (s ≡ status.Ended) ⊎ ((s ≡ status.LinkFailed) ⊎ (s ≡ status.OutOfMemory))
    → (s ≡ status.LinkFailed → RoseBy a a' 1) → (s ≢ status.LinkFailed → a' ≡ a) → calls' ≡ calls → d' ≡ d
    → ShowsCause (counts turns calls calls' (faults a b d y) (faults a' b d' y)) s
sent_caused turns calls calls' a a' b d d' s is counted uncounted same still = elim is [
  | inl e ↦
      let x = uncounted (λ f. let g = sym e in let h = f in cc) in
      rw e (check_caused turns calls calls' a a' b d d' status.Ended same (omega arith) (omega arith) (λ f. cc)
      (λ f. cc) (λ f. absurd cc) (λ f. absurd cc))
  | inr (inl e) ↦
      let r = risen_by a a' (counted e) in
      rw e (check_caused turns calls calls' a a' b d d' status.LinkFailed same r.0 (omega arith) (λ f. cc)
      (λ f. cc) (λ f. r.1) (λ f. absurd cc))
  | inr (inr e) ↦
      let x = uncounted (λ f. let g = sym e in let h = f in cc) in
      rw e (check_caused turns calls calls' a a' b d d' status.OutOfMemory same (omega arith) (omega arith)
      (λ f. cc) (λ f. cc) (λ f. absurd cc) (λ f. absurd cc))
]

-- a check that stops ends in one of two ways
pub check_ends : (e : QueryFault) → (check_status e ≡ status.DiskFailed) ⊎ (check_status e ≡ status.OutOfMemory)
check_ends query.DiskFailed = inl refl
check_ends query.Memory = inr refl

-- and by a failed call exactly in the first of them
pub check_counts : {T : Type 0} (low high before after : ℕ) (e : QueryFault) → before ≡ low → after ≡ high
    → CountsOnly {T = T} before after query.DiskFailed (Err e)
    → (check_status e ≡ status.DiskFailed → RoseBy low high 1) × (check_status e ≢ status.DiskFailed → high ≡ low)
check_counts {T} low high before after query.DiskFailed one other k =
    (λ e. rw (sym one, sym other) (k.counted refl), λ apart. absurd (apart refl))
check_counts {T} low high before after query.Memory one other k =
    (λ e. absurd cc, λ apart. let same = k.others_uncounted (λ f. cc) in sym other ∙ same ∙ one)

-- a new disk in memory is fresh
none_long : (xs : List ℕ) → length xs ≤ 0 → xs ≡ []
none_long [] le = refl
none_long (x ∷ xs) le = absurd (omega arith)

pub fresh_left : (d : MemDisk) (failing : FailingCalls)
    → disk_state d ≡ record { files = λ f. never_written; past = []; failing = failing; calls = 0; faults = 0; starved = 0 }
    → (image : Image) → left_on d (moment_of d) image → (f : ℕ) → image f ≡ []
fresh_left d failing is image left f =
    let P : DiskState → Type 0 = λ s. LeftSince (kept_in s.files) s.past (length s.past) image in
    let here = subst P is left in
    none_long (image f) (here f).no_longer
