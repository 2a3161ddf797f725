-- How an audit ends, and whose words are whose.
use Rattle.std.proofs.Common.{◌≡◌, ◌≢◌, ◌⊎◌, inl, inr, ℕ, ◌≤◌, List, [], ◌∷◌, length, refl, sym, ◌∙◌, ap, subst, arith, true, Option, None, Some, Err}
use Rattle.el_base.specs.declared.hash.Hash32.{Hash32}
use Rattle.el_outside.specs.declared.archive.Archive as block_files
use Rattle.el_outside.specs.declared.link.Link as links
use Rattle.el_outside.specs.Counts.{RoseBy, OnlyReads, CountsOnly}
use Rattle.el_outside.specs.Trace.{GoesOn}
use Rattle.el_loop.specs.Traffic.{Traffic}
use Rattle.el_outside.proofs.Traces.{goes_none}
use Rattle.el_chain.specs.Chains.{Chain}
use Rattle.el_side.specs.Deeds as deed
use Rattle.el_side.specs.Deeds.{Device, Deed, Faults, link, archive, disk, relay, faults}
use Rattle.el_side.proofs.Deeds.{rose_still}
use Rattle.el_words.specs.Commands.{IsAudit}
use Rattle.el_words.specs.Options.{Word}
use Rattle.el_words.specs.Proofs.{SayProof, ShowsBranch}
use Rattle.el_words.specs.Words.{IsServeOf, IsOnceOf, IsCheckOf, IsAuditOf, network_magic}
use Rattle.el_words.specs.declared.words.Command.TheVariants as command
use Rattle.el_words.specs.declared.words.Network.{Network}
use Rattle.el_words.specs.declared.words.ProofWords.{ProofWords}
use Rattle.el_words.specs.declared.words.ServeWords.{ServeWords}
use Rattle.el_words.proofs.OneCommand.{one_command}
use Rattle.el_loop.specs.Counts.{counts, HasRisen}
use Rattle.el_loop.specs.Traffic.{WentBy, no_traffic}
use Rattle.el_audit_run.specs.Lines.{finding_line}
use Rattle.el_audit_run.specs.declared.fault.AuditFault.{AuditFault}
use Rattle.el_audit_run.specs.declared.fault.AuditFault.TheVariants as audit
use Rattle.el_audit_run.specs.declared.finding.Finding.{Finding}
use Rattle.el_audit_run.specs.declared.finding.Finding.TheVariants as finding
use Rattle.el_program.specs.AnyCall.{IsNoSummary}
use Rattle.el_program.specs.Audits.{AsksIndex, AuditedEnds, IsAuditedOver, IsSendEnd, finding_status}
use Rattle.el_program.specs.Checks.{IsSent}
use Rattle.el_program.specs.Ends.{IsOpenedEnd, IsOtherChain, IsUnserved}
use Rattle.el_program.specs.Opened.{IndexChain}
use Rattle.el_program.specs.Statuses.{ending_device, ShowsCause}
use Rattle.el_program.specs.declared.opening.StartFault.{StartFault}
use Rattle.el_program.specs.declared.opening.StartFault.TheVariants as start
use Rattle.el_program.specs.declared.status.Status.{Status}
use Rattle.el_program.specs.declared.status.Status.TheVariants as status
use Rattle.el_program.specs.within.Unread.{audit_status, start_status}
use Rattle.el_program.proofs.Checks.{all_rose, check_caused, once_no_check, risen_by, serve_no_check}
use Rattle.el_program.proofs.Rises.{unserved_caused, one_risen, one_more, still}
use Rattle.el_program.proofs.Servings.{silent}

-- ---- words

pub serve_no_summary : {words : List (List ℕ)} {said : ServeWords} → IsServeOf words said → IsNoSummary words
serve_no_summary {words} {said} is = record {
  no_check = λ count check. serve_no_check is check;
  no_audit = λ magic other.
      let same = one_command words (command.Serve said) (command.Audit other.blocks other.index other.of_network) is other.is_audit in cc;
  no_proof = λ proof other. let same = one_command words (command.Serve said) (command.ProveCheck proof) is other in cc;
}

pub once_no_summary : {words : List (List ℕ)} {blocks : List ℕ} {network : Network} → IsOnceOf words blocks network → IsNoSummary words
once_no_summary {words} {blocks} {network} is = record {
  no_check = λ count check. once_no_check is check;
  no_audit = λ magic other.
      let same = one_command words (command.Once blocks network) (command.Audit other.blocks other.index other.of_network) is other.is_audit in cc;
  no_proof = λ proof other. let same = one_command words (command.Once blocks network) (command.ProveCheck proof) is other in cc;
}

pub audit_no_serve : {words : List (List ℕ)} {blocks index : List ℕ} {network : Network} {said : ServeWords} → IsAuditOf words blocks index network → IsServeOf words said → ⊥
audit_no_serve {words} {blocks} {index} {network} {said} is other =
    let same = one_command words (command.Audit blocks index network) (command.Serve said) is other in cc

pub audit_no_check : {words : List (List ℕ)} {blocks index : List ℕ} {network : Network} {count : ℕ} → IsAuditOf words blocks index network → IsCheckOf words count → ⊥
audit_no_check {words} {blocks} {index} {network} {count} is other =
    let same = one_command words (command.Audit blocks index network) (command.CheckChain count) is other in cc

pub audit_no_proof : {words : List (List ℕ)} {blocks index : List ℕ} {network : Network} {said : ProofWords} → IsAuditOf words blocks index network → SayProof words said → ⊥
audit_no_proof {words} {blocks} {index} {network} {said} is other =
    let same = one_command words (command.Audit blocks index network) (command.ProveCheck said) is other in cc

pub check_no_proof : {words : List (List ℕ)} {count : ℕ} {said : ProofWords} → IsCheckOf words count → SayProof words said → ⊥
check_no_proof {words} {count} {said} is other = let same = one_command words (command.CheckChain count) (command.ProveCheck said) is other in cc

-- neither ask for an index
pub once_asks_none : {words : List (List ℕ)} {magic : List ℕ} {network : Network} → (blocks : Word) × IsOnceOf words blocks network → AsksIndex words magic → ⊥
once_asks_none {words} {magic} {network} found (inl is) =
    let same = one_command words (command.Once found.0 network) (command.Serve is.said) found.1 is.is_serve in cc
once_asks_none {words} {magic} {network} found (inr is) = (once_no_summary found.1).no_audit magic is

pub check_asks_none : {words : List (List ℕ)} {magic : List ℕ} {count : ℕ} → IsCheckOf words count → AsksIndex words magic → ⊥
check_asks_none {words} {magic} {count} is (inl asks) = serve_no_check asks.is_serve is
check_asks_none {words} {magic} {count} is (inr asks) = audit_no_check asks.is_audit is

-- the words of `audit`, with their network's magic
pub is_audit : {words : List (List ℕ)} {network : Network} → (blocks index : Word) × IsAuditOf words blocks index network → IsAudit words (network_magic network)
is_audit {words} {network} found = record { blocks = found.0; index = found.1; of_network = network; is_audit = found.2; magic_is = refl }

-- the words of `audit` are of one network
pub audit_network : {words : List (List ℕ)} {magic : List ℕ} {network : Network} → IsAudit words magic
    → (blocks index : Word) × IsAuditOf words blocks index network → magic ≡ network_magic network
audit_network {words} {magic} {network} is found =
    let same = one_command words (command.Audit is.blocks is.index is.of_network) (command.Audit found.0 found.1 network) is.is_audit found.2 in
    let networks : is.of_network ≡ network = cc in
    is.magic_is ∙ ap network_magic networks

-- ---- what was found is told

found_no_link : (f : Finding) → finding_status f ≡ status.LinkFailed → ⊥
found_no_link finding.Empty e = cc
found_no_link (finding.NoPath tip) e = cc
found_no_link (finding.TooLarge bytes) e = cc
found_no_link (finding.BadBlock block flaw) e = cc
found_no_link (finding.Differs script kind at) e = cc
found_no_link (finding.Same height txs scripts) e = cc

found_no_memory : (f : Finding) → finding_status f ≡ status.OutOfMemory → ⊥
found_no_memory finding.Empty e = cc
found_no_memory (finding.NoPath tip) e = cc
found_no_memory (finding.TooLarge bytes) e = cc
found_no_memory (finding.BadBlock block flaw) e = cc
found_no_memory (finding.Differs script kind at) e = cc
found_no_memory (finding.Same height txs scripts) e = cc

found_calm : (f : Finding) → (ending_device (finding_status f) ≡ None) × (finding_status f ≢ status.TurnsSpent)
found_calm finding.Empty = (refl, λ e. cc)
found_calm (finding.NoPath tip) = (refl, λ e. cc)
found_calm (finding.TooLarge bytes) = (refl, λ e. cc)
found_calm (finding.BadBlock block flaw) = (refl, λ e. cc)
found_calm (finding.Differs script kind at) = (refl, λ e. cc)
found_calm (finding.Same height txs scripts) = (refl, λ e. cc)

found_opened : (f : Finding) → IsOpenedEnd (finding_status f) × (IsUnserved (finding_status f) → ⊥)
found_opened finding.Empty = (tt, λ u. u)
found_opened (finding.NoPath tip) = (tt, λ u. u)
found_opened (finding.TooLarge bytes) = (tt, λ u. u)
found_opened (finding.BadBlock block flaw) = (tt, λ u. u)
found_opened (finding.Differs script kind at) = (tt, λ u. u)
found_opened (finding.Same height txs scripts) = (tt, λ u. u)

-- it is a status with which a call ends that has an index that is open
pub told_opened : (f : Finding) (s : Status) → (s ≡ finding_status f) ⊎ ((s ≡ status.LinkFailed) ⊎ (s ≡ status.OutOfMemory)) → IsOpenedEnd s × (IsUnserved s → ⊥)
told_opened f s is = elim is [
  | inl e ↦ rw e (found_opened f)
  | inr (inl e) ↦ rw e (tt, λ u. u)
  | inr (inr e) ↦ rw e (tt, λ u. u)
]

module _ {A K : Type 0} (of_files : block_files.Ghosts A) (of_link : links.Ghosts K) (old new : K) (magic : List ℕ) (index : IndexChain) (before after : A) (y turns b b' d d' : ℕ) where
  told_so : (t : Traffic) (f : Finding) → IsAuditedOver of_files magic index before after f
      → IsSent (counts turns (of_link.calls old) (of_link.calls new) (faults (of_link.faults old) b d y) (faults (of_link.faults new) b' d' y)) t (finding_line f)
      → AuditedEnds of_files magic index (counts turns (of_link.calls old) (of_link.calls new) (faults (of_link.faults old) b d y) (faults (of_link.faults new) b' d' y)) before after t (finding_status f)
  told_so t finding.Empty is sent = (finding_line finding.Empty, (finding.Empty, is, refl, refl), sent)
  told_so t (finding.NoPath tip) is sent = (finding_line (finding.NoPath tip), (finding.NoPath tip, is, refl, refl), sent)
  told_so t (finding.TooLarge bytes) is sent = (finding_line (finding.TooLarge bytes), (finding.TooLarge bytes, is, refl, refl), sent)
  told_so t (finding.BadBlock block flaw) is sent = (finding_line (finding.BadBlock block flaw), (finding.BadBlock block flaw, is, refl, refl), sent)
  told_so t (finding.Differs script kind at) is sent = (finding_line (finding.Differs script kind at), (finding.Differs script kind at, is, refl, refl), sent)
  told_so t (finding.Same height txs scripts) is sent = (finding_line (finding.Same height txs scripts), (finding.Same height txs scripts, is, refl, refl), sent)

  pub audit_sent : (f : Finding) (s : Status) → (s ≡ finding_status f) ⊎ ((s ≡ status.LinkFailed) ⊎ (s ≡ status.OutOfMemory))
      → (of_link.tells → s ≡ finding_status f → GoesOn (of_link.trace old) (of_link.trace new) [] (record { peer = 1; text = finding_line f } ∷ []) [])
      → (of_link.tells → s ≢ finding_status f → of_link.trace new ≡ of_link.trace old)
      → (s ≡ status.LinkFailed → RoseBy (of_link.faults old) (of_link.faults new) 1)
      → (s ≢ status.LinkFailed → of_link.faults new ≡ of_link.faults old)
      → of_link.calls new ≡ of_link.calls old → b' ≡ b → d' ≡ d → IsAuditedOver of_files magic index before after f
      → (t : Traffic) × WentBy of_link old new t
      × AuditedEnds of_files magic index (counts turns (of_link.calls old) (of_link.calls new) (faults (of_link.faults old) b d y) (faults (of_link.faults new) b' d' y)) before after t s
  audit_sent f s is sent not_sent counted uncounted calls files index_same found = elim is [
    | inl e ↦ (
      record { arrivals = []; messages = record { peer = 1; text = finding_line f } ∷ []; closings = []; offers = [] },
      λ told. sent told e,
      rw e (told_so _ f found (record {
        traffic = refl;
        calls = calls;
        rose = all_rose _ (of_link.faults old) (of_link.faults new) b b' d d' [] (rose_still _ _ (uncounted (λ g. found_no_link f (sym e ∙ g))))
            (rose_still b b' files) (rose_still d d' index_same) refl;
      })),
    )
    | inr (inl e) ↦ (
      no_traffic,
      λ told. rw (not_sent told (λ g. found_no_link f (sym g ∙ e))) (goes_none (of_link.trace old)),
      rw e (record {
        traffic = refl;
        calls = calls;
        rose = all_rose _ (of_link.faults old) (of_link.faults new) b b' d d' (deed.lost link ∷ []) (counted e) (rose_still b b' files) (rose_still d d' index_same) refl;
      }),
    )
    | inr (inr e) ↦ (
      no_traffic,
      λ told. rw (not_sent told (λ g. found_no_memory f (sym g ∙ e))) (goes_none (of_link.trace old)),
      rw e (record {
        traffic = refl;
        calls = calls;
        rose = all_rose _ (of_link.faults old) (of_link.faults new) b b' d d' [] (rose_still _ _ (uncounted (λ g. let h = sym e ∙ g in cc)))
            (rose_still b b' files) (rose_still d d' index_same) refl;
      }),
    )
  ]

no_device : {X : Type 0} {o : Option X} {x : X} → o ≡ None → o ≡ Some x → ⊥
no_device e g = cc

pub audit_caused : (y turns calls calls' a a' b b' d d' : ℕ) (f : Finding) (s : Status) → (s ≡ finding_status f) ⊎ ((s ≡ status.LinkFailed) ⊎ (s ≡ status.OutOfMemory))
    → (s ≡ status.LinkFailed → RoseBy a a' 1) → (s ≢ status.LinkFailed → a' ≡ a) → calls' ≡ calls → b' ≡ b → d' ≡ d
    → ShowsCause (counts turns calls calls' (faults a b d y) (faults a' b' d' y)) s
audit_caused y turns calls calls' a a' b b' d d' f s is counted uncounted same files index = rw files (elim is [
  | inl e ↦
      let x = uncounted (λ g. found_no_link f (sym e ∙ g)) in
      let calm = found_calm f in
      rw e (check_caused turns calls calls' a a' b d d' (finding_status f) same (omega arith) (omega arith) calm.1
      (λ g. no_device calm.0 g) (λ g. absurd (no_device calm.0 g)) (λ g. absurd (no_device calm.0 g)))
  | inr (inl e) ↦
      let r = risen_by a a' (counted e) in
      rw e (check_caused turns calls calls' a a' b d d' status.LinkFailed same r.0 (omega arith) (λ g. cc)
      (λ g. cc) (λ g. r.1) (λ g. absurd cc))
  | inr (inr e) ↦
      let x = uncounted (λ g. let h = sym e ∙ g in cc) in
      rw e (check_caused turns calls calls' a a' b d d' status.OutOfMemory same (omega arith) (omega arith)
      (λ g. cc) (λ g. cc) (λ g. absurd cc) (λ g. absurd cc))
])

-- ---- nothing was found

-- the headers can't be had
pub audit_unstarted : {A T : Type 0} (of_files : block_files.Ghosts A) (magic : List ℕ) (index : IndexChain) (y turns calls of_link low high of_disk now : ℕ) (before after : A) (e : StartFault)
    → OnlyReads {T = T} of_files.tells (of_files.bytes before) (of_files.bytes after) low high start.ArchiveFailed (Err e)
    → CountsOnly {T = T} of_disk now start.DiskFailed (Err e) → (e ≡ start.OtherChain → IsOtherChain of_files magic index before after)
    → AuditedEnds of_files magic index (counts turns calls calls (faults of_link low of_disk y) (faults of_link high now y)) before after no_traffic (start_status e)
audit_unstarted of_files magic index y turns calls of_link low high of_disk now before after start.DiskFailed reads rose other =
    silent turns calls of_link low high of_disk now (deed.lost disk ∷ []) refl refl (rose_still low high (reads.others_uncounted (λ e. cc))) (rose.counted refl)
audit_unstarted of_files magic index y turns calls of_link low high of_disk now before after start.ArchiveFailed reads rose other =
    silent turns calls of_link low high of_disk now (deed.lost archive ∷ []) refl refl (reads.counted refl) (rose_still of_disk now (rose.others_uncounted (λ e. cc)))
audit_unstarted of_files magic index y turns calls of_link low high of_disk now before after start.OtherChain reads rose other =
    (other refl, silent turns calls of_link low high of_disk now [] refl refl (rose_still low high (reads.others_uncounted (λ e. cc))) (rose_still of_disk now (rose.others_uncounted (λ e. cc))))
audit_unstarted of_files magic index y turns calls of_link low high of_disk now before after start.Memory reads rose other =
    silent turns calls of_link low high of_disk now [] refl refl (rose_still low high (reads.others_uncounted (λ e. cc))) (rose_still of_disk now (rose.others_uncounted (λ e. cc)))

-- the audit finds nothing
pub audit_unfound : {A T : Type 0} (of_files : block_files.Ghosts A) (magic : List ℕ) (index : IndexChain) (y turns calls of_link low high of_disk now : ℕ) (before after : A) (files later : ℕ → List ℕ)
    (e : AuditFault) → OnlyReads {T = T} of_files.tells files later low high audit.ArchiveFailed (Err e) → CountsOnly {T = T} of_disk now audit.DiskFailed (Err e)
    → AuditedEnds of_files magic index (counts turns calls calls (faults of_link low of_disk y) (faults of_link high now y)) before after no_traffic (audit_status e)
audit_unfound of_files magic index y turns calls of_link low high of_disk now before after files later audit.DiskFailed reads rose =
    silent turns calls of_link low high of_disk now (deed.lost disk ∷ []) refl refl (rose_still low high (reads.others_uncounted (λ e. cc))) (rose.counted refl)
audit_unfound of_files magic index y turns calls of_link low high of_disk now before after files later audit.ArchiveFailed reads rose =
    silent turns calls of_link low high of_disk now (deed.lost archive ∷ []) refl refl (reads.counted refl) (rose_still of_disk now (rose.others_uncounted (λ e. cc)))
audit_unfound of_files magic index y turns calls of_link low high of_disk now before after files later audit.Memory reads rose =
    silent turns calls of_link low high of_disk now [] refl refl (rose_still low high (reads.others_uncounted (λ e. cc))) (rose_still of_disk now (rose.others_uncounted (λ e. cc)))

pub unfound_caused : {S T : Type 0} (tells : Type 0) (files later : ℕ → List ℕ) (y turns calls of_link low high of_disk now : ℕ) (e : AuditFault)
    → OnlyReads {T = S} tells files later low high audit.ArchiveFailed (Err e) → CountsOnly {T = T} of_disk now audit.DiskFailed (Err e)
    → ShowsCause (counts turns calls calls (faults of_link low of_disk y) (faults of_link high now y)) (audit_status e)
unfound_caused tells files later y turns calls of_link low high of_disk now audit.DiskFailed reads rose =
    let d = rose.counted refl in
    unserved_caused turns calls of_link low high of_disk now _ (still low high (reads.others_uncounted (λ e. cc))) (one_more of_disk now d) (λ e. cc) (λ e. cc) (λ e. absurd cc)
    (λ e. one_risen of_disk now d)
unfound_caused tells files later y turns calls of_link low high of_disk now audit.ArchiveFailed reads rose =
    let a = reads.counted refl in
    unserved_caused turns calls of_link low high of_disk now _ (one_more low high a) (still of_disk now (rose.others_uncounted (λ e. cc))) (λ e. cc) (λ e. cc) (λ e. one_risen low high a)
    (λ e. absurd cc)
unfound_caused tells files later y turns calls of_link low high of_disk now audit.Memory reads rose =
    unserved_caused turns calls of_link low high of_disk now _ (still low high (reads.others_uncounted (λ e. cc))) (still of_disk now (rose.others_uncounted (λ e. cc))) (λ e. cc) (λ e. cc)
    (λ e. absurd cc) (λ e. absurd cc)

pub unfound_opened : (e : AuditFault) → IsOpenedEnd (audit_status e)
unfound_opened audit.DiskFailed = tt
unfound_opened audit.ArchiveFailed = tt
unfound_opened audit.Memory = tt

-- ---- proofs

-- a branch that is shown has at most 32 hashes
pub few_hashes : (branch : List Hash32) (text : Word) → ShowsBranch text branch → length branch ≤ 32
few_hashes [] text is = omega arith
few_hashes (h ∷ hs) text is = is.1

-- how a call ends that has a line to send
pub send_end : (s : Status) → IsSendEnd s → (s ≢ status.BadIndex) × (s ≢ status.DiskFailed) × (s ≢ status.Usage) × (IsUnserved s → ⊥)
send_end s is = elim is [
  | inl e ↦ rw e (λ f. cc, λ f. cc, λ f. cc, λ u. u)
  | inr (inl e) ↦ rw e (λ f. cc, λ f. cc, λ f. cc, λ u. u)
  | inr (inr e) ↦ rw e (λ f. cc, λ f. cc, λ f. cc, λ u. u)
]

-- no device was called, and the end is none of a device
pub still_caused : (turns calls : ℕ) (f : Faults) (s : Status) → ((device : Device) → ending_device s ≡ Some device → ⊥) → (s ≡ status.TurnsSpent → ⊥)
    → ShowsCause (counts turns calls calls f f) s
still_caused turns calls f s none unspent = record {
  more = λ device. omega arith;
  rose = λ device e. absurd (none device e);
  calls = 0;
  called = omega arith;
  few = omega arith;
  spent = λ e. absurd (unspent e);
}
