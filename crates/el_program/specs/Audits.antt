-- How a call of `audit` ends, and one of `prove-check`.
use Rattle.std.specs.Prelude.{◌≡◌, ◌≢◌, ◌⊎◌, ℕ, List, [], ◌∷◌, Bool, true, false, Option, codes}
use Rattle.el_base.specs.declared.hash.Hash32.{Hash32}
use Rattle.el_outside.specs.declared.archive.Archive as block_files
use Rattle.el_outside.specs.Files.{AllGrow}
use Rattle.el_loop.specs.Traffic.{Traffic}
use Rattle.el_chain.specs.declared.node.Node.{Node}
use Rattle.el_chain.specs.Chains.{Chain}
use Rattle.el_chain.specs.Moves.{StoodAt}
use Rattle.el_model.specs.Queries.{tip_of}
use Rattle.el_side.specs.Deeds as deed
use Rattle.el_side.specs.Deeds.{archive}
use Rattle.el_audit.specs.Checkers.{ProvesTx}
use Rattle.el_audit_run.specs.Findings.{IsFinding}
use Rattle.el_audit_run.specs.Lines.{finding_line}
use Rattle.el_audit_run.specs.declared.finding.Finding.{Finding}
use Rattle.el_audit_run.specs.declared.finding.Finding.TheVariants as finding
use Rattle.el_words.specs.Commands.{IsAudit, IsServe}
use Rattle.el_words.specs.Options.{Word}
use Rattle.el_words.specs.declared.words.ProofWords.{ProofWords}
use Rattle.el_loop.specs.Counts.{Counts}
use Rattle.el_program.specs.Checks.{IsSent, SummaryEnds}
use Rattle.el_program.specs.Ends.{IsOtherChain, IsSilent, LeavesChain, UnopenedEnds}
use Rattle.el_program.specs.Opened.{IndexChain, AreHeaders, all_added, IsScanned}
use Rattle.el_program.specs.OtherChain.{is_other_chain}
use Rattle.el_program.specs.declared.status.Status.{Status}
use Rattle.el_program.specs.declared.status.Status.TheVariants as status

-- the status with which a finding is told
abbrev pub finding_status : Finding → Status
finding_status finding.Empty = status.Ended
finding_status (finding.NoPath tip) = status.AuditDiffers
finding_status (finding.TooLarge bytes) = status.AuditTooLarge
finding_status (finding.BadBlock block flaw) = status.AuditDiffers
finding_status (finding.Differs script kind at) = status.AuditDiffers
finding_status (finding.Same height txs scripts) = status.Ended

-- the index has this chain, as far as that is sure
abbrev pub HasChain : IndexChain → Chain → Type 0
HasChain index chain = (index.sure ≡ true) × (index.chain ≡ chain)

-- This was found of an index with this chain, over the headers that a scan of all block files found and no
-- others. `before` and `after` are the block files before the call and after it.
pub record IsAuditedOver {A : Type 0} (of_files : block_files.Ghosts A) (magic : List ℕ) (index : IndexChain)
    (before after : A) (f : Finding) : Type 0 where
  pub headers : List Node
  pub told : AreHeaders index headers
  pub now : A
  pub nodes : List Node
  pub scanned : IsScanned of_files magic before now nodes
  pub same : is_other_chain headers nodes ≡ false
  pub grows : of_files.tells → AllGrow (of_files.bytes now) (of_files.bytes after)
  pub tip : Option Hash32
  pub tip_is : index.sure ≡ true → tip ≡ tip_of index.chain
  pub found : IsFinding (HasChain index) tip (all_added [] nodes)
      (StoodAt of_files (of_files.bytes now) (of_files.bytes after)) f

-- the line of what was found, which is told with that status
abbrev pub IsAuditLine : {A : Type 0} → block_files.Ghosts A → List ℕ → IndexChain → A → A → Status → List ℕ
    → Type 0
IsAuditLine of_files magic index before after s text =
    (f : Finding) × IsAuditedOver of_files magic index before after f × (finding_status f ≡ s)
    × (text ≡ finding_line f)

-- How an audit ends once the index is open, and has this chain: the line of what was found was sent, or
-- nothing was, since a call of a device failed, the block files are those of another chain, or no memory was
-- found.
abbrev pub AuditedEnds : {A : Type 0} → block_files.Ghosts A → List ℕ → IndexChain → Counts → A → A → Traffic
    → Status → Type 0
AuditedEnds of_files magic index c before after t status.AuditDiffers =
    (text : List ℕ) × IsAuditLine of_files magic index before after status.AuditDiffers text × IsSent c t text
AuditedEnds of_files magic index c before after t status.AuditTooLarge =
    (text : List ℕ) × IsAuditLine of_files magic index before after status.AuditTooLarge text
    × IsSent c t text
AuditedEnds of_files magic index c before after t status.ArchiveFailed =
    IsSilent c t (deed.lost archive ∷ [])
AuditedEnds of_files magic index c before after t status.OtherChain =
    IsOtherChain of_files magic index before after × IsSilent c t []
AuditedEnds of_files magic index c before after t s =
    SummaryEnds (IsAuditLine of_files magic index before after status.Ended) c t s

-- How a call with the words of `audit` ends, for a disk that reads as an index with this chain: the index is
-- not opened, or it is, and then a crash leaves its chain.
abbrev pub AuditEnds : {A : Type 0} → block_files.Ghosts A → List ℕ → Chain → Chain → IndexChain
    → (Chain → Chain → Type 0) → Counts → A → A → Traffic → Status → Type 0
AuditEnds of_files magic was flight index leaves c before after t s =
    UnopenedEnds index.sure was flight leaves c t s
    ⊎ (AuditedEnds of_files magic index c before after t s × LeavesChain index leaves)

-- whether the words of `prove-check` prove their transaction, as a line
pub data IsVerdict (said : ProofWords) (text : List ℕ) : Type 0 where
  yes : ProvesTx said.header said.txid said.pos said.branch → text ≡ codes "yes\n" → IsVerdict said text
  no : (ProvesTx said.header said.txid said.pos said.branch → ⊥) → text ≡ codes "no\n" → IsVerdict said text

-- the statuses with which a call ends that has a line to send
abbrev pub IsSendEnd : Status → Type 0
IsSendEnd s = (s ≡ status.Ended) ⊎ ((s ≡ status.LinkFailed) ⊎ (s ≡ status.OutOfMemory))

-- the words ask for an index of the network with that magic
abbrev pub AsksIndex : List Word → List ℕ → Type 0
AsksIndex words magic = IsServe words magic ⊎ IsAudit words magic
