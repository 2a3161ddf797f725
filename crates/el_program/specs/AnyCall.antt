-- What every call of `serve` promises.
use Rattle.std.specs.Prelude.{◌≡◌, ◌≢◌, ℕ, true, List}
use Rattle.el_outside.specs.declared.archive.Archive as archive
use Rattle.el_outside.specs.declared.disk.Disk as disk
use Rattle.el_outside.specs.declared.link.Link as link
use Rattle.el_outside.specs.declared.relay.Relay as relay
use Rattle.el_loop.specs.Traffic.{Traffic}
use Rattle.el_chain.specs.Chains.{Chain}
use Rattle.el_loop.specs.Counts.{counts_of}
use Rattle.el_loop.specs.Traffic.{WentBy}
use Rattle.el_words.specs.Commands.{IsAudit, IsServe}
use Rattle.el_words.specs.Options.{Word}
use Rattle.el_words.specs.Proofs.{SayProof}
use Rattle.el_words.specs.Words.{IsCheckOf}
use Rattle.el_words.specs.declared.words.ProofWords.{ProofWords}
use Rattle.el_program.specs.Audits.{AuditEnds, IsVerdict}
use Rattle.el_program.specs.Calls.{Call, CallEnds}
use Rattle.el_program.specs.Checks.{SummaryEnds, IsCheckedDisk}
use Rattle.el_program.specs.IndexDisks.{IsIndexDisk, LeavesOneOf}
use Rattle.el_program.specs.Lives.{IsFresh}
use Rattle.el_program.specs.Opened.{IndexChain}
use Rattle.el_program.specs.declared.status.Status.TheVariants as status

-- the words are those of no command that sends client 1 one line and ends
pub record IsNoSummary (words : List Word) : Type 0 where
  pub no_check : (count : ℕ) → IsCheckOf words count → ⊥
  pub no_audit : (magic : List ℕ) → IsAudit words magic → ⊥
  pub no_proof : (said : ProofWords) → SayProof words said → ⊥

-- With the words of `check-chain` the call ends as such, wherever the disk tells that its files are empty;
-- with those of `audit` and of `prove-check` it ends as such, the latter without the disk and the block
-- files. With any other words it ends as a call of the server, whatever the disk is that they ask for: what
-- is said of chains is said where the disk is an index, which is then sure.
pub record IsCall {D A Y K : Type 0} (of_disk : disk.Ghosts D) (of_files : archive.Ghosts A)
    (of_relay : relay.Ghosts Y) (of_link : link.Ghosts K) (c : Call D A Y K) : Type 0 where
  pub served : IsNoSummary c.words → (was flight : Chain) (index : IndexChain)
      → (index.sure ≡ true → (magic : List ℕ) → IsServe c.words magic
      → IsIndexDisk of_disk magic c.before.disk was flight index.chain)
      → CallEnds of_disk of_files of_relay of_link c was flight index
      (λ magic acked flight'. LeavesOneOf of_disk magic c.after.disk acked flight')
  pub checked : (count : ℕ) → IsCheckOf c.words count → of_disk.tells → IsFresh of_disk c.before.disk
      → (t : Traffic) × WentBy of_link c.before.link c.after.link t
      × SummaryEnds (IsCheckedDisk of_disk count c.before.disk c.after.disk)
      (counts_of of_disk.faults of_files of_relay of_link c.turns c.before c.after) t c.status
  pub audited : (magic : List ℕ) → IsAudit c.words magic → (was flight : Chain) (index : IndexChain)
      → (index.sure ≡ true → IsIndexDisk of_disk magic c.before.disk was flight index.chain)
      → (t : Traffic) × WentBy of_link c.before.link c.after.link t
      × AuditEnds of_files magic was flight index (LeavesOneOf of_disk magic c.after.disk)
      (counts_of of_disk.faults of_files of_relay of_link c.turns c.before c.after) c.before.files
      c.after.files t
      c.status
  pub proved : (said : ProofWords) → SayProof c.words said
      → (c.after.disk ≡ c.before.disk) × (c.after.files ≡ c.before.files) × (c.status ≢ status.DiskFailed)
      × ((t : Traffic) × WentBy of_link c.before.link c.after.link t
      × SummaryEnds (IsVerdict said)
      (counts_of of_disk.faults of_files of_relay of_link c.turns c.before c.after) t c.status)
