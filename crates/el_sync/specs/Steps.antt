-- What a step of the node's work takes and keeps, and what it leaves where it fails. A step is a line of the
-- node, or a later move of its last tip line.
use Rattle.std.specs.Prelude.{◌≡◌, ◌⊎◌, ◌≤◌, ℕ, Bool, true, List, [], ◌∷◌, Option, None, Some, Result, Err, IfOk, OnOk, OnErr}
use Rattle.std.specs.List.{AllByRecursion}
use Rattle.el_base.specs.declared.hash.Hash32.{Hash32}
use Rattle.el_outside.specs.Counts.{RoseBy, CountsOnly}
use Rattle.el_side.specs.Deeds as deed
use Rattle.el_side.specs.Deeds.{Deed, archive, disk}
use Rattle.el_outside.specs.Files.{AllGrow}
use Rattle.el_chain.specs.declared.moves.Plan.{Plan}
use Rattle.el_chain.specs.declared.node.Node.{Node}
use Rattle.el_chain.specs.Chains.{Chain, zero_hash}
use Rattle.el_chain.specs.Headers.{AreLinked}
use Rattle.el_chain.specs.Moves.{StoodBy}
use Rattle.el_chain.specs.Records.{IsNode}
use Rattle.el_lines.specs.declared.node_answer.NodeAnswer.TheVariants as say
use Rattle.el_lines.specs.declared.node_answer.NodeRefusal.TheVariants as refusal
use Rattle.el_side.specs.declared.caches.Caches.{Caches}
use Rattle.el_side.specs.declared.holdings.Holdings.{Holdings}
use Rattle.el_side.specs.Beneath.{Beneath, Ghosts, Lost}
use Rattle.el_side.specs.NodeSteps.{StepLeft}
use Rattle.el_side.specs.UnderWay.{IsUnderWay}
use Rattle.el_model.specs.LedgerCalls.{CrashLeaves, KeepsBeside, Moved}
use Rattle.el_side.specs.Side.{Side}
use Rattle.el_model.specs.declared.fault.QueryFault.{QueryFault}
use Rattle.el_model.specs.declared.fault.QueryFault.TheVariants as fault
use Rattle.el_sync.specs.declared.moving.Step.{Step}

-- the hash that a next block names, where the last block has this one
abbrev pub previous_hash : Option Hash32 → Hash32
previous_hash None = zero_hash
previous_hash (Some h) = h

-- The headers are the side's, and its last tip line has left nothing to do: a line of the node may be taken.
pub record IsFrom (holdings : Holdings) (side : Side) : Type 0 where
  pub found : side.found ≡ holdings.tree
  pub magic : side.magic ≡ holdings.magic
  pub still : side.ahead ≡ []

-- Why a step failed, and what the devices lost in it. Where the block files had failed before, no move was
-- made: `next`, which a crash may leave, is the side's chain. `later` is whether the step is a later move.
pub data FailsBy (later : Bool) (chain next : Chain) (e : QueryFault) (losses : List Deed) : Type 0 where
  by_disk : e ≡ fault.DiskFailed → losses ≡ deed.lost disk ∷ [] → FailsBy later chain next e losses
  by_memory : e ≡ fault.Memory → losses ≡ [] → FailsBy later chain next e losses
  -- in the sift or as the caches follow, after the block files had failed in the move: no memory was found,
  -- or the disk failed
  untold : later ≡ true → e ≡ fault.Memory → losses ≡ deed.lost archive ∷ [] → next ≡ chain
      → FailsBy later chain next e losses
  in_sift : later ≡ true → e ≡ fault.DiskFailed → losses ≡ deed.lost archive ∷ deed.lost disk ∷ []
      → next ≡ chain
      → FailsBy later chain next e losses

-- where the block files failed in a line, it touched nothing
abbrev pub TouchesNoFailed : Step → Type 0
TouchesNoFailed s = s.answer ≡ say.Refused refusal.Archive → (s.moved ≡ []) × (s.changed ≡ [])

-- what a step left that gave this, where these headers are then found, and these are then held and kept
abbrev pub left_by : {G A : Type 0} → Beneath G A → Beneath G A → Step → List Node → Holdings → Caches
    → StepLeft G A
left_by was now s found holdings caches = record {
  was = was;
  now = now;
  answer = s.answer;
  found = found;
  ahead = s.left;
  moved = s.moved;
  changed = s.changed;
  holdings = holdings;
  caches = caches;
}

-- The step failed. What a crash since its start leaves is the side's chain or `next`, the target of a move
-- that the step may make. Where no memory was found the ledger stands for `next`, which is the side's chain
-- or what the move has made of it before the set was sifted and the caches followed.
pub record StopsAt {G A : Type 0} (of : Ghosts G A) (was now : Beneath G A) (chain : Chain) (later : Bool)
    (is_move : Plan → Type 0) (e : QueryFault) : Type 0 where
  pub next : Chain
  pub flight : IsUnderWay (StoodBy of.files (of.files.bytes now.files)) chain is_move next
  pub crash : CrashLeaves of.ledger was.ledger now.ledger chain next
  pub stood : e ≡ fault.Memory → Moved of.ledger was.ledger now.ledger chain next
  pub losses : List Deed
  pub fails : FailsBy later chain next e losses
  pub rose : Lost of was now losses

-- The step failed, of whatever side, and this was lost in it.
pub record StepFails {G A : Type 0} (of : Ghosts G A) (was now : Beneath G A) (chain : Chain) (later : Bool)
    (e : QueryFault) : Type 0 where
  pub losses : List Deed
  pub fails : FailsBy later chain chain e losses
  pub rose : Lost of was now losses

-- by how much the count of the block files' failures rose where a step failed: by one only in the sift after
-- a later move that they had failed
abbrev pub RoseWith : Bool → (ℕ → Type 0) → Type 0
RoseWith later rose = rose 0 ⊎ ((later ≡ true) × rose 1)

-- What each step of the node's work keeps, whatever the ledger stands for.
pub record NodeStep {G A : Type 0} (of : Ghosts G A) (was now : Beneath G A) (later : Bool)
    (result : Result Step QueryFault) : Type 0 where
  pub live : OnOk result (of.ledger.is_live now.ledger)
  pub still_live : result ≡ Err fault.Memory → of.ledger.is_live now.ledger
  -- the blocks that are still to be put in, each of which names the one before it
  pub nodes : IfOk result (λ s. AllByRecursion IsNode s.left)
  pub linked : IfOk result (λ s. AreLinked (previous_hash (of.ledger.tip now.ledger)) s.left)
  -- block files only grow, and no count falls
  pub keeps : of.files.tells → AllGrow (of.files.bytes was.files) (of.files.bytes now.files)
  pub archive_more : of.files.faults was.files ≤ of.files.faults now.files
  pub archive_rose : OnErr result
      (RoseWith later (λ n. RoseBy (of.files.faults was.files) (of.files.faults now.files) n))
  pub disk_rose :
      CountsOnly (of.ledger.faults was.ledger) (of.ledger.faults now.ledger) fault.DiskFailed result
  -- the files beside the ledger's own stay
  pub beside : KeepsBeside of.ledger was.ledger now.ledger
