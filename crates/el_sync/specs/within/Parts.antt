-- What the parts of a step give each other.
use Rattle.std.specs.Prelude.{◌≡◌, ◌≢◌, ◌⊎◌, ◌≤◌, ℕ, Bool, true, false, List, [], ◌∷◌, ◌++◌, if◌then◌else◌, Some}
use Rattle.std.specs.List.{AllByRecursion}
use Rattle.el_base.specs.declared.hash.Hash32.{Hash32}
use Rattle.el_outside.specs.Counts.{RoseBy}
use Rattle.el_side.specs.Deeds as deed
use Rattle.el_side.specs.Deeds.{Deed, archive, failures}
use Rattle.el_outside.specs.Files.{AllGrow}
use Rattle.el_outside.specs.declared.archive.Archive as archives
use Rattle.el_tx.specs.declared.types.Tx.{Tx}
use Rattle.el_chain.specs.declared.moves.MoveFault.{MoveFault}
use Rattle.el_chain.specs.declared.moves.MoveFault.TheVariants as stop
use Rattle.el_chain.specs.declared.moves.Plan.{Plan}
use Rattle.el_chain.specs.declared.node.Node.{Node}
use Rattle.el_chain.specs.Chains.{Chain}
use Rattle.el_chain.specs.Headers.{AreLinked, IsPath}
use Rattle.el_chain.specs.Moves.{Moves, StoodAt, IsRefused, shorter, max_back}
use Rattle.el_chain.specs.Records.{IsNode}
use Rattle.el_chain.specs.Touches.{AreTouched}
use Rattle.el_mempool.specs.declared.fault.PoolFault.{PoolFault}
use Rattle.el_mempool.specs.declared.fault.PoolFault.TheVariants as unkept
use Rattle.el_mempool.specs.Standing.{AreChanged, PoolState, KeptStandFor}
use Rattle.el_model.specs.LedgerCalls.{KeepsBeside, Moved}
use Rattle.el_model.specs.Queries.{height_of, tip_of}
use Rattle.el_lines.specs.NodeAnswers.{move_refused}
use Rattle.el_lines.specs.declared.node_answer.NodeAnswer.{NodeAnswer}
use Rattle.el_lines.specs.declared.node_answer.NodeAnswer.TheVariants as say
use Rattle.el_lines.specs.declared.node_answer.NodeRefusal.TheVariants as refusal
use Rattle.el_side.specs.Beneath.{Beneath, Ghosts, Lost}
use Rattle.el_side.specs.Plans.{back_of, rest_of, plan_of, left_of, IsMoving}
use Rattle.el_side.specs.Side.{Side, Looks, MayTellMove}
use Rattle.el_model.specs.declared.fault.QueryFault.{QueryFault}
use Rattle.el_model.specs.declared.fault.QueryFault.TheVariants as fault
use Rattle.el_sync.specs.declared.making.Made.{Made}
use Rattle.el_sync.specs.Steps.{previous_hash}

-- what the node is answered where a move is refused for one of its blocks, or the block files failed; the
-- fault is no other
abbrev pub SaysRefusal : MoveFault → NodeAnswer → Type 0
SaysRefusal stop.DiskFailed answer = ⊥
SaysRefusal stop.Memory answer = ⊥
SaysRefusal stop.ArchiveFailed answer = answer ≡ say.Refused refusal.Archive
SaysRefusal (stop.Changed w f) answer = move_refused (stop.Changed w f) ≡ Some answer
SaysRefusal (stop.BadBlock h f) answer = move_refused (stop.BadBlock h f) ≡ Some answer
SaysRefusal (stop.Refused h f) answer = move_refused (stop.Refused h f) ≡ Some answer

-- What came of a move before the set is sifted: whether it was made, what the node is answered, which script
-- hashes it touched, and the chain then.
pub data Tried (stood : Node → List ℕ → Type 0) (side : Side) (back : ℕ) (rest : List Node) (moved : Bool)
    (answer : NodeAnswer) (touched : List Hash32) (losses : List Deed) (chain : Chain) : Type 0 where
  made : (blocks : Chain) → Moves stood side.chain (plan_of back rest) blocks
      → AreTouched (plan_of back rest) side.chain blocks touched → moved ≡ true
      → chain ≡ shorter back side.chain ++ blocks → answer ≡ say.At (tip_of chain) (height_of chain)
      → losses ≡ [] → Tried stood side back rest moved answer touched losses chain
  refused : (e : MoveFault) → IsRefused stood side.chain (plan_of back rest) e → moved ≡ false
      → chain ≡ side.chain → move_refused e ≡ Some answer → touched ≡ [] → losses ≡ []
      → Tried stood side back rest moved answer touched losses chain
  failed : moved ≡ false → chain ≡ side.chain → answer ≡ say.Refused refusal.Archive → touched ≡ []
      → losses ≡ deed.lost archive ∷ [] → Tried stood side back rest moved answer touched losses chain

-- A move was tried from the side.
pub record Tries {G A : Type 0} (of : Ghosts G A) (was now : Beneath G A) (side : Side) (back : ℕ)
    (rest : List Node) (made : Made) : Type 0 where
  pub losses : List Deed
  pub chain : Chain
  pub tried : Tried (StoodAt of.files side.files (of.files.bytes now.files)) side back rest
      made.moved made.answer made.touched losses chain
  pub grows : of.files.tells → AllGrow side.files (of.files.bytes now.files)
  pub moved : Moved of.ledger was.ledger now.ledger side.chain chain
  pub rose : Lost of was now losses

-- what the node is told of a move that was tried, whatever the ledger stands for, and what the devices lost
pub data SaysMove (rest : List Node) (made : Made) (losses : List Deed) : Type 0 where
  of_ledger : MayTellMove rest made.answer made.left → losses ≡ [] → SaysMove rest made losses
  files_failed : made.answer ≡ say.Refused refusal.Archive → made.left ≡ [] → losses ≡ deed.lost archive ∷ []
      → SaysMove rest made losses

-- The move was tried, which says so, and the counts rose by what was lost.
pub record TellsMove {G A : Type 0} (of : Ghosts G A) (was now : Beneath G A) (rest : List Node) (made : Made)
    : Type 0 where
  pub losses : List Deed
  pub says : SaysMove rest made losses
  pub rose : Lost of was now losses

-- What a move that was made or refused keeps, whatever the ledger stands for.
pub record MoveKeeps {G A : Type 0} (of : Ghosts G A) (was now : Beneath G A) (rest : List Node) (made : Made)
    : Type 0 where
  pub live : of.ledger.is_live now.ledger
  pub left : made.left ≡ (if made.moved then left_of rest else [])
  pub nodes : AllByRecursion IsNode made.left
  pub linked : AreLinked (previous_hash (of.ledger.tip now.ledger)) made.left
  pub keeps : of.files.tells → AllGrow (of.files.bytes was.files) (of.files.bytes now.files)
  pub archive_rose : RoseBy (of.files.faults was.files) (of.files.faults now.files) 0
      ⊎ ((made.moved ≡ false) × RoseBy (of.files.faults was.files) (of.files.faults now.files) 1)
  pub disk_same : of.ledger.faults now.ledger ≡ of.ledger.faults was.ledger
  pub beside : KeepsBeside of.ledger was.ledger now.ledger
  pub tells : TellsMove of was now rest made

-- What a move that failed keeps.
pub record MoveFailed {G A : Type 0} (of : Ghosts G A) (was now : Beneath G A) (e : QueryFault) : Type 0 where
  pub still_live : e ≡ fault.Memory → of.ledger.is_live now.ledger
  pub keeps : of.files.tells → AllGrow (of.files.bytes was.files) (of.files.bytes now.files)
  pub archive_rose : RoseBy (of.files.faults was.files) (of.files.faults now.files) 0
  pub disk_rose : e ≡ fault.DiskFailed → RoseBy (of.ledger.faults was.ledger) (of.ledger.faults now.ledger) 1
  pub disk_same : e ≢ fault.DiskFailed → of.ledger.faults now.ledger ≡ of.ledger.faults was.ledger
  pub beside : KeepsBeside of.ledger was.ledger now.ledger

-- The set stands for what is kept of these transactions, and these are the script hashes that changed.
pub record StandsAfter (pool : PoolState) (side : Side) (changed : List Hash32) (does : Side → Type 0)
    : Type 0 where
  pub kept : List Tx
  pub done : does (record side { kept = kept })
  pub stood : KeptStandFor pool.entries side.chain kept
  pub changes : AreChanged side.chain side.kept side.chain kept changed

-- the refusal tells the txid of the transaction itself
abbrev pub NamesItself : PoolFault → Type 0
NamesItself unkept.Confirmed = Unit {0}
NamesItself unkept.Known = Unit {0}
NamesItself other = ⊥

-- A place was looked at, and these are the headers that are then found.
pub record Looked {A : Type 0} (of_files : archives.Ghosts A) (files_old files_new : A) (side : Side)
    (file at : ℕ) (answer : NodeAnswer) (found : List Node) : Type 0 where
  pub losses : List Deed
  pub looks : Looks of_files side file at answer losses
      (record side { found = found; files = of_files.bytes files_new })
  pub rose : RoseBy (of_files.faults files_old) (of_files.faults files_new) (failures archive losses)

-- the first move along a path, which takes back as many blocks as may be, and moves something
pub record IsPathMove (chain : Chain) (path : List Node) (p : Plan) : Type 0 where
  pub few : back_of chain path ≤ max_back
  pub moving : IsMoving (back_of chain path) (rest_of chain path)
  pub plan_is : p ≡ plan_of (back_of chain path) (rest_of chain path)

-- the first move towards a block
pub record IsTipMove (side : Side) (h : Hash32) (p : Plan) : Type 0 where
  pub path : List Node
  pub is_path : IsPath side.found h path
  pub move_is : IsPathMove side.chain path p
