-- The side of the world that the node leads, and what each of its lines does to it. Each failed call stands
-- among `losses`, with its device. `of_files` is what the type of the block files says of them: whether they
-- tell what they hold, what that is, and which bytes their reads gave.
use Rattle.std.specs.Prelude.{◌≡◌, ◌⊎◌, ◌≤◌, ◌<◌, ◌&&◌, ℕ, Bool, true, false, not, if◌then◌else◌, List, [], ◌∷◌, ◌++◌, drop, Option, Some, None, IfSome}
use Rattle.el_base.specs.declared.hash.Hash32.{Hash32}
use Rattle.el_side.specs.Deeds as deed
use Rattle.el_side.specs.Deeds.{Deed, archive}
use Rattle.el_outside.specs.Files.{AllGrow}
use Rattle.el_outside.specs.declared.archive.Archive as block_files
use Rattle.el_tx.specs.declared.types.Tx.{Tx}
use Rattle.el_tx.specs.Encoding.{Encodes}
use Rattle.el_tx.specs.Hashing.{txid}
use Rattle.el_chain.specs.declared.node.Node.{Node}
use Rattle.el_chain.specs.declared.moves.MoveFault.{MoveFault}
use Rattle.el_chain.specs.Chains.{Chain}
use Rattle.el_chain.specs.Headers.{IsPath, is_known, is_second, added}
use Rattle.el_chain.specs.Moves.{Moves, StoodAt, IsRefused, shorter, max_back}
use Rattle.el_files.specs.Scanning.{IsFoundAt, LookedUp}
use Rattle.el_mempool.specs.declared.entry.PoolLimits.{PoolLimits}
use Rattle.el_mempool.specs.declared.fault.PoolFault.{PoolFault}
use Rattle.el_mempool.specs.Refusals.{tx_refusal, is_kept}
use Rattle.el_mempool.specs.Sift.{sift, other_than}
use Rattle.el_lines.specs.Lines.{LineEvent, line, too_long}
use Rattle.el_lines.specs.NodeLines.{NodeLine, block, tip, tx, dropped, ReadsNodeLine}
use Rattle.el_lines.specs.NodeAnswers.{move_refused, pool_refused}
use Rattle.el_lines.specs.declared.node_answer.NodeAnswer.{NodeAnswer}
use Rattle.el_lines.specs.declared.node_answer.NodeAnswer.TheVariants as say
use Rattle.el_lines.specs.declared.node_answer.NodeRefusal.{NodeRefusal}
use Rattle.el_lines.specs.declared.node_answer.NodeRefusal.TheVariants as refusal
use Rattle.el_side.specs.Plans.{back_of, rest_of, IsMoving, plan_of, left_of}
use Rattle.el_model.specs.Queries.{height_of, tip_of}

-- What the node leads: the chain that is answered from; the magic of the network; how much may be kept; the
-- unconfirmed transactions that are kept, in order of arrival; the nodes that were found; the blocks that its
-- last tip line is still to put in; and the bytes of the block files as its last line left them. `sure` is
-- whether the index stands for the chain, and the unconfirmed set for what is kept. It never changes; of a
-- side that is unsure the chain and what is kept are names that say nothing.
pub record Side : Type 0 where
  pub sure : Bool
  pub chain : Chain
  pub magic : List ℕ
  pub limits : PoolLimits
  pub kept : List Tx
  pub found : List Node
  pub ahead : List Node
  pub files : ℕ → List ℕ

-- the index stands for the side's chain, and the unconfirmed set for what it keeps
abbrev pub IsSure : Side → Type 0
IsSure side = side.sure ≡ true

-- the side of a chain before the node said anything
abbrev pub quiet_side : Bool → Chain → List ℕ → PoolLimits → List Node → (ℕ → List ℕ) → Side
quiet_side sure chain magic limits found files = record {
  sure = sure;
  chain = chain;
  magic = magic;
  limits = limits;
  kept = [];
  found = found;
  ahead = [];
  files = files;
}

-- What is found at a place of a block file, as the file was seen in the line. Whatever the file tells, the
-- head of the record was read from it. `files` are the block files as the line leaves them.
pub record LooksUp {A : Type 0} (of_files : block_files.Ghosts A) (side : Side) (file at : ℕ)
    (found : Option Node) (files : ℕ → List ℕ) : Type 0 where
  pub read : IfSome found (IsFoundAt of_files.gave side.magic file at)
  pub grows : of_files.tells → AllGrow side.files files
  pub record_is : of_files.tells → LookedUp of_files side.files files side.magic file at found

-- what the node is answered where this stands at a place
abbrev pub found_answer : List Node → Option Node → NodeAnswer
found_answer known None = say.Refused refusal.Place
found_answer known (Some n) =
    if not (is_known known n.hash) && is_second known n then say.Refused (refusal.Genesis n.hash)
    else say.Block n.hash

-- the nodes that are then found
abbrev pub found_after : List Node → Option Node → List Node
found_after known None = known
found_after known (Some n) = added known n

-- A line that tells a place of the block files.
pub data Looks {A : Type 0} (of_files : block_files.Ghosts A) (side : Side) (file at : ℕ)
    (answer : NodeAnswer) (losses : List Deed) (next : Side) : Type 0 where
  -- what stands at the place joins what was found
  looks : (found : Option Node) (files : ℕ → List ℕ) → LooksUp of_files side file at found files
      → answer ≡ found_answer side.found found
      → next ≡ record side { found = found_after side.found found; files = files } → losses ≡ []
      → Looks of_files side file at answer losses next
  -- the block files failed
  fails : (files : ℕ → List ℕ) → (of_files.tells → AllGrow side.files files)
      → answer ≡ say.Refused refusal.Archive
      → next ≡ record side { files = files } → losses ≡ deed.lost archive ∷ []
      → Looks of_files side file at answer losses next

-- the transactions that are kept once a move left these blocks to put in: with the last move of a line they
-- are sifted over the chain
abbrev pub kept_after : List Node → Chain → List Tx → List Tx
kept_after [] chain kept = sift chain kept
kept_after (n ∷ ns) chain kept = kept

-- What the node may be told of a move, whatever the index stands for, and which blocks are left of these:
-- where the chain ends, or for what of its blocks the move is refused.
pub data MayTellMove (rest : List Node) (answer : NodeAnswer) : List Node → Type 0 where
  made : (hash : Option Hash32) (height : Option ℕ) → answer ≡ say.At hash height
      → MayTellMove rest answer (left_of rest)
  refused : (e : MoveFault) → move_refused e ≡ Some answer → MayTellMove rest answer []

-- One move of a tip line, where so many blocks are to be taken back and these are to be put in. The node is
-- answered, and the side is then `next`.
pub data Moving {A : Type 0} (of_files : block_files.Ghosts A) (side : Side) (back : ℕ) (rest : List Node)
    (answer : NodeAnswer) (losses : List Deed) (next : Side) : Type 0 where
  -- it is done, and the node is told where the chain ends
  commits : (files : ℕ → List ℕ) (blocks : Chain) → (of_files.tells → AllGrow side.files files)
      → Moves (StoodAt of_files side.files files) side.chain (plan_of back rest) blocks
      → next ≡ record side {
        chain = shorter back side.chain ++ blocks;
        kept = kept_after (left_of rest) (shorter back side.chain ++ blocks) side.kept;
        ahead = left_of rest;
        files = files;
      }
      → answer ≡ say.At (tip_of next.chain) (height_of next.chain) → losses ≡ []
      → Moving of_files side back rest answer losses next
  -- it is refused for one of its blocks, and ends the line, after which the kept ones are sifted
  refuses : (files : ℕ → List ℕ) (e : MoveFault) → (of_files.tells → AllGrow side.files files)
      → move_refused e ≡ Some answer
      → IsRefused (StoodAt of_files side.files files) side.chain (plan_of back rest) e
      → next ≡ record side { kept = sift side.chain side.kept; ahead = []; files = files } → losses ≡ []
      → Moving of_files side back rest answer losses next
  -- the block files failed, which ends it too
  fails : (files : ℕ → List ℕ) → (of_files.tells → AllGrow side.files files)
      → answer ≡ say.Refused refusal.Archive
      → next ≡ record side { kept = sift side.chain side.kept; ahead = []; files = files }
      → losses ≡ deed.lost archive ∷ [] → Moving of_files side back rest answer losses next
  -- the side is unsure
  unsure : side.sure ≡ false → (left : List Node) (files : ℕ → List ℕ)
      → (of_files.tells → AllGrow side.files files) → MayTellMove rest answer left
      → next ≡ record side { ahead = left; files = files } → losses ≡ []
      → Moving of_files side back rest answer losses next

-- A tip line of a side that is unsure: so many blocks are said to be taken back, and these are to be put in.
pub data GoesUnsure {A : Type 0} (of_files : block_files.Ghosts A) (side : Side) (back : ℕ)
    (rest : List Node) (answer : NodeAnswer) (losses : List Deed) (next : Side) : Type 0 where
  deep : max_back < back → answer ≡ say.Refused (refusal.Deep back) → next ≡ side → losses ≡ []
      → GoesUnsure of_files side back rest answer losses next
  there : (hash : Option Hash32) (height : Option ℕ) → back ≡ 0 → rest ≡ []
      → answer ≡ say.At hash height → next ≡ side → losses ≡ []
      → GoesUnsure of_files side back rest answer losses next
  moves : back ≤ max_back → IsMoving back rest → Moving of_files side back rest answer losses next
      → GoesUnsure of_files side back rest answer losses next

-- A tip line along the path to its block, up to its first move.
pub data GoesAlong {A : Type 0} (of_files : block_files.Ghosts A) (side : Side) (path : List Node)
    (answer : NodeAnswer) (losses : List Deed) (next : Side) : Type 0 where
  -- too many blocks would be taken back
  deep : max_back < back_of side.chain path
      → answer ≡ say.Refused (refusal.Deep (back_of side.chain path)) → next ≡ side → losses ≡ []
      → GoesAlong of_files side path answer losses next
  -- the chain ends there
  there : back_of side.chain path ≡ 0 → rest_of side.chain path ≡ []
      → answer ≡ say.At (tip_of side.chain) (height_of side.chain) → next ≡ side → losses ≡ []
      → GoesAlong of_files side path answer losses next
  moves : back_of side.chain path ≤ max_back → IsMoving (back_of side.chain path) (rest_of side.chain path)
      → Moving of_files side (back_of side.chain path) (rest_of side.chain path) answer losses next
      → GoesAlong of_files side path answer losses next
  -- the side is unsure: how much of the path the index has is said by the index alone
  unsure : side.sure ≡ false → (back same : ℕ)
      → GoesUnsure of_files side back (drop same path) answer losses next
      → GoesAlong of_files side path answer losses next

-- A tip line, up to its first move.
pub data Tips {A : Type 0} (of_files : block_files.Ghosts A) (side : Side) (h : Hash32) (answer : NodeAnswer)
    (losses : List Deed) (next : Side) : Type 0 where
  unknown : is_known side.found h ≡ false → answer ≡ say.Refused (refusal.Unknown h) → next ≡ side
      → losses ≡ [] → Tips of_files side h answer losses next
  unconnected : is_known side.found h ≡ true → ((path : List Node) → IsPath side.found h path → ⊥)
      → answer ≡ say.Refused (refusal.Unconnected h) → next ≡ side → losses ≡ []
      → Tips of_files side h answer losses next
  along : (path : List Node) → IsPath side.found h path → GoesAlong of_files side path answer losses next
      → Tips of_files side h answer losses next

-- what the node may be told of an unconfirmed transaction, whatever is kept and the index stands for
pub data MayTellTx (answer : NodeAnswer) : Type 0 where
  taken : (id : Hash32) → answer ≡ say.Tx id → MayTellTx answer
  refused : (id : Hash32) (e : PoolFault) → pool_refused id e ≡ Some answer → MayTellTx answer

-- A line that tells an unconfirmed transaction by its bytes.
pub data Adds (side : Side) (bytes : List ℕ) (answer : NodeAnswer) (losses : List Deed) (next : Side)
    : Type 0 where
  -- it joins the kept ones, as the last
  joins : (t : Tx) → Encodes bytes t → tx_refusal side.limits side.chain side.kept t ≡ None
      → answer ≡ say.Tx (txid t) → next ≡ record side { kept = side.kept ++ t ∷ [] } → losses ≡ []
      → Adds side bytes answer losses next
  -- this is the first refusal of it
  refuses : (t : Tx) (e : PoolFault) → Encodes bytes t
      → tx_refusal side.limits side.chain side.kept t ≡ Some e → pool_refused (txid t) e ≡ Some answer
      → next ≡ side → losses ≡ [] → Adds side bytes answer losses next
  -- the bytes are not one whole transaction
  misread : ((t : Tx) → Encodes bytes t → ⊥) → answer ≡ say.Refused refusal.Form → next ≡ side
      → losses ≡ [] → Adds side bytes answer losses next
  -- the side is unsure
  unsure : side.sure ≡ false → MayTellTx answer → next ≡ side → losses ≡ []
      → Adds side bytes answer losses next

-- A line that takes the transaction with that txid out of the kept ones, with those that spend it.
pub data Drops (side : Side) (id : Hash32) (answer : NodeAnswer) (losses : List Deed) (next : Side)
    : Type 0 where
  goes : is_kept id side.kept ≡ true → answer ≡ say.Gone id
      → next ≡ record side { kept = sift side.chain (other_than id side.kept) } → losses ≡ []
      → Drops side id answer losses next
  absent : is_kept id side.kept ≡ false → answer ≡ say.Refused (refusal.Absent id) → next ≡ side
      → losses ≡ [] → Drops side id answer losses next
  -- the side is unsure
  unsure : side.sure ≡ false → (answer ≡ say.Gone id) ⊎ (answer ≡ say.Refused (refusal.Absent id))
      → next ≡ side → losses ≡ [] → Drops side id answer losses next

-- what a line of the node says, if it says something
abbrev pub IsSaid : List ℕ → Option NodeLine → Type 0
IsSaid bytes (Some said) = ReadsNodeLine bytes said
IsSaid bytes None = (said : NodeLine) → ReadsNodeLine bytes said → ⊥

-- the line is refused for this, and does nothing
abbrev pub Refuses : Side → NodeRefusal → NodeAnswer → List Deed → Side → Type 0
Refuses side why answer losses next = (answer ≡ say.Refused why) × (next ≡ side) × (losses ≡ [])

-- A line of the node that says this.
abbrev pub Orders : {A : Type 0} → block_files.Ghosts A → Side → Option NodeLine → NodeAnswer → List Deed
    → Side → Type 0
Orders of_files side (Some (block file at)) answer losses next =
    Looks of_files side file at answer losses next
-- the chain is to end in that block
Orders of_files side (Some (tip hash)) answer losses next =
    Tips of_files side (record { 0 = hash }) answer losses next
-- an unconfirmed transaction came, or one went
Orders of_files side (Some (tx bytes)) answer losses next = Adds side bytes answer losses next
Orders of_files side (Some (dropped id)) answer losses next =
    Drops side (record { 0 = id }) answer losses next
-- it says nothing
Orders of_files side None answer losses next = Refuses side refusal.Line answer losses next

-- What is met in the node's bytes: a line, or one that is too long and refused.
abbrev pub OrdersLine : {A : Type 0} → block_files.Ghosts A → Side → LineEvent → NodeAnswer → List Deed
    → Side → Type 0
OrdersLine of_files side (line bytes) answer losses next =
    (said : Option NodeLine) × IsSaid bytes said × Orders of_files side said answer losses next
OrdersLine of_files side too_long answer losses next = Refuses side refusal.Long answer losses next
