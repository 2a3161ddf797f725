-- A step of the node's work, over a ledger and block files of which only the types are known.
use Rattle.std.specs.Prelude.{◌≡◌, false, List, []}
use Rattle.el_base.specs.declared.hash.Hash32.{Hash32}
use Rattle.el_side.specs.Deeds.{Deed}
use Rattle.el_outside.specs.Files.{AllGrow}
use Rattle.el_chain.specs.declared.node.Node.{Node}
use Rattle.el_chain.specs.Chains.{Chain}
use Rattle.el_mempool.specs.Standing.{KeptStandFor}
use Rattle.el_fees.specs.Tables.{IsTableOf}
use Rattle.el_model.specs.LedgerCalls.{Moved}
use Rattle.el_lines.specs.declared.node_answer.NodeAnswer.{NodeAnswer}
use Rattle.el_status.specs.Statuses.{status}
use Rattle.el_status.specs.Untouched.{LooksSame, is_among}
use Rattle.el_side.specs.declared.caches.Caches.{Caches}
use Rattle.el_side.specs.declared.holdings.Holdings.{Holdings}
use Rattle.el_side.specs.Beneath.{Beneath, Ghosts, Lost}
use Rattle.el_side.specs.Caching.{CachesStand}
use Rattle.el_side.specs.Side.{Side, IsSure}

-- The set stands for the transactions that are kept, over the chain that was there when the node's last tip
-- line began, its start: that is the side's chain where the line left nothing to do. Of a side that is unsure
-- the set may hold anything. So with the table of its fees, and with what was computed once.
pub record SetStands (holdings : Holdings) (caches : Caches) (side : Side) (start : Chain) : Type 0 where
  pub stood : IsSure side → KeptStandFor holdings.pool.entries start side.kept
  pub fees : IsSure side → IsTableOf holdings.fees holdings.pool.entries
  pub computed : IsSure side → CachesStand caches start side.chain
  pub still : side.ahead ≡ [] → start ≡ side.chain
  pub limits : holdings.pool.limits ≡ side.limits

-- the ledger stands for the side's chain, where that is sure, the set for what is kept, and the block files
-- have all that the side knows of them
pub record IsAt {G A : Type 0} (of : Ghosts G A) (now : Beneath G A) (holdings : Holdings) (caches : Caches)
    (side : Side) (start : Chain) : Type 0 where
  pub stood : IsSure side → of.ledger.stands now.ledger side.chain
  pub set : SetStands holdings caches side start
  pub told : of.files.tells → AllGrow side.files (of.files.bytes now.files)

-- A client is answered from these: where the side is sure, the ledger stands for its chain, the set for what
-- is kept over it, the table of fees is that of the set, and what was computed once is of the chain; the
-- found headers are the side's, and the block files have all that the side knows of them.
pub record IsSettled {G A : Type 0} (of : Ghosts G A) (now : Beneath G A) (holdings : Holdings)
    (caches : Caches) (side : Side) : Type 0 where
  pub stood : IsSure side → of.ledger.stands now.ledger side.chain
  pub set : IsSure side → KeptStandFor holdings.pool.entries side.chain side.kept
  pub fees : IsSure side → IsTableOf holdings.fees holdings.pool.entries
  pub computed : IsSure side → CachesStand caches side.chain side.chain
  pub found : holdings.tree ≡ side.found
  pub told : of.files.tells → AllGrow side.files (of.files.bytes now.files)

-- The script hashes that a step touched: `moved` by moving the chain, `changed` in the unconfirmed set. Of
-- each other one that looked over the side's chain as it had over the line's start, the status over the start
-- and what was kept is still the same, and it looks so still.
pub record Touches (side : Side) (start : Chain) (next : Side) (next_start : Chain)
    (moved changed : List Hash32) : Type 0 where
  pub status_stays : (s : Hash32) → is_among moved s ≡ false → is_among changed s ≡ false
      → LooksSame start side.chain s.0 → status next_start next.kept s.0 ≡ status start side.kept s.0
  pub looks : (s : Hash32) → is_among moved s ≡ false → is_among changed s ≡ false
      → LooksSame start side.chain s.0 → LooksSame next_start next.chain s.0

-- What a step leaves: the ledger and the block files as they were before it and are after it, what the node
-- is answered, the headers that are then found, the blocks that are then ahead, the script hashes that it
-- touched by moving the chain and in the unconfirmed set, what is then held, and what was computed once.
pub record StepLeft (G A : Type 0) : Type 0 where
  pub was : Beneath G A
  pub now : Beneath G A
  pub answer : NodeAnswer
  pub found : List Node
  pub ahead : List Node
  pub moved : List Hash32
  pub changed : List Hash32
  pub holdings : Holdings
  pub caches : Caches

-- A step that left this led on from the side, by what `leads` says of the node's answer, of the devices'
-- failures and of the next side. A sure side stays sure, and no other becomes so.
pub record Leads {G A : Type 0} (of : Ghosts G A) (leads : NodeAnswer → List Deed → Side → Type 0)
    (side : Side) (start : Chain) (left : StepLeft G A) : Type 0 where
  pub losses : List Deed
  pub next : Side
  pub led : leads left.answer losses next
  pub sure_is : next.sure ≡ side.sure
  pub magic_is : next.magic ≡ side.magic
  pub found_is : left.found ≡ next.found
  pub ahead_is : left.ahead ≡ next.ahead
  pub next_start : Chain
  pub set : SetStands left.holdings left.caches next next_start
  pub touches : IsSure side → Touches side start next next_start left.moved left.changed
  pub went : IsSure side → Moved of.ledger left.was.ledger left.now.ledger side.chain next.chain
  pub told : of.files.tells → AllGrow next.files (of.files.bytes left.now.files)
  pub rose : Lost of left.was left.now losses
