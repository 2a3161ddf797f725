-- What a ledger, block files and what is held beside them stand for on the way of tip lines.
use Rattle.std.specs.Prelude.{◌≡◌, ◌≤◌, ℕ, ◌+◌, ◌-◌, Bool, false, Option, None, Some, List, [], length}
use Rattle.sha2.specs.Sha256.{sha256}
use Rattle.el_base.specs.declared.hash.Hash32.{Hash32}
use Rattle.el_outside.specs.Moments.{LeftNow}
use Rattle.el_chain.specs.Chains.{Chain}
use Rattle.el_chain.specs.Headers.{same_hash}
use Rattle.el_chain.specs.declared.node.Node.{Node}
use Rattle.el_side.specs.Beneath.{Beneath, Ghosts}
use Rattle.el_side.specs.NodeSteps.{IsAt}
use Rattle.el_side.specs.Side.{Side, IsSure}
use Rattle.el_side.specs.declared.caches.Caches.{Caches}
use Rattle.el_side.specs.declared.holdings.Holdings.{Holdings}
use Rattle.el_gen.specs.Generated.{locking_script}
use Rattle.el_gen.specs.MadeFile.{made_file}
use Rattle.el_model.specs.Queries.{balance}
use Rattle.el_model.specs.declared.ledger.Ledger as ledger
use Rattle.el_check_chain.specs.Checked.{Way}
use Rattle.el_check_chain.specs.Leading.{MovesOn, LeadsTo}
use Rattle.el_check_chain.specs.declared.walking.Tips.{Tips}
use Rattle.el_check_chain.specs.declared.walking.Walked.{Walked}

-- the last block has this hash
abbrev pub is_tip : Option Hash32 → Hash32 → Bool
is_tip None tip = false
is_tip (Some last) tip = same_hash last tip

-- They and what was computed once stand for the side, which is sure and is still to put in these blocks.
pub record StandForSide {G A : Type 0} (of : Ghosts G A) (now : Beneath G A) (holdings : Holdings)
    (caches : Caches) (left : List Node) (side : Side) : Type 0 where
  pub sure : IsSure side
  pub start : Chain
  pub at : IsAt of now holdings caches side start
  pub found : side.found ≡ holdings.tree
  pub magic : side.magic ≡ holdings.magic
  pub ahead : side.ahead ≡ left

-- the clock of what a crash may leave went on, or stands
abbrev pub IsLater : {G A : Type 0} → Ghosts G A → Beneath G A → Beneath G A → Type 0
IsLater of was now = of.ledger.tells_crash → of.ledger.moment was.ledger ≤ of.ledger.moment now.ledger

-- Moves of a tip line led on from the first side, and left these blocks to be put in.
pub record AreUnderWay {G A : Type 0} (of : Ghosts G A) (was now : Beneath G A) (holdings : Holdings)
    (caches : Caches) (left : List Node) (first : Side) (n : ℕ) : Type 0 where
  pub last : Side
  pub moves : MovesOn of.files first n last
  pub stand : StandForSide of now holdings caches left last
  pub later : IsLater of was now

-- A tip line led to a side that has nothing left to do.
pub record IsLedToEnd {G A : Type 0} (of : Ghosts G A) (was now : Beneath G A) (holdings : Holdings)
    (caches : Caches) (side : Side) (tip : Hash32) (n : ℕ) : Type 0 where
  pub last : Side
  pub leads : LeadsTo of.files side tip n last
  pub stand : StandForSide of now holdings caches [] last
  pub later : IsLater of was now

-- What a crash at some moment between might have left stands for the chain.
abbrev pub StoodBetween : {G : Type 0} → ledger.Ghosts G → G → G → Chain → Type 0
StoodBetween {G} of_ledger was now chain = of_ledger.tells_crash → (mid : G)
    × (of_ledger.moment was ≤ of_ledger.moment mid) × (of_ledger.moment mid ≤ of_ledger.moment now)
    × ((left : of_ledger.Left) → LeftNow of_ledger.moment of_ledger.left_since mid left
    → of_ledger.means left chain)

-- Three tip lines led on from a side that has nothing to do: of the first tip, of the other one, and of the
-- first again. The ledger then stands for the last side's chain, and stood for the second's between.
pub record HaveLed {G A : Type 0} (of : Ghosts G A) (was now : Beneath G A) (start : Side) (tips : Tips)
    (moves : ℕ) : Type 0 where
  pub first : Side
  pub side : Side
  pub last : Side
  pub to_first : ℕ
  pub to_side : ℕ
  pub back : ℕ
  pub leads_first : LeadsTo of.files start tips.first to_first first
  pub leads_side : LeadsTo of.files first tips.other to_side side
  pub leads_back : LeadsTo of.files side tips.first back last
  pub moves_are : moves ≡ to_first + to_side + back
  pub stood : of.ledger.stands now.ledger last.chain
  pub between : StoodBetween of.ledger was.ledger now.ledger side.chain

-- A ledger was led along the way of a check, and this is what it has then.
pub record HasWalked {G : Type 0} (of_ledger : ledger.Ghosts G) (count : ℕ) (was now : G) (walked : Walked)
    : Type 0 where
  pub way : Way count
  pub moves_are : walked.moves ≡ way.to_first + way.to_side + way.back
  pub height_is : walked.height ≡ length way.last.chain - 1
  pub balance_is : walked.balance ≡ balance way.last.chain (sha256 (locking_script 100))
  pub bytes_are : walked.bytes ≡ length (made_file count)
  pub stood : of_ledger.stands now way.last.chain
  pub between : StoodBetween of_ledger was now way.side.chain
