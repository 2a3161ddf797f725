-- Moves: some last blocks are taken back, and others are put in their place.
use Rattle.std.specs.Prelude.{◌≡◌, ◌⊎◌, ℕ, ◌+◌, ◌-◌, ◌≤◌, List, [], ◌∷◌, ◌++◌, length, take, Option, Some, ⊤}
use Rattle.std.specs.List.{AllByRecursion}
use Rattle.el_base.specs.declared.hash.Hash32.{Hash32}
use Rattle.el_outside.specs.Seen.{WasSeen}
use Rattle.el_outside.specs.declared.archive.Archive as block_files
use Rattle.el_block.specs.declared.block.Block.{Block}
use Rattle.el_chain.specs.declared.node.Node.{Node}
use Rattle.el_chain.specs.declared.moves.Plan.{Plan}
use Rattle.el_chain.specs.declared.moves.MoveFault.{MoveFault}
use Rattle.el_chain.specs.declared.moves.MoveFault.TheVariants as stop
use Rattle.el_chain.specs.declared.limits.TheConstants.{MAX_BACK, MAX_FORWARD}
use Rattle.el_block.specs.Blocks.{EncodesBlock}
use Rattle.el_chain.specs.Chains.{Chain, tip}
use Rattle.el_block.specs.BlockFaults.{FirstBlockFault}
use Rattle.el_chain.specs.Headers.{AreLinked}
use Rattle.el_chain.specs.Records.{IsBlockOf, IsOtherBlock}
use Rattle.el_chain.specs.Faults.{AreNext, fault}
use Rattle.el_chain.specs.Records.{IsNode, block_at}

-- These bytes stood at the node's place in its file, as the file was seen at some moment, where the block
-- files tell. `before` and `after` are what the node had written before that and after.
abbrev pub StoodAt : {A : Type 0} → block_files.Ghosts A → (ℕ → List ℕ) → (ℕ → List ℕ) → Node → List ℕ
    → Type 0
StoodAt of_files before after n text =
    of_files.tells → (file : List ℕ) × WasSeen of_files before after n.place.file file
    × (text ≡ block_at n.place file)

-- the bytes stood at the node's place in its file at any moment up to then
abbrev pub StoodBy : {A : Type 0} → block_files.Ghosts A → (ℕ → List ℕ) → Node → List ℕ → Type 0
StoodBy of_files after n text = StoodAt of_files (λ file. []) after n text

-- how many blocks one line may take back
abbrev pub max_back : ℕ
max_back = MAX_BACK

-- how many blocks one move may put in
abbrev pub max_forward : ℕ
max_forward = MAX_FORWARD

-- the chain without its last blocks
abbrev pub shorter : ℕ → Chain → Chain
shorter back chain = take (length chain - back) chain

-- a plan that one move may have, whatever the chain is
pub record IsPlan (p : Plan) : Type 0 where
  pub back : p.back ≤ max_back
  pub few : length p.forward ≤ max_forward
  pub nodes : AllByRecursion IsNode p.forward

-- the plan fits the chain
pub record FitsChain (p : Plan) (chain : Chain) : Type 0 where
  pub within : p.back ≤ length chain
  pub linked : AreLinked (tip (shorter p.back chain)) p.forward

-- the bytes of each block begin with the header of its node
abbrev pub AreOf : List Node → List (List ℕ) → Type 0
AreOf [] [] = ⊤
AreOf (n ∷ ns) (t ∷ ts) = IsBlockOf n t × AreOf ns ts
AreOf [] (t ∷ ts) = ⊥
AreOf (n ∷ ns) [] = ⊥

-- the blocks of the nodes, each encoded by its bytes
abbrev pub AreBlocks : List Node → List (List ℕ) → Chain → Type 0
AreBlocks [] [] [] = ⊤
AreBlocks (n ∷ ns) (t ∷ ts) (b ∷ bs) = (b.place ≡ n.place) × EncodesBlock t b.block × AreBlocks ns ts bs
AreBlocks [] [] (b ∷ bs) = ⊥
AreBlocks [] (t ∷ ts) bs = ⊥
AreBlocks (n ∷ ns) [] bs = ⊥
AreBlocks (n ∷ ns) (t ∷ ts) [] = ⊥

-- why a block can't be put after the chain; the other faults are none of a block
abbrev pub IsStop : Chain → Hash32 → List ℕ → MoveFault → Type 0
IsStop chain hash text (stop.BadBlock h f) = (h ≡ hash) × FirstBlockFault text f
IsStop chain hash text (stop.Refused h f) = (h ≡ hash) × ((b : Block) × EncodesBlock text b
    × (fault chain b ≡ Some f))
IsStop chain hash text stop.Memory = ⊤
IsStop chain hash text stop.DiskFailed = ⊥
IsStop chain hash text stop.ArchiveFailed = ⊥
IsStop chain hash text (stop.Changed w f) = ⊥

-- The blocks of the nodes stand after the chain, one after the other.
pub record AreNextBlocks (chain : Chain) (nodes : List Node) (texts : List (List ℕ))
    (blocks : Chain) : Type 0 where
  pub are : AreBlocks nodes texts blocks
  pub next : AreNext chain blocks

-- The first block that can't stand after those before it stops the move.
pub record FaultInAt (chain : Chain) (nodes : List Node) (texts : List (List ℕ))
    (e : MoveFault) : Type 0 where
  pub front : List Node
  pub node : Node
  pub after : List Node
  pub whole : nodes ≡ front ++ node ∷ after
  pub front_texts : List (List ℕ)
  pub text : List ℕ
  pub after_texts : List (List ℕ)
  pub whole_texts : texts ≡ front_texts ++ text ∷ after_texts
  pub blocks : Chain
  pub before : AreNextBlocks chain front front_texts blocks
  pub first_fault : IsStop (chain ++ blocks) node.hash text e

-- each of these stood at the place of its node
abbrev pub AllStood : (Node → List ℕ → Type 0) → List Node → List (List ℕ) → Type 0
AllStood stood [] [] = ⊤
AllStood stood (n ∷ ns) (t ∷ ts) = stood n t × AllStood stood ns ts
AllStood stood [] (t ∷ ts) = ⊥
AllStood stood (n ∷ ns) [] = ⊥

-- The bytes of all blocks were read, and these stood at their places.
pub record AreRead (stood : Node → List ℕ → Type 0) (nodes : List Node) (texts : List (List ℕ)) : Type 0 where
  pub of : AreOf nodes texts
  pub told : AllStood stood nodes texts

-- The move puts in these blocks.
pub record Moves (stood : Node → List ℕ → Type 0) (chain : Chain) (p : Plan) (blocks : Chain) : Type 0 where
  pub texts : List (List ℕ)
  pub read : AreRead stood p.forward texts
  pub blocks_are : AreNextBlocks (shorter p.back chain) p.forward texts blocks

-- The first block whose bytes don't begin with its header: those of each block before it were read, and then
-- other bytes than its own, which stood at its place.
pub record HasChanged (stood : Node → List ℕ → Type 0) (nodes : List Node) (wanted : Hash32)
    (found : Option Hash32) : Type 0 where
  pub front : List Node
  pub node : Node
  pub after : List Node
  pub whole : nodes ≡ front ++ node ∷ after
  pub texts : List (List ℕ)
  pub before : AreRead stood front texts
  pub text : List ℕ
  pub told : stood node text
  pub other : IsOtherBlock node text found
  pub is : wanted ≡ node.hash

-- a block of the move can't stand where it is to stand
pub record IsBad (stood : Node → List ℕ → Type 0) (chain : Chain) (p : Plan) (e : MoveFault) : Type 0 where
  pub texts : List (List ℕ)
  pub read : AreRead stood p.forward texts
  pub first_fault : FaultInAt (shorter p.back chain) p.forward texts e

-- Why a move is refused. Of a failed device its count tells, and out of memory has no cause.
abbrev pub IsRefused : (Node → List ℕ → Type 0) → Chain → Plan → MoveFault → Type 0
IsRefused stood chain p stop.DiskFailed = ⊤
IsRefused stood chain p stop.ArchiveFailed = ⊤
IsRefused stood chain p (stop.Changed w f) = HasChanged stood p.forward w f
IsRefused stood chain p (stop.BadBlock h f) = IsBad stood chain p (stop.BadBlock h f)
IsRefused stood chain p (stop.Refused h f) = IsBad stood chain p (stop.Refused h f)
IsRefused stood chain p stop.Memory = ⊤

-- the hash of the last of these nodes; of none it is the given one
abbrev pub last_hash : Hash32 → List Node → Hash32
last_hash before [] = before
last_hash before (n ∷ ns) = last_hash n.hash ns

-- the chain that a move leads to, which puts in these blocks
abbrev pub target : Plan → Chain → Chain → Chain
target p chain blocks = shorter p.back chain ++ blocks

-- what may stand while the move is under way: the chain as it was, or a target
abbrev pub InFlight : (Node → List ℕ → Type 0) → Chain → Plan → Chain → Type 0
InFlight stood chain p next =
    (next ≡ chain) ⊎ ((blocks : Chain) × Moves stood chain p blocks × (next ≡ target p chain blocks))
