-- Moves, one after the other, as a server makes them, what is told of each, and what a crash may then leave.
use Rattle.std.specs.Prelude.{◌≡◌, ◌≢◌, ◌⊎◌, ◌≤◌, ℕ, List, [], ◌∷◌, ◌++◌, take, length, slice_get, Some, ⊤}
use Rattle.el_base.specs.declared.hash.Hash32.{Hash32}
use Rattle.el_outside.specs.declared.archive.Archive as block_files
use Rattle.el_chain.specs.declared.moves.Plan.{Plan}
use Rattle.el_chain.specs.declared.moves.MoveFault.{MoveFault}
use Rattle.el_chain.specs.Chains.{Chain, zero_hash}
use Rattle.el_chain.specs.Headers.{AreLinked}
use Rattle.el_chain.specs.Moves.{IsPlan, FitsChain, IsRefused, Moves, StoodAt, target, last_hash}
use Rattle.el_model.specs.Queries.{height_of, tip_of}
use Rattle.el_model.specs.Keeping.{Either}
use Rattle.el_laws.specs.declared.going.Mark.{Mark}
use Rattle.el_laws.specs.declared.going.Mark.TheVariants as mark

-- Each of these moves takes no block back and puts blocks in, the first of them after a block with that hash
-- and each next after those of the one before.
abbrev pub FollowOn : Hash32 → List Plan → Type 0
FollowOn before [] = ⊤
FollowOn before (p ∷ ps) = IsPlan p × (p.back ≡ 0) × (p.forward ≢ []) × AreLinked before p.forward
    × FollowOn (last_hash before p.forward) ps

-- The first of these moves fits each of the chains, and may take blocks back. The others follow on; there are
-- none where the first puts no block in.
abbrev pub AreMovesOf : (Chain → Type 0) → List Plan → Type 0
AreMovesOf stands [] = ⊤
AreMovesOf stands (p ∷ ps) = IsPlan p × ((chain : Chain) → stands chain → FitsChain p chain)
    × (p.forward ≡ [] → ps ≡ []) × FollowOn (last_hash zero_hash p.forward) ps

-- the move leads from the chain to that one, by what the block files had when it was made
abbrev pub MoveLeads : {A : Type 0} → block_files.Ghosts A → Plan → Chain → Chain → Type 0
MoveLeads of_files p chain next =
    (before : ℕ → List ℕ) × (after : ℕ → List ℕ) × (blocks : Chain)
    × Moves (StoodAt of_files before after) chain p blocks × (next ≡ target p chain blocks)

-- the last that was told is a refusal
abbrev pub EndsRefused : List Mark → Type 0
EndsRefused sent = (before : List Mark) × (e : MoveFault) × (sent ≡ before ++ mark.Refused e ∷ [])

-- Moves whose outcome was told, what was told of them, and the chain that is then acknowledged, from the
-- first chain on.
pub data Told {A : Type 0} (of_files : block_files.Ghosts A) (start : Chain)
    : List Plan → List Mark → Chain → Type 0 where
  none : Told of_files start [] [] start
  at : (plans : List Plan) (sent : List Mark) (chain : Chain) (p : Plan) (next : Chain)
      → Told of_files start plans sent chain → MoveLeads of_files p chain next
      → Told of_files start (plans ++ p ∷ []) (sent ++ mark.At (tip_of next) (height_of next) ∷ []) next
  refused : (plans : List Plan) (sent : List Mark) (chain : Chain) (p : Plan) (e : MoveFault)
      (before after : ℕ → List ℕ) → Told of_files start plans sent chain
      → IsRefused (StoodAt of_files before after) chain p e
      → Told of_files start (plans ++ p ∷ []) (sent ++ mark.Refused e ∷ []) chain

-- What is in flight: the acknowledged chain, or the target of the next move, of which nothing was told.
abbrev pub IsInFlight : {A : Type 0} → block_files.Ghosts A → List Plan → ℕ → Chain → Chain → Type 0
IsInFlight of_files plans done acked flight =
    (flight ≡ acked) ⊎ ((p : Plan) × (slice_get plans done ≡ Some p) × MoveLeads of_files p acked flight)

-- All that a crash may leave stands for the acknowledged chain or for the one in flight.
pub record IsSafe {A C : Type 0} (of_files : block_files.Ghosts A) (tells_crash : Type 0)
    (means : C → Chain → Type 0) (left : C → Type 0) (plans : List Plan) (start : Chain)
    (sent : List Mark) : Type 0 where
  pub acked : Chain
  pub flight : Chain
  pub told : Told of_files start (take (length sent) plans) sent acked
  pub is_flight : IsInFlight of_files plans (length sent) acked flight
  pub leaves : tells_crash → (c : C) → left c → Either means acked flight c

-- What is left stands for the chain that was acknowledged after some of the marks, or for the one that was
-- then in flight.
abbrev pub WasSafe : {A C : Type 0} → block_files.Ghosts A → (C → Chain → Type 0) → List Plan → Chain
    → List Mark → C → Type 0
WasSafe of_files means plans start sent c =
    (n : ℕ) × (acked : Chain) × (flight : Chain) × (n ≤ length sent)
    × Told of_files start (take n plans) (take n sent) acked
    × IsInFlight of_files plans n acked flight × Either means acked flight c
