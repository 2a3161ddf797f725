-- What stands after a chain once blocks were put in or taken back.
use Rattle.std.specs.Prelude.{◌≡◌, ◌⊎◌, ℕ, ◌-◌, ◌||◌, Bool, false, List, [], ◌∷◌, ◌++◌, length, take, drop}
use Rattle.std.specs.List.{list_any}
use Rattle.el_base.specs.declared.hash.Hash32.{Hash32}
use Rattle.el_block.specs.Blocks.{EncodesBlock}
use Rattle.el_chain.specs.declared.moves.MoveFault.{MoveFault}
use Rattle.el_chain.specs.declared.moves.MoveFault.TheVariants as stop
use Rattle.el_chain.specs.declared.moves.Plan.{Plan}
use Rattle.el_chain.specs.declared.node.Node.{Node}
use Rattle.el_chain.specs.declared.placed.Placed.{Placed}
use Rattle.el_chain.specs.Chains.{Chain, tip}
use Rattle.el_chain.specs.Coins.{coins}
use Rattle.el_chain.specs.Faults.{IsNext}
use Rattle.el_chain.specs.Headers.{AreLinked, same_hash}
use Rattle.el_chain.specs.Moves.{AreNextBlocks, shorter, target}
use Rattle.el_chain.specs.Touches.{Touch}
use Rattle.el_row_formats.specs.Tables.{Tables}
use Rattle.el_queries.specs.TouchedBy.{touched_in}
use Rattle.el_index.specs.Means.{AreRowsOf}

-- one of the blocks touches the script hash, each where those before it stand after the chain
abbrev pub touched_among : Hash32 → Chain → Chain → Bool
touched_among s chain [] = false
touched_among s chain (b ∷ bs) = touched_in s chain b || touched_among s (chain ++ b ∷ []) bs

-- to these script hashes those were added that the blocks touch
abbrev pub AreAdded : Chain → Chain → List Hash32 → List Hash32 → Type 0
AreAdded chain blocks old new = (s : Hash32)
    → list_any (same_hash s) new ≡ (list_any (same_hash s) old || touched_among s chain blocks)

-- The block of a node, which these bytes encode, stands after the chain: the rows are those of the longer
-- chain.
pub record IsAfter (heads : ℕ) (chain : Chain) (node : Node) (text : List ℕ) (rows : Tables)
    (b : Placed) : Type 0 where
  pub place : b.place ≡ node.place
  pub encodes : EncodesBlock text b.block
  pub next : IsNext chain b.block
  pub stand : AreRowsOf heads rows (chain ++ b ∷ [])
  pub hash : tip (chain ++ b ∷ []) ≡ node.hash

-- The blocks of some nodes do, one after the other.
pub record AreAfter (heads : ℕ) (chain : Chain) (nodes : List Node) (texts : List (List ℕ))
    (rows : Tables) (blocks : Chain) : Type 0 where
  pub next : AreNextBlocks chain nodes texts blocks
  pub stand : AreRowsOf heads rows (chain ++ blocks)

-- The blocks of the first i nodes stand after the chain, and the nodes that are left go on.
pub record IsAdding (heads : ℕ) (chain : Chain) (nodes : List Node) (texts : List (List ℕ)) (i : ℕ)
    (rows : Tables) (blocks : Chain) : Type 0 where
  pub after : AreAfter heads chain (take i nodes) (take i texts) rows blocks
  pub linked : AreLinked (tip (chain ++ blocks)) (drop i nodes)

-- The rows are those of the chain that the move leads to, with these blocks, and these are the script hashes
-- that it touches.
pub record AreMoved (heads : ℕ) (p : Plan) (chain : Chain) (texts : List (List ℕ))
    (scripts : List Hash32) (rows : Tables) (blocks : Chain) : Type 0 where
  pub next : AreNextBlocks (shorter p.back chain) p.forward texts blocks
  pub stand : AreRowsOf heads rows (target p chain blocks)
  pub touched : Touch scripts (coins (shorter p.back chain)) (drop (length chain - p.back) chain ++ blocks)

-- no fault of a block, but the device's, or out of memory
abbrev pub IsOwn : MoveFault → Type 0
IsOwn e = (e ≡ stop.DiskFailed) ⊎ (e ≡ stop.Memory)

-- The old chain is in flight, or one that the move leads to.
abbrev pub FliesTo : Plan → Chain → List (List ℕ) → Chain → Type 0
FliesTo p chain texts next =
    (next ≡ chain) ⊎ ((blocks : Chain) × AreNextBlocks (shorter p.back chain) p.forward texts blocks
    × (next ≡ target p chain blocks))
