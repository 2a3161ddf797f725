-- Which moves lead a chain along a path. The blocks that the chain and the path have in common stay; the
-- others of the chain are taken back, and the path's rest is put in.
use Rattle.std.specs.Prelude.{ℕ, zero, suc, ◌-◌, Bool, true, false, List, [], ◌∷◌, length, take, drop}
use Rattle.el_block.specs.Blocks.{block_hash}
use Rattle.el_chain.specs.declared.node.Node.{Node}
use Rattle.el_chain.specs.declared.moves.Plan.{Plan}
use Rattle.el_chain.specs.Chains.{Chain}
use Rattle.el_chain.specs.Headers.{same_hash}
use Rattle.el_chain.specs.Moves.{max_forward}

-- Of a block and those above it, how many stand up to and including the highest common one, where the number
-- is that of those above alone, and the Bool says whether the block itself is common.
abbrev pub common_up_to : Bool → ℕ → ℕ
common_up_to same (suc above) = suc (suc above)
common_up_to true zero = 1
common_up_to false zero = 0

-- How many blocks the chain and the path have in common: those up to and including the highest block that
-- both have at the same height, where the path leaves the chain. Blocks are compared by hash.
abbrev pub common : Chain → List Node → ℕ
common [] path = 0
common (b ∷ bs) [] = 0
common (b ∷ bs) (n ∷ ns) = common_up_to (same_hash (block_hash b.block.header) n.hash) (common bs ns)

-- how many blocks are to be taken back
abbrev pub back_of : Chain → List Node → ℕ
back_of chain path = length chain - common chain path

-- the blocks that are to be put in
abbrev pub rest_of : Chain → List Node → List Node
rest_of chain path = drop (common chain path) path

-- something is to be moved
abbrev pub IsMoving : ℕ → List Node → Type 0
IsMoving zero [] = ⊥
IsMoving zero (n ∷ ns) = Unit {0}
IsMoving (suc back) rest = Unit {0}

-- the next move, where so many blocks are to be taken back and these are to be put in: it takes all of the
-- former back, and puts in as many as one move may
abbrev pub plan_of : ℕ → List Node → Plan
plan_of back rest = record { back = back; forward = take max_forward rest }

-- the blocks that are left to later moves, which take none back
abbrev pub left_of : List Node → List Node
left_of rest = drop max_forward rest

-- the moves that put in these blocks, none of which takes any back; there are no more of them than `most`
abbrev pub plans_forward : ℕ → List Node → List Plan
plans_forward zero rest = []
plans_forward (suc most) [] = []
plans_forward (suc most) (n ∷ ns) = plan_of 0 (n ∷ ns) ∷ plans_forward most (left_of (n ∷ ns))

-- all moves, where so many blocks are to be taken back and these are to be put in
abbrev pub plans_of : ℕ → List Node → List Plan
plans_of zero rest = plans_forward (length rest) rest
plans_of (suc back) rest = plan_of (suc back) rest ∷ plans_forward (length rest) (left_of rest)

-- the moves that lead the chain along the path; none where the path is the chain's
abbrev pub plan : Chain → List Node → List Plan
plan chain path = plans_of (back_of chain path) (rest_of chain path)
