-- Chains of blocks at the places of their nodes, and what they have in common with a path.
use Rattle.std.proofs.Common.{◌≡◌, ◌≢◌, ℕ, zero, suc, ◌≤◌, true, false, List, [], ◌∷◌, ◌++◌, length, take, drop, refl, sym, ap, ◌∙◌, arith}
use Rattle.std.specs.List.{AllByRecursion}
use Rattle.el_base.specs.declared.hash.Hash32.{Hash32}
use Rattle.el_base.proofs.Lists.{all_both}
use Rattle.el_block.specs.Blocks.{block_hash}
use Rattle.el_block.specs.declared.block.Block.{Block}
use Rattle.el_chain.specs.declared.node.Node.{Node}
use Rattle.el_chain.specs.Chains.{Chain, tip_after}
use Rattle.el_chain.specs.Headers.{same_hash}
use Rattle.el_chain.proofs.CoinLists.{differs}
use Rattle.el_chain.proofs.TouchLemmas.{hash_gives, hash_from}
use Rattle.el_gen.specs.MadeFile.{last_block_hash}
use Rattle.el_side.specs.Plans.{common, common_up_to}
use Rattle.el_check_laws.specs.Differing.{blocks_of, hashes_of_blocks}
use Rattle.el_check_laws.specs.MadeNodes.{AreNodesOf}
use Rattle.el_check_laws.proofs.Apart.{IsNone}
use Rattle.el_check_laws.proofs.MadeBlocks.{IsHash, hash_is_hash}

-- blocks, each at the place of its node
abbrev pub placed_of : List Block → List Node → Chain
placed_of [] ns = []
placed_of (b ∷ bs) [] = []
placed_of (b ∷ bs) (n ∷ ns) = record { block = b; place = n.place } ∷ placed_of bs ns

pub placed_blocks : (bytes : List ℕ) (bs : List Block) (ns : List Node) → AreNodesOf bytes bs ns → blocks_of (placed_of bs ns) ≡ bs
placed_blocks bytes [] ns are = refl
placed_blocks bytes (b ∷ bs) [] are = absurd are
placed_blocks bytes (b ∷ bs) (n ∷ ns) are = ap (λ (xs : List Block). b ∷ xs) (placed_blocks bytes bs ns are.1)

pub placed_long : (bytes : List ℕ) (bs : List Block) (ns : List Node) → AreNodesOf bytes bs ns → length (placed_of bs ns) ≡ length bs
placed_long bytes [] ns are = refl
placed_long bytes (b ∷ bs) [] are = absurd are
placed_long bytes (b ∷ bs) (n ∷ ns) are = ap suc (placed_long bytes bs ns are.1)

pub placed_taken : (k : ℕ) (bs : List Block) (ns : List Node) → take k (placed_of bs ns) ≡ placed_of (take k bs) (take k ns)
placed_taken zero bs ns = refl
placed_taken (suc k) [] ns = refl
placed_taken (suc k) (b ∷ bs) [] = refl
placed_taken (suc k) (b ∷ bs) (n ∷ ns) = ap (λ (c : Chain). record { block = b; place = n.place } ∷ c) (placed_taken k bs ns)

none_left : (bs : List Block) → placed_of bs [] ≡ []
none_left [] = refl
none_left (b ∷ bs) = refl

pub placed_dropped : (k : ℕ) (bs : List Block) (ns : List Node) → drop k (placed_of bs ns) ≡ placed_of (drop k bs) (drop k ns)
placed_dropped zero bs ns = refl
placed_dropped (suc k) [] ns = refl
placed_dropped (suc k) (b ∷ bs) [] = sym (none_left (drop k bs))
placed_dropped (suc k) (b ∷ bs) (n ∷ ns) = placed_dropped k bs ns

pub placed_joined : (bytes : List ℕ) (xs ys : List Block) (ns ms : List Node) → AreNodesOf bytes xs ns → placed_of (xs ++ ys) (ns ++ ms) ≡ placed_of xs ns ++ placed_of ys ms
placed_joined bytes [] ys [] ms are = refl
placed_joined bytes [] ys (n ∷ ns) ms are = absurd are
placed_joined bytes (x ∷ xs) ys [] ms are = absurd are
placed_joined bytes (x ∷ xs) ys (n ∷ ns) ms are = ap (λ (c : Chain). record { block = x; place = n.place } ∷ c) (placed_joined bytes xs ys ns ms are.1)

pub nodes_taken : (bytes : List ℕ) (k : ℕ) (bs : List Block) (ns : List Node) → AreNodesOf bytes bs ns → AreNodesOf bytes (take k bs) (take k ns)
nodes_taken bytes zero bs ns are = tt
nodes_taken bytes (suc k) [] [] are = tt
nodes_taken bytes (suc k) [] (n ∷ ns) are = absurd are
nodes_taken bytes (suc k) (b ∷ bs) [] are = absurd are
nodes_taken bytes (suc k) (b ∷ bs) (n ∷ ns) are = (are.0, nodes_taken bytes k bs ns are.1)

pub nodes_dropped : (bytes : List ℕ) (k : ℕ) (bs : List Block) (ns : List Node) → AreNodesOf bytes bs ns → AreNodesOf bytes (drop k bs) (drop k ns)
nodes_dropped bytes zero bs ns are = are
nodes_dropped bytes (suc k) [] [] are = tt
nodes_dropped bytes (suc k) [] (n ∷ ns) are = absurd are
nodes_dropped bytes (suc k) (b ∷ bs) [] are = absurd are
nodes_dropped bytes (suc k) (b ∷ bs) (n ∷ ns) are = nodes_dropped bytes k bs ns are.1

pub placed_tip : (bytes : List ℕ) (before : Hash32) (bs : List Block) (ns : List Node) → AreNodesOf bytes bs ns → tip_after before (placed_of bs ns) ≡ last_block_hash before bs
placed_tip bytes before [] ns are = refl
placed_tip bytes before (b ∷ bs) [] are = absurd are
placed_tip bytes before (b ∷ bs) (n ∷ ns) are = placed_tip bytes (block_hash b.header) bs ns are.1

-- what holds of all hashes holds of the last
pub last_of_some : (P : Hash32 → Type 0) (before : Hash32) (bs : List Block) → 1 ≤ length bs → AllByRecursion P (hashes_of_blocks bs) → P (last_block_hash before bs)
last_of_some P before [] some all = absurd (omega arith)
last_of_some P before (b ∷ []) some all = all.0
last_of_some P before (b ∷ c ∷ bs) some all = last_of_some P (block_hash b.header) (c ∷ bs) (omega arith) all.1

pub all_hashes : (bs : List Block) → AllByRecursion IsHash (hashes_of_blocks bs)
all_hashes [] = tt
all_hashes (b ∷ bs) = (hash_is_hash b.header, all_hashes bs)

-- ---- what is common

up : (more : ℕ) → common_up_to true more ≡ suc more
up zero = refl
up (suc more) = refl

all_true : (xs : List Hash32) → AllByRecursion (IsNone []) xs
all_true [] = tt
all_true (x ∷ xs) = (tt, all_true xs)

-- hashes that differ from others
pub none_turned : (xs ys : List Hash32) → AllByRecursion (IsNone ys) xs → AllByRecursion (IsNone xs) ys
none_turned [] ys all = all_true ys
none_turned (x ∷ xs) ys all =
    all_both (λ (y : Hash32). x ≢ y) (IsNone xs) (IsNone (x ∷ xs)) ys (λ y apart none. ((λ is. apart (sym is)), none)) all.0 (none_turned xs ys all.1)

all_rest : (y : Hash32) (ys xs : List Hash32) → AllByRecursion (IsNone (y ∷ ys)) xs → AllByRecursion (IsNone ys) xs
all_rest y ys [] all = tt
all_rest y ys (x ∷ xs) all = (all.0.1, all_rest y ys xs all.1)

-- nothing is common where no hash is
nothing_common : (bytes : List ℕ) (bs cs : List Block) (ns ms : List Node) → AreNodesOf bytes bs ns → AreNodesOf bytes cs ms
    → AllByRecursion (IsNone (hashes_of_blocks cs)) (hashes_of_blocks bs) → common (placed_of bs ns) ms ≡ 0
nothing_common bytes [] cs ns ms are others apart = refl
nothing_common bytes (b ∷ bs) cs [] ms are others apart = absurd are
nothing_common bytes (b ∷ bs) cs (n ∷ ns) [] are others apart = refl
nothing_common bytes (b ∷ bs) [] (n ∷ ns) (m ∷ ms) are others apart = absurd others
nothing_common bytes (b ∷ bs) (c ∷ cs) (n ∷ ns) (m ∷ ms) are others apart =
    let here : same_hash (block_hash b.header) m.hash ≡ false =
    differs (same_hash (block_hash b.header) m.hash) (λ e. apart.0.0 (hash_gives (block_hash b.header) m.hash e ∙ others.0.hash)) in
    let rest = nothing_common bytes bs cs ns ms are.1 others.1 (all_rest (block_hash c.header) (hashes_of_blocks cs) (hashes_of_blocks bs) apart.1) in
    rw (here, rest) refl

-- what both begin with is common, and no more
pub common_front : (bytes : List ℕ) (front bs cs : List Block) (fs ns ms : List Node) → AreNodesOf bytes front fs → AreNodesOf bytes bs ns → AreNodesOf bytes cs ms
    → AllByRecursion (IsNone (hashes_of_blocks cs)) (hashes_of_blocks bs) → common (placed_of front fs ++ placed_of bs ns) (fs ++ ms) ≡ length front
common_front bytes [] bs cs [] ns ms are own others apart = nothing_common bytes bs cs ns ms own others apart
common_front bytes [] bs cs (f ∷ fs) ns ms are own others apart = absurd are
common_front bytes (b ∷ front) bs cs [] ns ms are own others apart = absurd are
common_front bytes (b ∷ front) bs cs (f ∷ fs) ns ms are own others apart =
    let here : same_hash (block_hash b.header) f.hash ≡ true = hash_from (block_hash b.header) f.hash (sym are.0.hash) in
    let rest = common_front bytes front bs cs fs ns ms are.1 own others apart in
    rw here (up (common (placed_of front fs ++ placed_of bs ns) (fs ++ ms)) ∙ ap suc rest)
