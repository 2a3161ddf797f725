-- What stays of a chain whose last blocks are taken back.
use Rattle.std.proofs.Common.{◌≡◌, ℕ, ◌-◌, List, [], ◌∷◌, ◌++◌, length, take, drop, ap, ◌∙◌, arith}
use Rattle.std.specs.List.{AllByRecursion}
use Rattle.std.proofs.lemmas.List.{take_all, drop_all}
use Rattle.el_base.specs.declared.hash.Hash32.{Hash32}
use Rattle.el_chain.specs.declared.node.Node.{Node}
use Rattle.el_chain.specs.Chains.{Chain}
use Rattle.el_chain.specs.Coins.{coins}
use Rattle.el_chain.specs.Faults.{AreNext, IsGood}
use Rattle.el_chain.specs.Moves.{AreNextBlocks, shorter}
use Rattle.el_chain.specs.Touches.{Touch}
use Rattle.el_coins.specs.CoinTables.{HasFitting}
use Rattle.el_plain.proofs.GoodChains.{back_fits}

front_next : (before front back : Chain) → AreNext before (front ++ back) → AreNext before front
front_next before [] back h = tt
front_next before (b ∷ front) back h = (h.0, front_next (before ++ b ∷ []) front back h.1)

-- the blocks that stay are a good chain
pub front_good : (chain front back : Chain) → chain ≡ front ++ back → IsGood chain → IsGood front
front_good chain front back whole h = record { each = front_next [] front back (rw whole at h.each) }

-- and the transactions of those that are gone can each be in a block
pub gone_fit : (chain front back : Chain) → chain ≡ front ++ back → IsGood chain → AllByRecursion HasFitting back
gone_fit chain front back whole h = back_fits front back (rw whole at h)

-- with nothing to take back the chain is whole
pub none_back : (back : ℕ) (old new : Chain) (nodes : List Node) (texts : List (List ℕ)) (scripts : List Hash32) → back ≡ 0
    → (fresh : Chain) × (new ≡ old ++ fresh) × AreNextBlocks old nodes texts fresh × Touch scripts (coins old) fresh
    → (fresh : Chain) × (new ≡ shorter back old ++ fresh) × AreNextBlocks (shorter back old) nodes texts fresh × Touch scripts (coins (shorter back old)) (drop (length old - back) old ++ fresh)
none_back back old new nodes texts scripts zero (fresh, is, next, touch) =
    let whole : length old - back ≡ length old = omega (arith, zero) in
    let all : shorter back old ≡ old = ap (λ n. take n old) whole ∙ take_all (length old) old (omega arith) in
    let none : drop (length old - back) old ≡ [] = drop_all (length old - back) old (omega (arith, zero)) in
    (fresh, rw all is, rw all next, rw (all, none) touch)
