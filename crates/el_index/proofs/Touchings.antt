-- What blocks touch, one after the other.
use Rattle.std.proofs.Common.{◌≡◌, ℕ, ◌+◌, ◌-◌, ◌<◌, ◌||◌, Bool, true, false, List, [], ◌∷◌, ◌++◌, length, take, drop, get_or, refl, sym, ap, ◌∙◌, arith}
use Rattle.std.specs.List.{list_any}
use Rattle.std.proofs.lemmas.List.{take-append-drop, take_all, drop_all, take_more, drop_more, length-append}
use Rattle.std.proofs.lemmas.List.Folds.{list_any-append}
use Rattle.el_base.specs.declared.hash.Hash32.{Hash32}
use Rattle.el_chain.specs.declared.placed.Placed.{Placed}
use Rattle.el_chain.specs.Chains.{Chain}
use Rattle.el_chain.specs.Coins.{coins, coins_after_all}
use Rattle.el_chain.specs.Faults.{IsGood}
use Rattle.el_chain.specs.Headers.{same_hash}
use Rattle.el_chain.specs.History.{Position, positions_from, block_positions}
use Rattle.el_chain.specs.Moves.{shorter}
use Rattle.el_chain.specs.Touches.{touches, touches_any, Touch}
use Rattle.el_chain.proofs.GoodChains.{coins_more}
use Rattle.el_queries.specs.TouchedBy.{touched_in}
use Rattle.el_index.specs.within.Adding.{touched_among, AreAdded}

or_none : (b : Bool) → b ≡ (b || false)
or_none true = refl
or_none false = refl

or_precedes : (a b c : Bool) → ((a || b) || (c || false)) ≡ (a || (c || b))
or_precedes true b c = refl
or_precedes false true true = refl
or_precedes false true false = refl
or_precedes false false c = sym (or_none c) ∙ or_none c

-- no blocks touch nothing
pub added_none : (chain : Chain) (scripts : List Hash32) → AreAdded chain [] scripts scripts
added_none chain scripts s = or_none (list_any (same_hash s) scripts)

-- one block more at the front, which is taken back after the others
pub added_before : (chain bs : Chain) (b : Placed) (old mid new : List Hash32) → AreAdded (chain ++ b ∷ []) bs old mid → AreAdded chain (b ∷ []) mid new → AreAdded chain (b ∷ bs) old new
added_before chain bs b old mid new first second s =
    second s ∙ ap (λ t. t || (touched_in s chain b || false)) (first s)
    ∙ or_precedes (list_any (same_hash s) old) (touched_among s (chain ++ b ∷ []) bs) (touched_in s chain b)

-- what is touched block by block is what the positions touch
among_positions : (s : Hash32) (chain bs : Chain) → touched_among s chain bs ≡ list_any (λ (p : Position). touches s.0 p.before p.tx) (positions_from (length chain) bs (coins chain))
among_positions s chain [] = refl
among_positions s chain (b ∷ bs) =
    let f : Position → Bool = λ p. touches s.0 p.before p.tx in
    let size : length (chain ++ b ∷ []) ≡ length chain + 1 = length-append chain (b ∷ []) in
    let more : coins (chain ++ b ∷ []) ≡ coins_after_all (length chain) b.block.txs (coins chain) =
    coins_more 0 chain b [] ∙ ap (λ n. coins_after_all n b.block.txs (coins chain)) (let none : 0 + length chain ≡ length chain = omega arith in none) in
    ap (λ t. touched_in s chain b || t) (among_positions s (chain ++ b ∷ []) bs
    ∙ ap (λ n. list_any f (positions_from n bs (coins (chain ++ b ∷ [])))) size
    ∙ ap (λ cs. list_any f (positions_from (length chain + 1) bs cs)) more)
    ∙ sym (list_any-append f (block_positions (length chain) b.block.txs (coins chain)) (positions_from (length chain + 1) bs (coins_after_all (length chain) b.block.txs (coins chain))))

-- the law of the blocks of a move
abbrev pub Law : Type 0
Law = (base bs : Chain) (s : Hash32) → IsGood (base ++ bs)
    → touches_any s.0 (coins base) bs ≡ list_any (λ (p : Position). touches s.0 p.before p.tx) (positions_from (length base) bs (coins base))

-- what was taken back and what was put in is what the move touches
pub moved_touches : Law → (base gone bs : Chain) (old mid new : List Hash32) → IsGood (base ++ gone) → old ≡ [] → AreAdded base gone old mid
    → ((s : Hash32) → list_any (same_hash s) new ≡ (list_any (same_hash s) mid || touches_any s.0 (coins base) bs)) → Touch new (coins base) (gone ++ bs)
moved_touches law base gone bs old mid new good_gone none first second s =
    second s
    ∙ ap (λ t. t || touches_any s.0 (coins base) bs) (first s ∙ ap (λ l. list_any (same_hash s) l || touched_among s base gone) none ∙ among_positions s base gone ∙ sym (law base gone s good_gone))
    ∙ sym (list_any-append (λ (b : Placed). list_any (touches s.0 (coins base)) b.block.txs) gone bs)

-- the last block that is left
pub record LastIs (chain : Chain) (i : ℕ) (b : Placed) : Type 0 where
  pub front : shorter i chain ≡ shorter (i + 1) chain ++ b ∷ []
  pub back : drop (length chain - (i + 1)) chain ≡ b ∷ drop (length chain - i) chain

block_at : (k : ℕ) (xs : Chain) → k < length xs → (b : Placed) × (take (k + 1) xs ≡ take k xs ++ b ∷ []) × (drop k xs ≡ b ∷ drop (k + 1) xs)
block_at k [] lt = absurd (omega arith)
block_at k (x ∷ xs) lt = (get_or (x ∷ xs) k x, take_more (x ∷ xs) k x lt, drop_more (x ∷ xs) k x lt)

pub last_is : (chain : Chain) (i : ℕ) → i < length chain → (b : Placed) × LastIs chain i b
last_is chain i lt =
    let r = block_at (length chain - (i + 1)) chain (omega arith) in
    let e : length chain - (i + 1) + 1 ≡ length chain - i = omega arith in (
      r.0,
      record { front = rw e at r.1; back = rw e at r.2 },
    )

pub none_taken : (chain : Chain) → shorter 0 chain ≡ chain
none_taken chain = take_all (length chain - 0) chain (omega arith)

pub none_gone : (chain : Chain) → drop (length chain - 0) chain ≡ []
none_gone chain = drop_all (length chain - 0) chain (omega arith)

-- the chain is what is left and what was taken back
pub whole : (k : ℕ) (chain : Chain) → IsGood chain → IsGood (shorter k chain ++ drop (length chain - k) chain)
whole k chain good = rw (take-append-drop (length chain - k) chain) good
