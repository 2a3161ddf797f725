-- What good chains have no more of: blocks than their table has room for, and coins than all the money.
use Rattle.std.proofs.Common.{◌≡◌, ℕ, ◌+◌, ◌<◌, ◌≤◌, Bool, true, false, List, [], ◌∷◌, ◌++◌, length, filter, take, drop, get_or, None, refl, ap, ◌∙◌, arith, append_assoc, append-nil, length-append}
use Rattle.std.proofs.lemmas.List.{get_or_default}
use Rattle.std.specs.List.{AllByRecursion}
use Rattle.std.specs.Str.{bytes_eq}
use Rattle.el_base.proofs.Lists.{taken_at, cut_at}
use Rattle.el_tx.specs.Encoding.{max_money}
use Rattle.el_tx.specs.Hashing.{full_encoding}
use Rattle.el_tx.specs.declared.types.Tx.{Tx}
use Rattle.el_block.specs.Blocks.{EncodesBlock}
use Rattle.el_block.proofs.BlockLemmas.{one_some}
use Rattle.el_chain.specs.declared.placed.Placed.{Placed}
use Rattle.el_chain.specs.declared.coin.Coin.{Coin}
use Rattle.el_chain.specs.Chains.{Chain}
use Rattle.el_chain.specs.Coins.{coins_after, coins_after_all, coins, supply}
use Rattle.el_chain.specs.Faults.{missing_fault, money_fault, first_fault, position_fault, AreNext, IsGood}
use Rattle.el_chain.specs.CoinLists.{FitsBlock}
use Rattle.el_chain.specs.History.{Position, positions, positions_in, first_start}
use Rattle.el_chain.proofs.GoodChains.{first_none, second_none, coins_more, has_room, money_fits, fits_of_encoded}
use Rattle.el_model.specs.Queries.{balance}

-- ---- blocks

-- `4294967295` is the table's room for blocks
few_from : (before chain : Chain) → AreNext before chain → length before ≤ 4294967295 → length (before ++ chain) ≤ 4294967295
few_from before [] h few = let same = append-nil before in rw same few
few_from before (b ∷ bs) h few =
    let s : EncodesBlock h.0.encoded.0 b.block = h.0.encoded.1 in
    let room = has_room before b.block.txs h.0.faultless (one_some b.block.txs s.coinbase) in
    let joined = length-append before (b ∷ []) in
    let all = few_from (before ++ b ∷ []) bs h.1 (omega arith) in
    let same = append_assoc before (b ∷ []) bs in
    rw (← same) all

pub good_few : (chain : Chain) → IsGood chain → length chain ≤ 4294967295
good_few chain good = few_from [] chain good.each (omega arith)

-- ---- money

txs_hold : (before : List Position) (height pos start : ℕ) (ts : List Tx) (cs : List Coin) → first_fault before (positions_in height pos start ts cs) ≡ None → supply cs ≤ max_money
    → supply (coins_after_all height ts cs) ≤ max_money
txs_hold before height pos start [] cs none most = most
txs_hold before height pos start (t ∷ ts) cs none most =
    let p : Position = record { height = height; pos = pos; start = start; tx = t; before = cs } in
    let here : position_fault before p ≡ None = first_none _ _ none in
    let later = second_none (position_fault before p) _ none in
    let bounds = second_none (missing_fault pos t cs) _ here in
    let money = first_none (money_fault (supply (coins_after height t cs))) _ bounds in
    txs_hold (before ++ p ∷ []) height (pos + 1) (start + length (full_encoding t)) ts (coins_after height t cs) later (money_fits (supply (coins_after height t cs)) money)

hold_from : (before chain : Chain) → AreNext before chain → supply (coins before) ≤ max_money → supply (coins (before ++ chain)) ≤ max_money
hold_from before [] h most = let same = append-nil before in rw same most
hold_from before (b ∷ bs) h most =
    let after = txs_hold (positions before) (length before) 0 (first_start b.block.txs) b.block.txs (coins before) h.0.faultless most in
    let more : coins (before ++ b ∷ []) ≡ coins_after_all (length before) b.block.txs (coins before)
    = coins_more 0 before b [] ∙ ap (λ n. coins_after_all n b.block.txs (coins before)) (let e : 0 + length before ≡ length before = omega arith in e) in
    let next : supply (coins (before ++ b ∷ [])) ≤ max_money = rw more after in
    let all = hold_from (before ++ b ∷ []) bs h.1 next in
    let same = append_assoc before (b ∷ []) bs in
    rw (← same) all

pub good_money : (chain : Chain) → IsGood chain → supply (coins chain) ≤ max_money
good_money chain good = hold_from [] chain good.each (omega arith)

supply_kept : (p : Coin → Bool) (cs : List Coin) → supply (filter p cs) ≤ supply cs
supply_kept p [] = omega arith
supply_kept p (c ∷ cs) = by (p c) refl (supply_kept p cs)
  where
    by : (b : Bool) → p c ≡ b → supply (filter p cs) ≤ supply cs → supply (filter p (c ∷ cs)) ≤ supply (c ∷ cs)
    by true e rest = rw e (omega (arith, rest))
    by false e rest = rw e (omega (arith, rest))

pub good_balance : (chain : Chain) (s : List ℕ) → IsGood chain → balance chain s ≤ max_money
good_balance chain s good =
    let all = good_money chain good in
    let some = supply_kept (λ (c : Coin). bytes_eq c.script.0 s) (coins chain) in
    omega (arith, all, some)

-- ---- sums, coin by coin

supply_joined : (cs ds : List Coin) → supply (cs ++ ds) ≡ supply cs + supply ds
supply_joined [] ds = omega arith
supply_joined (c ∷ cs) ds = let rest = supply_joined cs ds in omega (arith, rest)

pub supply_more : (cs : List Coin) (i : ℕ) (c d : Coin) → i < length cs → c ≡ get_or cs i d → (supply (take (i + 1) cs) ≡ supply (take i cs) + c.value) × (supply (take i cs) + c.value ≤ supply cs)
supply_more cs i c d lt is' =
    let is = is' ∙ get_or_default cs i d c lt in
    let front = supply_joined (take i cs) (c ∷ []) in
    let more : supply (take (i + 1) cs) ≡ supply (take i cs ++ c ∷ []) = ap supply (taken_at cs i c lt is) in
    let parts = cut_at cs i c lt is in
    let whole : supply cs ≡ supply (take i cs ++ c ∷ drop_after) = ap supply parts in
    let sum = supply_joined (take i cs) (c ∷ drop_after) in
    (omega (arith, front, more), omega (arith, whole, sum))
  where
    drop_after : List Coin
    drop_after = drop (i + 1) cs

-- ---- transactions

-- the transactions of each block can be in one
abbrev pub HasFitting : Placed → Type 0
HasFitting b = AllByRecursion FitsBlock b.block.txs

fits_from : (before chain : Chain) → AreNext before chain → AllByRecursion HasFitting chain
fits_from before [] h = tt
fits_from before (b ∷ bs) h = (fits_of_encoded b.block h.0.encoded, fits_from (before ++ b ∷ []) bs h.1)

pub good_fits : (chain : Chain) → IsGood chain → AllByRecursion HasFitting chain
good_fits chain good = fits_from [] chain good.each
