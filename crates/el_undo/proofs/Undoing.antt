-- The transactions of a good chain's last block can be taken back one after the other.
use Rattle.std.proofs.Common.{◌≡◌, ◌⊎◌, inl, inr, ℕ, ◌+◌, ◌-◌, ◌<◌, ◌≤◌, ◌^◌, List, [], ◌∷◌, ◌++◌, length, map, None, Some, refl, ap, sym, subst, ◌∙◌, arith, append_assoc, append-nil}
use Rattle.std.specs.List.{AllByRecursion}
use Rattle.std.proofs.lemmas.Bool.{cases_lt}
use Rattle.std.proofs.lemmas.List.Sums.{sum_by-cons}
use Rattle.el_base.specs.declared.hash.Hash32.{Hash32}
use Rattle.el_tx.specs.declared.types.Tx.{Tx}
use Rattle.el_tx.specs.declared.types.TxOut.{TxOut}
use Rattle.el_tx.specs.Encoding.{max_money, total_value, HasEncoding, stripped, with_witness}
use Rattle.el_tx.specs.Hashing.{full_encoding, txid}
use Rattle.el_chain.specs.RowCounts.{spending_inputs}
use Rattle.el_chain.specs.declared.placed.Placed.{Placed}
use Rattle.el_chain.specs.declared.coin.Coin.{Coin}
use Rattle.el_chain.specs.declared.fault.ConnectFault.TheVariants as refusal
use Rattle.el_chain.specs.Chains.{Chain}
use Rattle.el_chain.specs.Coins.{coins_after, supply}
use Rattle.el_chain.specs.CoinLaws.{makes, coins_made}
use Rattle.el_chain.specs.Faults.{missing_input, missing_fault, money_fault, position_fault, first_fault, IsGood}
use Rattle.el_chain.specs.History.{Position, positions_in, block_positions, positions, first_start}
use Rattle.el_chain.proofs.GoodChains.{first_none, second_none, money_fits}
use Rattle.el_chain.proofs.Tallies.{positions_more}
use Rattle.el_tables.specs.Lists.{ListedTx, ListedOut, Lists, unspent_sum}
use Rattle.el_tables.specs.ChainLists.{Output, output, outputs, listed_out, scripts_of, listed_position, txs_from, lists_of, lists}
use Rattle.el_tables.specs.Disconnecting.{but_last, last, times, take_back_output, unspend, take_back_tx, take_back_entries, disconnect_tx}
use Rattle.el_tables.proofs.Connects.{next_position}
use Rattle.el_tables.proofs.Disconnects.{disconnects_one}
use Rattle.el_tables.proofs.FitLemmas.{positions_numbered}
use Rattle.el_tables.proofs.Numbering.{outs_of, ins_of, txs_more}
use Rattle.el_tables.proofs.Outputs.{coins_of, coins_step, chain_coins, moved_out, outputs_more, from_front}
use Rattle.el_tables.proofs.TakeBack.{last_is}
use Rattle.el_tables.proofs.UndoneBlocks.{disconnects_txs, good_front, good_before}
use Rattle.el_tables.proofs.WholeBlocks.{map_none, missing_is, all_held_is}
use Rattle.el_tables.proofs.Sums.{balances_fit}
use Rattle.el_undo.specs.within.Undone.{CanUndo, CanUndoAll}
use Rattle.el_undo.proofs.Bounds.{all_values, outputs_back, outputs_less, inputs_back, inputs_same, entries_keep}

-- 1. Values

-- what outputs held at first
abbrev pub made_values : List Output → ℕ
made_values [] = 0
made_values (x ∷ xs) = x.coin.value + made_values xs

values_of : (scripts : List Hash32) (xs : List Output) → all_values (map (listed_out scripts) xs) ≡ made_values xs
values_of scripts [] = refl
values_of scripts (x ∷ xs) = ap (λ (n : ℕ). x.coin.value + n) (values_of scripts xs)

values_moved : (m : ℕ) (p : Position) (xs : List Output) → made_values (map (moved_out m p) xs) ≡ made_values xs
values_moved m p [] = refl
values_moved m p (x ∷ xs) = ap (λ (n : ℕ). x.coin.value + n) (values_moved m p xs)

values_made : (m height index : ℕ) (id : Hash32) (os : List TxOut) → made_values (map (output m []) (coins_made id height index os)) ≡ total_value os
values_made m height index id [] = refl
values_made m height index id (o ∷ os) =
    ap (λ (n : ℕ). o.value + n) (values_made m height (index + 1) id os) ∙ sym (sum_by-cons (λ (x : TxOut). x.value) o os)

sum_joined : (xs ys : List Output) → made_values (xs ++ ys) ≡ made_values xs + made_values ys
sum_joined [] ys = let e : made_values ys ≡ 0 + made_values ys = omega arith in e
sum_joined (x ∷ xs) ys =
    let rest = sum_joined xs ys in
    let e : x.coin.value + made_values (xs ++ ys) ≡ (x.coin.value + made_values xs) + made_values ys = omega arith in e

-- one position more: its outputs' values come to those before
values_more : (ps : List Position) (p : Position) → all_values (lists_of (ps ++ p ∷ [])).outs ≡ all_values (lists_of ps).outs + total_value p.tx.outputs
values_more ps p =
    let m = length ps in
    let more = outputs_more 0 m ps p (omega arith) in
    let new = values_of (scripts_of (ps ++ p ∷ [])) (outputs (ps ++ p ∷ [])) in
    let old = values_of (scripts_of ps) (outputs ps) in
    let joined = sum_joined (map (moved_out m p) (outputs ps)) (map (output m []) (makes p)) in
    let moved = values_moved m p (outputs ps) in
    let made = values_made m p.height 0 (txid p.tx) p.tx.outputs in
    new ∙ ap made_values more ∙ joined ∙ plus _ _ _ _ (moved ∙ sym old) made
  where
    plus : (a b c d : ℕ) → a ≡ b → c ≡ d → a + c ≡ b + d
    plus a b c d e f = omega arith

pub encoded_money : (t : Tx) → HasEncoding t → total_value t.outputs ≤ max_money
encoded_money t (bytes, stripped lawful none is) = lawful.money
encoded_money t (bytes, with_witness lawful some is) = lawful.money

-- 2. One transaction

undone_outs : (ps : List Position) (p : Position) (t : ListedTx) → last (lists_of (ps ++ p ∷ [])).txs ≡ Some t → missing_input 0 (spending_inputs p.tx) (coins_of (outputs ps)) ≡ None
    → (times t.ins unspend (times t.outs take_back_output (lists_of (ps ++ p ∷ [])))).outs ≡ (lists_of ps).outs
undone_outs ps p t is none =
    let l = lists_of (ps ++ p ∷ []) in
    let back = times t.ins unspend (times t.outs take_back_output l) in
    let whole : take_back_tx (take_back_entries (length l.entries) (length (but_last l.txs)) back) ≡ lists_of ps = rw is at (disconnects_one ps p none) in
    sym (entries_keep (length l.entries) (length (but_last l.txs)) back) ∙ ap (λ (k : Lists). k.outs) whole

pub can_undo : (ps : List Position) (p : Position) → missing_input 0 (spending_inputs p.tx) (coins_of (outputs ps)) ≡ None
    → unspent_sum (lists_of ps).outs ≤ max_money → total_value p.tx.outputs ≤ max_money → CanUndo (lists_of (ps ++ p ∷ []))
can_undo ps p none few money =
    let l = lists_of (ps ++ p ∷ []) in
    let t = listed_position (outs_of ps) (ins_of ps) p in
    let more = txs_more 0 0 (outs_of ps) (ins_of ps) ps p (omega arith) (omega arith) in
    let is : last l.txs ≡ Some t = ap last more ∙ last_is (txs_from 0 0 ps) t in
    let after = undone_outs ps p t is none in
    let values = values_more ps p in
    let mid = times t.outs take_back_output l in
    let end_values : all_values mid.outs ≡ all_values (lists_of ps).outs = sym (inputs_same t.ins mid) ∙ ap all_values after in
    let end_sum : unspent_sum mid.outs ≤ max_money = in_sum t.ins mid (lists_of ps).outs after few in
    record {
      tx = t;
      is_last = is;
      outputs = λ k le. balances_fit (times k take_back_output l).outs (out_fits k t.outs l (lists_of ps).outs le end_values end_sum values money);
      inputs = λ k le. balances_fit (times k unspend mid).outs (in_fits k t.ins mid (lists_of ps).outs le after few);
      numbered = positions_numbered (ps ++ p ∷ []);
    }
  where
    in_sum : (n : ℕ) (m : Lists) (outs : List ListedOut) → (times n unspend m).outs ≡ outs → unspent_sum outs ≤ max_money → unspent_sum m.outs ≤ max_money
    in_sum n m outs is few = let le = inputs_back 0 n m in let e : n + 0 ≡ n = omega arith in let same = ap unspent_sum is in let le2 = rw e at le in omega arith

    in_fits : (k n : ℕ) (m : Lists) (outs : List ListedOut) → k ≤ n → (times n unspend m).outs ≡ outs → unspent_sum outs ≤ max_money → unspent_sum (times k unspend m).outs < 2 ^ 64
    in_fits k n m outs le is few =
        let e : (n - k) + k ≡ n = omega arith in
        let part = rw e at (inputs_back k (n - k) m) in
        let same = ap unspent_sum is in
        omega arith

    out_fits : (k n : ℕ) (l : Lists) (outs : List ListedOut) → k ≤ n → all_values (times n take_back_output l).outs ≡ all_values outs → unspent_sum (times n take_back_output l).outs ≤ max_money
        → all_values l.outs ≡ all_values outs + total_value p.tx.outputs → total_value p.tx.outputs ≤ max_money → unspent_sum (times k take_back_output l).outs < 2 ^ 64
    out_fits k n l outs le values few more money =
        let e : (n - k) + k ≡ n = omega arith in
        let part = rw e at (outputs_back k (n - k) l) in
        let less = outputs_less k l in
        omega arith

-- 3. Many

sum_after : (height index start : ℕ) (t : Tx) (ps : List Position) → position_fault ps (next_position height index start t ps) ≡ None
    → unspent_sum (lists_of (ps ++ next_position height index start t ps ∷ [])).outs ≤ max_money
sum_after height index start t ps none =
    let p = next_position height index start t ps in
    let bounds = second_none (missing_fault index t (coins_of (outputs ps))) _ none in
    let money = first_none (money_fault (supply (coins_after height t (coins_of (outputs ps))))) _ bounds in
    let le = money_fits _ money in
    let held = all_held_is (scripts_of (ps ++ p ∷ [])) (outputs (ps ++ p ∷ [])) in
    let step = ap supply (coins_step ps p) in
    omega arith

can_all : (ts : List Tx) (height index start : ℕ) (ps : List Position) → first_fault ps (positions_in height index start ts (coins_of (outputs ps))) ≡ None
    → unspent_sum (lists_of ps).outs ≤ max_money → AllByRecursion HasEncoding ts
    → CanUndoAll (length ts) (lists_of (ps ++ positions_in height index start ts (coins_of (outputs ps))))
can_all [] height index start ps none few each k lt = absurd (omega arith)
can_all (t ∷ ts) height index start ps none few each k lt =
    let p = next_position height index start t ps in
    let cs = coins_of (outputs ps) in
    let later = positions_in height (index + 1) (start + length (full_encoding t)) ts (coins_after height t cs) in
    let mine = first_none (position_fault ps p) (first_fault (ps ++ p ∷ []) later) none in
    let others = second_none (position_fault ps p) (first_fault (ps ++ p ∷ []) later) none in
    let missing = first_none (missing_fault index t cs) _ mine in
    let there = map_none (λ n. refusal.MissingCoin index n) (missing_input 0 (spending_inputs t) cs) (sym (missing_is index t cs) ∙ missing) in
    let step = coins_step ps p in
    let joined = append_assoc ps (p ∷ []) later in
    let rest = can_all ts height (index + 1) (start + length (full_encoding t)) (ps ++ p ∷ []) (rw step others) (sum_after height index start t ps mine) each.1 in
    let after = disconnects_txs ts height (index + 1) (start + length (full_encoding t)) (ps ++ p ∷ []) (rw step others) in
    go (cases_lt k (length ts)) (rw (step, joined) at rest) (rw (step, joined) at after) there
  where
    go : (k < length ts) ⊎ (length ts ≤ k) → CanUndoAll (length ts) (lists_of (ps ++ positions_in height index start (t ∷ ts) (coins_of (outputs ps))))
        → times (length ts) disconnect_tx (lists_of (ps ++ positions_in height index start (t ∷ ts) (coins_of (outputs ps)))) ≡ lists_of (ps ++ next_position height index start t ps ∷ [])
        → missing_input 0 (spending_inputs t) (coins_of (outputs ps)) ≡ None
        → CanUndo (times k disconnect_tx (lists_of (ps ++ positions_in height index start (t ∷ ts) (coins_of (outputs ps)))))
    go (inl less) rest after there = rest k less
    go (inr more) rest after there =
        let at : k ≡ length ts = omega arith in
        subst CanUndo (sym (ap (λ (n : ℕ). times n disconnect_tx (lists_of (ps ++ positions_in height index start (t ∷ ts) (coins_of (outputs ps))))) at ∙ after))
        (can_undo ps (next_position height index start t ps) there few (encoded_money t each.0))

sum_all : (ts : List Tx) (height index start : ℕ) (ps : List Position) → first_fault ps (positions_in height index start ts (coins_of (outputs ps))) ≡ None
    → unspent_sum (lists_of ps).outs ≤ max_money → unspent_sum (lists_of (ps ++ positions_in height index start ts (coins_of (outputs ps)))).outs ≤ max_money
sum_all [] height index start ps none few = rw (append-nil ps) few
sum_all (t ∷ ts) height index start ps none few =
    let p = next_position height index start t ps in
    let cs = coins_of (outputs ps) in
    let later = positions_in height (index + 1) (start + length (full_encoding t)) ts (coins_after height t cs) in
    let mine = first_none (position_fault ps p) (first_fault (ps ++ p ∷ []) later) none in
    let others = second_none (position_fault ps p) (first_fault (ps ++ p ∷ []) later) none in
    let step = coins_step ps p in
    let joined = append_assoc ps (p ∷ []) later in
    let rest = sum_all ts height (index + 1) (start + length (full_encoding t)) (ps ++ p ∷ []) (rw step others) (sum_after height index start t ps mine) in
    rw (step, joined) at rest

-- 4. Blocks

faultless : (chain : Chain) (b : Placed) → IsGood (chain ++ b ∷ []) → first_fault (positions chain) (block_positions (length chain) b.block.txs (coins_of (outputs (positions chain)))) ≡ None
faultless chain b good = let cs = chain_coins chain in rw cs at ((good_front [] chain b good.each).1.faultless)

positions_are : (chain : Chain) (b : Placed) → positions (chain ++ b ∷ []) ≡ positions chain ++ block_positions (length chain) b.block.txs (coins_of (outputs (positions chain)))
positions_are chain b = positions_more chain b ∙ ap (λ (cs : List Coin). positions chain ++ block_positions (length chain) b.block.txs cs) (chain_coins chain)

pub good_sum : (chain : Chain) → IsGood chain → unspent_sum (lists chain).outs ≤ max_money
good_sum chain good = from_front (λ (c : Chain). IsGood c → unspent_sum (lists c).outs ≤ max_money) (λ g. omega arith) more chain good
  where
    more : (c : Chain) (b : Placed) → (IsGood c → unspent_sum (lists c).outs ≤ max_money) → IsGood (c ++ b ∷ []) → unspent_sum (lists (c ++ b ∷ [])).outs ≤ max_money
    more c b before good =
        let few = before (good_before c b good) in
        let after = sum_all b.block.txs (length c) 0 (first_start b.block.txs) (positions c) (faultless c b good) few in
        subst (λ (ps : List Position). unspent_sum (lists_of ps).outs ≤ max_money) (sym (positions_are c b)) after

pub can_disconnect : (chain : Chain) (b : Placed) → IsGood (chain ++ b ∷ []) → CanUndoAll (length b.block.txs) (lists (chain ++ b ∷ []))
can_disconnect chain b good =
    let few = good_sum chain (good_before chain b good) in
    let next = (good_front [] chain b good.each).1 in
    let can = can_all b.block.txs (length chain) 0 (first_start b.block.txs) (positions chain) (faultless chain b good) few next.encoded.1.text.each in
    subst (λ (ps : List Position). CanUndoAll (length b.block.txs) (lists_of ps)) (sym (positions_are chain b)) can
