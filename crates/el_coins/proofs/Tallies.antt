-- The counts of a chain's transactions, position by position.
use Rattle.std.proofs.Common.{◌≡◌, ℕ, suc, ◌+◌, ◌-◌, ◌<◌, ◌≤◌, ◌^◌, min, Bool, true, false, cond, nat_lt, List, [], ◌∷◌, ◌++◌, length, map, take, get_or, Option, None, Some, option_map, refl, ap, sym, ◌∙◌, append_assoc, append-nil, length-append, arith, ltb-false, lt-ltb}
use Rattle.std.proofs.lemmas.Bool.{ltb-true, le-ltb}
use Rattle.std.proofs.lemmas.List.{map-append}
use Rattle.std.proofs.lemmas.List.Sums.{sum_by-cons, sum_by_push}
use Rattle.std.specs.Prelude.{option_to_list}
use Rattle.std.specs.List.{AllByRecursion, flat_map}
use Rattle.std.specs.Option.{option_or}
use Rattle.el_base.specs.declared.hash.Hash32.{Hash32}
use Rattle.el_base.proofs.Lists.{all_append, all_more, taken_at}
use Rattle.el_tx.specs.declared.types.TxIn.{TxIn}
use Rattle.el_tx.specs.declared.types.Tx.{Tx}
use Rattle.el_tx.specs.Hashing.{full_encoding}
use Rattle.el_chain.specs.declared.coin.Coin.{Coin}
use Rattle.el_chain.specs.declared.fault.ConnectFault.{ConnectFault}
use Rattle.el_chain.specs.declared.fault.ConnectFault.TheVariants as refusal
use Rattle.el_coins.specs.declared.tally.Tally.{Tally}
use Rattle.el_chain.specs.Chains.{Chain}
use Rattle.el_chain.specs.Coins.{coins_after, coins_after_all, coins}
use Rattle.el_chain.specs.History.{Position, positions_in, block_positions, first_start, positions_from, positions}
use Rattle.el_chain.specs.RowCounts.{row_limit, spending_inputs, spent_scripts, output_script, concerned_scripts, add_scripts, output_count, input_count, script_count, entry_count}
use Rattle.el_chain.specs.Faults.{full}
use Rattle.el_chain.specs.CoinLists.{coin_in, AreOnce}
use Rattle.el_coins.specs.within.Meters.{met_by, met_in, met_from, distinct_count, pair_count}
use Rattle.el_coins.specs.Tallies.{IsTally, MeetAs, met_fault}
use Rattle.el_chain.proofs.CoinLists.{once_after}
use Rattle.el_coins.proofs.Meters.{one_of, gather_within, script_of}

-- no outpoint gets two coins by the transactions of a block
abbrev pub IsOnceAt : Position → Type 0
IsOnceAt p = AreOnce p.before

once_in : (height pos start : ℕ) (ts : List Tx) (cs : List Coin) → AreOnce cs → AllByRecursion IsOnceAt (positions_in height pos start ts cs) × AreOnce (coins_after_all height ts cs)
once_in height pos start [] cs once = (tt, once)
once_in height pos start (t ∷ ts) cs once =
    let rest = once_in height (pos + 1) (start + length (full_encoding t)) ts (coins_after height t cs) (once_after height t cs once) in
    ((once, rest.0), rest.1)

once_from : (height : ℕ) (chain : Chain) (cs : List Coin) → AreOnce cs → AllByRecursion IsOnceAt (positions_from height chain cs)
once_from height [] cs once = tt
once_from height (b ∷ bs) cs once =
    let here = once_in height 0 (first_start b.block.txs) b.block.txs cs once in
    let rest = once_from (height + 1) bs (coins_after_all height b.block.txs cs) here.1 in
    all_append IsOnceAt (block_positions height b.block.txs cs) (positions_from (height + 1) bs (coins_after_all height b.block.txs cs)) here.0 rest

-- what the transactions of positions concern
in_met : (height pos start : ℕ) (ts : List Tx) (cs : List Coin) → map concerned_scripts (positions_in height pos start ts cs) ≡ met_in height ts cs
in_met height pos start [] cs = refl
in_met height pos start (t ∷ ts) cs = ap (λ (l : List (List Hash32)). met_by cs t ∷ l) (in_met height (pos + 1) (start + length (full_encoding t)) ts (coins_after height t cs))

from_met : (height : ℕ) (chain : Chain) (cs : List Coin) → map concerned_scripts (positions_from height chain cs) ≡ met_from height chain cs
from_met height [] cs = refl
from_met height (b ∷ bs) cs =
    let mid = coins_after_all height b.block.txs cs in
    map-append concerned_scripts (block_positions height b.block.txs cs) (positions_from (height + 1) bs mid)
    ∙ ap (λ (l : List (List Hash32)). l ++ map concerned_scripts (positions_from (height + 1) bs mid)) (in_met height 0 (first_start b.block.txs) b.block.txs cs)
    ∙ ap (λ (l : List (List Hash32)). met_in height b.block.txs cs ++ l) (from_met (height + 1) bs mid)

-- the positions of a chain
pub meets_begin : (chain : Chain) → MeetAs chain [] (positions chain)
meets_begin chain = record {
  met_are = from_met 0 chain [] ∙ sym (append-nil (met_from 0 chain []));
  once = once_from 0 chain [] tt;
}

-- and of one transaction more
met_more : (height : ℕ) (ts : List Tx) (t : Tx) (cs : List Coin) → met_in height (ts ++ t ∷ []) cs ≡ met_in height ts cs ++ met_by (coins_after_all height ts cs) t ∷ []
met_more height [] t cs = refl
met_more height (x ∷ xs) t cs = ap (λ (l : List (List Hash32)). met_by cs x ∷ l) (met_more height xs t (coins_after height x cs))

pub after_more : (height : ℕ) (ts : List Tx) (t : Tx) (cs : List Coin) → coins_after_all height (ts ++ t ∷ []) cs ≡ coins_after height t (coins_after_all height ts cs)
after_more height [] t cs = refl
after_more height (x ∷ xs) t cs = after_more height xs t (coins_after height x cs)

pub meets_more : (chain : Chain) (ts : List Tx) (n : ℕ) (t : Tx) (ps : List Position) (p : Position) → MeetAs chain (take n ts) ps → n < length ts → t ≡ get_or ts n t
    → p.tx ≡ t → p.before ≡ coins_after_all (length chain) (take n ts) (coins chain) → AreOnce p.before → MeetAs chain (take (n + 1) ts) (ps ++ p ∷ [])
meets_more chain ts n t ps p h lt is tx before once = record {
  met_are =
      let one : concerned_scripts p ≡ met_by (coins_after_all (length chain) (take n ts) (coins chain)) t =
      ap (λ (u : Tx). met_by p.before u) tx ∙ ap (λ (cs : List Coin). met_by cs t) before in
      map-append concerned_scripts ps (p ∷ [])
      ∙ ap (λ (l : List (List Hash32)). l ++ concerned_scripts p ∷ []) h.met_are
      ∙ append_assoc (met_from 0 chain []) (met_in (length chain) (take n ts) (coins chain)) (concerned_scripts p ∷ [])
      ∙ ap (λ (l : List Hash32). met_from 0 chain [] ++ (met_in (length chain) (take n ts) (coins chain) ++ l ∷ [])) one
      ∙ ap (λ (l : List (List Hash32)). met_from 0 chain [] ++ l) (sym (met_more (length chain) (take n ts) t (coins chain)))
      ∙ ap (λ (us : List Tx). met_from 0 chain [] ++ met_in (length chain) us (coins chain)) (sym (taken_at ts n t lt is));
  once = all_more IsOnceAt ps p h.once once;
}

-- the counts of one transaction more
pub tally_more : (tally new : Tally) (ps : List Position) (p : Position) (t : Tx) → IsTally tally ps → p.tx ≡ t → new.txs ≡ tally.txs + 1 → new.outputs ≡ tally.outputs + length t.outputs
    → new.inputs ≡ tally.inputs + length (spending_inputs t) → IsTally new (ps ++ p ∷ [])
tally_more tally new ps p t h is txs outputs inputs = record {
  txs = let joined = length-append ps (p ∷ []) in let old = h.txs in omega arith;
  outputs =
      let pushed = sum_by_push (λ (q : Position). length q.tx.outputs) ps p in
      let same = ap (λ (u : Tx). length u.outputs) is in
      let old = h.outputs in
      omega arith;
  inputs =
      let pushed = sum_by_push (λ (q : Position). length (spending_inputs q.tx)) ps p in
      let same = ap (λ (u : Tx). length (spending_inputs u)) is in
      let old = h.inputs in
      omega arith;
}

-- how many script hashes a transaction concerns at most
map_long : {X Y : Type 0} (f : X → Y) (xs : List X) → length (map f xs) ≡ length xs
map_long f [] = refl
map_long f (x ∷ xs) = ap suc (map_long f xs)

one_long : {X : Type 0} (r : Option X) → length (option_to_list r) ≤ 1
one_long None = omega arith
one_long (Some x) = omega arith

taken_within : (cs : List Coin) (is : List TxIn) → AreOnce cs → length (spent_scripts cs is) ≤ length is
taken_within cs [] once = omega arith
taken_within cs (i ∷ is) once =
    let one = one_long (option_map script_of (coin_in cs i.from)) in
    let rest = taken_within cs is once in
    let joined = length-append (option_to_list (option_map script_of (coin_in cs i.from))) (spent_scripts cs is) in
    rw (one_of i.from cs once) (omega arith)

met_within : (p : Position) → AreOnce p.before → length (concerned_scripts p) ≤ length p.tx.outputs + length (spending_inputs p.tx)
met_within p once =
    let taken = taken_within p.before (spending_inputs p.tx) once in
    let made = map_long output_script p.tx.outputs in
    let joined = length-append (spent_scripts p.before (spending_inputs p.tx)) (map output_script p.tx.outputs) in
    omega arith

pub entries_within : (ps : List Position) → AllByRecursion IsOnceAt ps → entry_count ps ≤ output_count ps + input_count ps
entries_within [] all = omega arith
entries_within (p ∷ ps) all =
    let one = met_within p all.0 in
    let own = gather_within [] (concerned_scripts p) in
    let rest = entries_within ps all.1 in
    let e = sum_by-cons (λ (q : Position). length (add_scripts [] (concerned_scripts q))) p ps in
    let o = sum_by-cons (λ (q : Position). length q.tx.outputs) p ps in
    let i = sum_by-cons (λ (q : Position). length (spending_inputs q.tx)) p ps in
    omega arith

flat_within : (ps : List Position) → AllByRecursion IsOnceAt ps → length (flat_map concerned_scripts ps) ≤ output_count ps + input_count ps
flat_within [] all = omega arith
flat_within (p ∷ ps) all =
    let one = met_within p all.0 in
    let rest = flat_within ps all.1 in
    let joined = length-append (concerned_scripts p) (flat_map concerned_scripts ps) in
    let o = sum_by-cons (λ (q : Position). length q.tx.outputs) p ps in
    let i = sum_by-cons (λ (q : Position). length (spending_inputs q.tx)) p ps in
    omega arith

pub scripts_within : (ps : List Position) → AllByRecursion IsOnceAt ps → script_count ps ≤ output_count ps + input_count ps
scripts_within ps all =
    let flat = flat_within ps all in
    let own = gather_within [] (flat_map concerned_scripts ps) in
    omega arith

-- the counts of what transactions concern
flat_same : (ps : List Position) → flat_map concerned_scripts ps ≡ flat_map (λ (l : List Hash32). l) (map concerned_scripts ps)
flat_same [] = refl
flat_same (p ∷ ps) = ap (λ (l : List Hash32). concerned_scripts p ++ l) (flat_same ps)

pub scripts_counted : (ps : List Position) (lists : List (List Hash32)) → map concerned_scripts ps ≡ lists → script_count ps ≡ distinct_count lists
scripts_counted ps lists is = ap (λ (l : List Hash32). length (add_scripts [] l)) (flat_same ps) ∙ ap distinct_count is

pairs_same : (ps : List Position) → entry_count ps ≡ pair_count (map concerned_scripts ps)
pairs_same [] = refl
pairs_same (p ∷ ps) =
    let rest = pairs_same ps in
    let e = sum_by-cons (λ (q : Position). length (add_scripts [] (concerned_scripts q))) p ps in
    let f = sum_by-cons (λ (l : List Hash32). length (add_scripts [] l)) (concerned_scripts p) (map concerned_scripts ps) in
    omega arith

pub entries_counted : (ps : List Position) (lists : List (List Hash32)) → map concerned_scripts ps ≡ lists → entry_count ps ≡ pair_count lists
entries_counted ps lists is = pairs_same ps ∙ ap pair_count is

-- tables with room
pub not_full : (table rows : ℕ) → rows ≤ row_limit table → full table rows ≡ None
not_full table rows few = rw (le-ltb (row_limit table) rows few) refl

-- a table is full by its count wherever this is above what 64 bits hold
pub full_capped : (table rows : ℕ) → row_limit table < 2 ^ 64 - 1 → full table (min rows (2 ^ 64 - 1)) ≡ full table rows
full_capped table rows below = ap (λ (b : Bool). cond b (Some (refusal.Full table (row_limit table))) None) (same (nat_lt (row_limit table) rows) refl)
  where
    same : (b : Bool) → nat_lt (row_limit table) rows ≡ b → nat_lt (row_limit table) (min rows (2 ^ 64 - 1)) ≡ nat_lt (row_limit table) rows
    same true e = let lt = ltb-true (row_limit table) rows e in lt-ltb (row_limit table) (min rows (2 ^ 64 - 1)) (omega (arith, lt, below)) ∙ sym e
    same false e = let least = ltb-false (row_limit table) rows e in le-ltb (row_limit table) (min rows (2 ^ 64 - 1)) (omega arith) ∙ sym e

-- scripts and entries have room where outputs and inputs together have
pub met_room : (tally : Tally) (ps : List Position) → IsTally tally ps → AllByRecursion IsOnceAt ps → tally.outputs + tally.inputs ≤ row_limit 6 → tally.outputs + tally.inputs ≤ row_limit 8 → met_fault ps ≡ None
met_room tally ps h once few short =
    let scripts = scripts_within ps once in
    let entries = entries_within ps once in
    let o = h.outputs in
    let i = h.inputs in
    rw (not_full 6 (script_count ps) (omega arith)) (not_full 8 (entry_count ps) (omega arith))

-- counted anew
pub met_by_counts : (ps : List Position) (lists : List (List Hash32)) (scripts entries : ℕ) → map concerned_scripts ps ≡ lists → scripts ≡ distinct_count lists → entries ≡ min (pair_count lists) (2 ^ 64 - 1)
    → met_fault ps ≡ option_or (full 6 scripts) (full 8 entries)
met_by_counts ps lists scripts entries is s e =
    ap (λ (n : ℕ). option_or (full 6 n) (full 8 (entry_count ps))) (scripts_counted ps lists is ∙ sym s)
    ∙ ap (λ (r : Option ConnectFault). option_or (full 6 scripts) r)
    (ap (full 8) (entries_counted ps lists is) ∙ sym (full_capped 8 (pair_count lists) (omega arith)) ∙ ap (full 8) (sym e))
