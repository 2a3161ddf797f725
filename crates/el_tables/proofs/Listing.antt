-- The entries of a script are its history.
use Rattle.std.proofs.Common.{◌≡◌, inl, inr, ℕ, ◌+◌, Bool, true, false, cond, ◌&&◌, ◌||◌, List, [], ◌∷◌, ◌++◌, length, map, filter, refl, ap, sym, ap₂, ◌∙◌, append_assoc, arith, length-append, ne_eqb, eq-eqb, ◌==◌}
use Rattle.std.proofs.lemmas.Bool.{cases_Bool, or_from, or_parts}
use Rattle.std.proofs.lemmas.List.{map-append, get_or_at, length-map}
use Rattle.std.proofs.lemmas.List.Elements.{filter-append}
use Rattle.std.specs.List.{list_any, flat_map}
use Rattle.std.specs.Str.{bytes_eq}
use Rattle.el_base.specs.declared.hash.Hash32.{Hash32}
use Rattle.el_tx.specs.declared.types.Outpoint.{Outpoint}
use Rattle.el_tx.specs.declared.types.TxIn.{TxIn}
use Rattle.el_tx.specs.declared.types.TxOut.{TxOut}
use Rattle.el_tx.specs.Hashing.{same_outpoint, is_coinbase}
use Rattle.el_chain.specs.RowCounts.{is_script_among, add_script, spending_inputs, spent_scripts, output_script, concerned_scripts, add_scripts}
use Rattle.el_chain.specs.declared.coin.Coin.{Coin}
use Rattle.el_chain.specs.declared.entry.Entry.{Entry}
use Rattle.el_chain.specs.Chains.{Chain, zero_hash}
use Rattle.el_chain.specs.Coins.{script_hash_of, is_coin_of}
use Rattle.el_chain.specs.History.{Position, positions, funds, has_own, spends, concerns, entry, history}
use Rattle.el_tables.specs.Fits.{Once}
use Rattle.el_chain.specs.Headers.{same_hash}
use Rattle.el_tables.specs.Lists.{ListedTx, script_number, is_of_script}
use Rattle.el_tables.specs.ChainLists.{listed_position, txs_from, scripts_of, entry_of, entries_from, lists}
use Rattle.el_tables.specs.Queries.{entry_at, listed_history}
use Rattle.el_tables.proofs.Scripts.{hash_gives, hash_from, number_apart, AllIn, all_from, all_has, has_more, has_back, gathered, gather_has, gather_only, all_met}

-- 1. Which scripts a transaction concerns

any_joined : (s : Hash32) (xs ys : List Hash32) → is_script_among s (xs ++ ys) ≡ (is_script_among s xs || is_script_among s ys)
any_joined s [] ys = refl
any_joined s (x ∷ xs) ys = elim (cases_Bool (same_hash x s)) [
  | inl h ↦ rw h refl
  | inr h ↦ rw h (any_joined s xs ys)
]

by_coins : (s : Hash32) (o : Outpoint) (cs : List Coin)
    → is_script_among s (map (λ (c : Coin). c.script) (filter (is_coin_of o) cs)) ≡ list_any (λ (c : Coin). same_outpoint c.outpoint o && bytes_eq c.script.0 s.0) cs
by_coins s o [] = refl
by_coins s o (c ∷ cs) =
    let rest = by_coins s o cs in
    elim (cases_Bool (is_coin_of o c)) [
      | inl h ↦ rw (h, rest) refl
      | inr h ↦ rw (h, rest) refl
    ]

by_inputs : (s : Hash32) (cs : List Coin) (is : List TxIn) → is_script_among s (spent_scripts cs is) ≡ list_any (λ (i : TxIn). has_own s.0 cs i.from) is
by_inputs s cs [] = refl
by_inputs s cs (i ∷ is) =
    any_joined s (map (λ (c : Coin). c.script) (filter (is_coin_of i.from) cs)) (spent_scripts cs is)
    ∙ ap₂ (λ (a b : Bool). a || b) (by_coins s i.from cs) (by_inputs s cs is)

by_outputs : (s : Hash32) (os : List TxOut) → is_script_among s (map output_script os) ≡ list_any (λ (o : TxOut). bytes_eq (script_hash_of o) s.0) os
by_outputs s [] = refl
by_outputs s (o ∷ os) = ap (λ (b : Bool). bytes_eq (script_hash_of o) s.0 || b) (by_outputs s os)

or_turned : (a b : Bool) → (a || b) ≡ (b || a)
or_turned true true = refl
or_turned true false = refl
or_turned false true = refl
or_turned false false = refl

pub met_is : (s : Hash32) (p : Position) → is_script_among s (concerned_scripts p) ≡ concerns s.0 p
met_is s p =
    any_joined s (spent_scripts p.before (spending_inputs p.tx)) (map output_script p.tx.outputs)
    ∙ ap₂ (λ (a b : Bool). a || b) (elim (cases_Bool (is_coinbase p.tx)) [
      | inl h ↦ rw h refl
      | inr h ↦ rw h (by_inputs s p.before p.tx.inputs)
    ]) (by_outputs s p.tx.outputs)
    ∙ or_turned (spends s.0 p.before p.tx) (funds s.0 p.tx)

-- 2. One entry for each

pub once_snoc : (s : Hash32) (xs : List Hash32) → is_script_among s xs ≡ false → Once xs → Once (xs ++ s ∷ [])
once_snoc s [] none once = (refl, tt)
once_snoc s (x ∷ xs) none once =
    let parts = or_parts (same_hash x s) (is_script_among s xs) none in
    (any_joined x xs (s ∷ []) ∙ or_from (is_script_among x xs) (is_script_among x (s ∷ [])) once.0 (or_from (same_hash s x) false (turned parts.0) refl), once_snoc s xs parts.1 once.1)
  where
    turned : same_hash x s ≡ false → same_hash s x ≡ false
    turned e = elim (cases_Bool (same_hash s x)) [
      | inl h ↦ absurd (bad (sym (hash_from x s (sym (hash_gives s x h))) ∙ e))
      | inr h ↦ h
    ]
      where
        bad : true ≡ false → ⊥
        bad f = cc

pub once_gathered : (ss xs : List Hash32) → Once xs → Once (add_scripts xs ss)
once_gathered [] xs once = once
once_gathered (s ∷ ss) xs once = once_gathered ss (add_script s xs) (elim (cases_Bool (is_script_among s xs)) [
  | inl h ↦ rw h once
  | inr h ↦ rw h (once_snoc s xs h once)
])

pub one_entry : (scripts : List Hash32) (n : ℕ) (s : Hash32) (ss : List Hash32) → AllIn scripts ss → Once ss
    → filter (is_of_script (script_number s scripts)) (map (entry_of scripts n) ss) ≡ cond (is_script_among s ss) (entry_of scripts n s ∷ []) []
one_entry scripts n s [] all once = refl
one_entry scripts n s (x ∷ xs) all once = elim (cases_Bool (same_hash x s)) [
  | inl h ↦
      let e = hash_gives x s h in
      let self : (script_number x scripts == script_number s scripts) ≡ true = eq-eqb (script_number x scripts) (script_number s scripts) (ap (λ (t : Hash32). script_number t scripts) e) in
      let none : is_script_among s xs ≡ false = ap (λ (t : Hash32). is_script_among t xs) (sym e) ∙ once.0 in
      let rest : filter (is_of_script (script_number s scripts)) (map (entry_of scripts n) xs) ≡ [] = one_entry scripts n s xs all.1 once.1 ∙ rw none refl in
      rw (h, self, rest) (ap (λ (t : Hash32). entry_of scripts n t ∷ []) e)
  | inr h ↦
      let apart : (script_number x scripts == script_number s scripts) ≡ false =
      ne_eqb (script_number x scripts) (script_number s scripts) (λ e. number_apart s x scripts all.0 e h) in
      let rest = one_entry scripts n s xs all.1 once.1 in
      rw (h, apart) rest
]

-- 3. All

at_txs : (front : List ListedTx) (t : ListedTx) (back : List ListedTx) (n script : ℕ) → length front ≡ n
    → entry_at (front ++ t ∷ back) (record { tx = n; script = script }) ≡ record { height = t.height; txid = t.txid }
at_txs front t back n script at =
    let hs = map-append (λ (u : ListedTx). u.height) front (t ∷ back) in
    let is = map-append (λ (u : ListedTx). u.txid) front (t ∷ back) in
    let h = get_or_at (map (λ (u : ListedTx). u.height) front) t.height (map (λ (u : ListedTx). u.height) back) 0 n (length-map front (λ (u : ListedTx). u.height) ∙ at) in
    let i = get_or_at (map (λ (u : ListedTx). u.txid) front) t.txid (map (λ (u : ListedTx). u.txid) back) zero_hash n (length-map front (λ (u : ListedTx). u.txid) ∙ at) in
    rw (hs, is, h, i) refl

all_listed : (s : Hash32) (scripts : List Hash32) (front : List ListedTx) (a b n : ℕ) (ps : List Position) → length front ≡ n → AllIn scripts (flat_map concerned_scripts ps)
    → map (entry_at (front ++ txs_from a b ps)) (filter (is_of_script (script_number s scripts)) (entries_from scripts n ps))
    ≡ map entry (filter (concerns s.0) ps)
all_listed s scripts front a b n [] at all = refl
all_listed s scripts front a b n (p ∷ ps) at all =
    let t = listed_position a b p in
    let back = txs_from (a + length p.tx.outputs) (b + length (spending_inputs p.tx)) ps in
    let whole = front ++ t ∷ back in
    let k = script_number s scripts in
    let mine = all_from scripts (add_scripts [] (concerned_scripts p)) (λ u h. all_has scripts (flat_map concerned_scripts (p ∷ ps)) u all (has_more u (concerned_scripts p) (flat_map concerned_scripts ps) (gathered (concerned_scripts p) u h))) in
    let others = all_from scripts (flat_map concerned_scripts ps) (λ u h. all_has scripts (flat_map concerned_scripts (p ∷ ps)) u all (has_back u (concerned_scripts p) (flat_map concerned_scripts ps) h)) in
    let one = one_entry scripts n s (add_scripts [] (concerned_scripts p)) mine (once_gathered (concerned_scripts p) [] tt) in
    let rest = all_listed s scripts (front ++ t ∷ []) (a + length p.tx.outputs) (b + length (spending_inputs p.tx)) (n + 1) ps (let l = length-append front (t ∷ []) in omega arith) others in
    let moved = append_assoc front (t ∷ []) back in
    let split = filter-append (is_of_script k) (map (entry_of scripts n) (add_scripts [] (concerned_scripts p))) (entries_from scripts (n + 1) ps) in
    let shown = at_txs front t back n k at in
    let more = rw moved at rest in
    elim (cases_Bool (is_script_among s (concerned_scripts p))) [
      | inl h ↦
          let there = gather_has (concerned_scripts p) [] s h in
          let is : concerns s.0 p ≡ true = sym (met_is s p) ∙ h in
          rw (split, one, there, is, shown) (ap (λ (l : List Entry). entry p ∷ l) more)
      | inr h ↦
          let there = gather_only (concerned_scripts p) [] s refl h in
          let is : concerns s.0 p ≡ false = sym (met_is s p) ∙ h in
          rw (split, one, there, is) more
    ]

-- the history of a script hash is its entries, in the order of their numbers
pub history_is : (chain : Chain) (script : List ℕ) → history chain script ≡ listed_history script (lists chain)
history_is chain script =
    let s : Hash32 = record { 0 = script } in
    sym (all_listed s (scripts_of (positions chain)) [] 0 0 0 (positions chain) refl (all_met (positions chain)))
