-- The coins of a script are found by its entries.
use Rattle.std.proofs.Common.{◌≡◌, inl, inr, ℕ, ◌+◌, ◌==◌, true, false, List, [], ◌∷◌, ◌++◌, length, map, filter, take, drop, refl, ap, sym, ap₂, ◌∙◌, append_assoc, arith, length-append, ne_eqb, eq-eqb}
use Rattle.std.proofs.lemmas.Bool.{cases_Bool, or_parts, and_right}
use Rattle.std.proofs.lemmas.List.{map-append, length-map, get_or_at, drop_at, take_at}
use Rattle.std.proofs.lemmas.List.Elements.{filter-append}
use Rattle.std.specs.List.{flat_map}
use Rattle.std.specs.Str.{bytes_eq}
use Rattle.el_base.specs.declared.hash.Hash32.{Hash32}
use Rattle.el_tx.specs.declared.types.Outpoint.{Outpoint}
use Rattle.el_tx.specs.declared.types.TxOut.{TxOut}
use Rattle.el_tx.specs.Hashing.{txid}
use Rattle.el_chain.specs.RowCounts.{is_script_among, spending_inputs, concerned_scripts, add_scripts, output_script, spent_scripts}
use Rattle.el_chain.specs.declared.coin.Coin.{Coin}
use Rattle.el_chain.specs.Chains.{Chain, zero_hash}
use Rattle.el_chain.specs.Coins.{coins, coin_made}
use Rattle.el_chain.specs.CoinLaws.{coins_made, makes}
use Rattle.el_chain.specs.Headers.{same_hash}
use Rattle.el_tables.specs.Lists.{ListedTx, ListedOut, ListedEntry, Lists, is_unspent, script_number, is_of_script, txid_at, first_out_at}
use Rattle.el_chain.specs.History.{Position, positions}
use Rattle.el_tables.specs.ChainLists.{output, outputs_from, state_after, listed_out, listed_position, txs_from, entry_of, entries_from, lists}
use Rattle.el_tables.specs.Queries.{height_at, outs_at, coins_among, coins_at, listed_unspent}
use Rattle.el_tables.proofs.Outputs.{coins_of, coins_joined, chain_coins}
use Rattle.el_tables.proofs.Numbering.{length_made}
use Rattle.el_tables.proofs.Scripts.{hash_gives, AllIn, all_from, all_has, all_met, has_more, has_back, gathered, gather_has, gather_only, number_at, number_apart}
use Rattle.el_tables.proofs.Listing.{one_entry, once_gathered}
use Rattle.el_tables.proofs.Answering.{own_coins, height_of}

-- 1. The outputs of one transaction

among : (s : Hash32) (l : Lists) (n : ℕ) (ps : List Position) (id : Hash32) (height i : ℕ) (os : List TxOut) → height_at n l.txs ≡ height → AllIn l.scripts (map output_script os)
    → own_coins s.0 (coins_of (map (output n ps) (coins_made id height i os)))
    ≡ coins_among (script_number s l.scripts) id i l (map (listed_out l.scripts) (map (output n ps) (coins_made id height i os)))
among s l n ps id height i [] at all = refl
among s l n ps id height i (o ∷ os) at all =
    let rest = among s l n ps id height (i + 1) os at all.1 in
    let hash = number_at (output_script o) zero_hash l.scripts all.0 in
    let point : Outpoint = record { txid = id; index = i } in
    let mine = is_unspent (state_after point (n + 1) ps) in
    elim (cases_Bool (is_unspent (state_after point (n + 1) ps))) [
      | inl u ↦ elim (cases_Bool (same_hash (output_script o) s)) [
        | inl h ↦
            let self : (script_number (output_script o) l.scripts == script_number s l.scripts) ≡ true =
            eq-eqb (script_number (output_script o) l.scripts) (script_number s l.scripts) (ap (λ (t : Hash32). script_number t l.scripts) (hash_gives (output_script o) s h)) in
            rw (u, h, self, hash, at) (ap (λ (cs : List Coin). coin_made id height i o ∷ cs) rest)
        | inr h ↦
            let apart : (script_number (output_script o) l.scripts == script_number s l.scripts) ≡ false =
            ne_eqb (script_number (output_script o) l.scripts) (script_number s l.scripts) (λ e. number_apart s (output_script o) l.scripts all.0 e h) in
            rw (u, h, apart) rest
      ]
      | inr u ↦
          let none = and_right (script_number (output_script o) l.scripts == script_number s l.scripts) (is_unspent (state_after point (n + 1) ps)) u in
          rw (none, u) rest
    ]

none_own : (s : Hash32) (n : ℕ) (ps : List Position) (id : Hash32) (height i : ℕ) (os : List TxOut) → is_script_among s (map output_script os) ≡ false
    → own_coins s.0 (coins_of (map (output n ps) (coins_made id height i os))) ≡ []
none_own s n ps id height i [] h = refl
none_own s n ps id height i (o ∷ os) h =
    let parts = or_parts (same_hash (output_script o) s) (is_script_among s (map output_script os)) h in
    let rest = none_own s n ps id height (i + 1) os parts.1 in
    let apart = parts.0 in
    let point : Outpoint = record { txid = id; index = i } in
    elim (cases_Bool (is_unspent (state_after point (n + 1) ps))) [
      | inl u ↦ rw (u, apart) rest
      | inr u ↦ rw u rest
    ]

back_none : (s : Hash32) (xs ys : List Hash32) → is_script_among s (xs ++ ys) ≡ false → is_script_among s ys ≡ false
back_none s [] ys h = h
back_none s (x ∷ xs) ys h = back_none s xs ys (or_parts (same_hash x s) (is_script_among s (xs ++ ys)) h).1

own_joined : (script : List ℕ) (cs ds : List Coin) → own_coins script (cs ++ ds) ≡ own_coins script cs ++ own_coins script ds
own_joined script cs ds = filter-append (λ (c : Coin). bytes_eq c.script.0 script) cs ds

-- 2. By number

at_first : (front : List ListedTx) (t : ListedTx) (back : List ListedTx) (n : ℕ) → length front ≡ n
    → (first_out_at n (front ++ t ∷ back) ≡ t.first_out) × (outs_at n (front ++ t ∷ back) ≡ t.outs) × (txid_at n (front ++ t ∷ back) ≡ t.txid)
at_first front t back n at =
    let a = map-append (λ (u : ListedTx). u.first_out) front (t ∷ back) in
    let b = map-append (λ (u : ListedTx). u.outs) front (t ∷ back) in
    let c = map-append (λ (u : ListedTx). u.txid) front (t ∷ back) in (
      rw a (get_or_at (map (λ (u : ListedTx). u.first_out) front) t.first_out (map (λ (u : ListedTx). u.first_out) back) 0 n (length-map front (λ (u : ListedTx). u.first_out) ∙ at)),
      rw b (get_or_at (map (λ (u : ListedTx). u.outs) front) t.outs (map (λ (u : ListedTx). u.outs) back) 0 n (length-map front (λ (u : ListedTx). u.outs) ∙ at)),
      rw c (get_or_at (map (λ (u : ListedTx). u.txid) front) t.txid (map (λ (u : ListedTx). u.txid) back) zero_hash n (length-map front (λ (u : ListedTx). u.txid) ∙ at)),
    )

-- 3. All

unspent_from : (s : Hash32) (l : Lists) (front : List ListedTx) (before : List ListedOut) (a b n : ℕ) (ps : List Position)
    → l.txs ≡ front ++ txs_from a b ps → l.outs ≡ before ++ map (listed_out l.scripts) (outputs_from n ps) → length front ≡ n → length before ≡ a → AllIn l.scripts (flat_map concerned_scripts ps)
    → own_coins s.0 (coins_of (outputs_from n ps)) ≡ flat_map (coins_at (script_number s l.scripts) l) (filter (is_of_script (script_number s l.scripts)) (entries_from l.scripts n ps))
unspent_from s l front before a b n [] et eo at long all = refl
unspent_from s l front before a b n (p ∷ ps) et eo at long all =
    let k = script_number s l.scripts in
    let t = listed_position a b p in
    let back = txs_from (a + length p.tx.outputs) (b + length (spending_inputs p.tx)) ps in
    let mine = map (output n ps) (makes p) in
    let rows = map (listed_out l.scripts) mine in
    let others = outputs_from (n + 1) ps in
    let whole = map-append (listed_out l.scripts) mine others in
    let joined = append_assoc before rows (map (listed_out l.scripts) others) in
    let rows_long : length rows ≡ length p.tx.outputs =
    (let y = length-map mine (listed_out l.scripts) in let z = length-map (makes p) (output n ps) in let w = length_made (txid p.tx) p.height 0 p.tx.outputs in omega arith) in
    let outs_is : l.outs ≡ (before ++ rows) ++ map (listed_out l.scripts) others = eo ∙ ap (λ (r : List ListedOut). before ++ r) whole ∙ sym joined in
    let txs_is : l.txs ≡ (front ++ t ∷ []) ++ back = et ∙ sym (append_assoc front (t ∷ []) back) in
    let own_in = all_from l.scripts (concerned_scripts p) (λ u h. all_has l.scripts (flat_map concerned_scripts (p ∷ ps)) u all (has_more u (concerned_scripts p) (flat_map concerned_scripts ps) h)) in
    let made_in = all_from l.scripts (map output_script p.tx.outputs) (λ u h. all_has l.scripts (concerned_scripts p) u own_in (has_back u (spent_scripts p.before (spending_inputs p.tx)) (map output_script p.tx.outputs) h)) in
    let gathered_in = all_from l.scripts (add_scripts [] (concerned_scripts p)) (λ u h. all_has l.scripts (concerned_scripts p) u own_in (gathered (concerned_scripts p) u h)) in
    let later_in = all_from l.scripts (flat_map concerned_scripts ps) (λ u h. all_has l.scripts (flat_map concerned_scripts (p ∷ ps)) u all (has_back u (concerned_scripts p) (flat_map concerned_scripts ps) h)) in
    let rest = unspent_from s l (front ++ t ∷ []) (before ++ rows) (a + length p.tx.outputs) (b + length (spending_inputs p.tx)) (n + 1) ps txs_is outs_is
    (let x = length-append front (t ∷ []) in omega arith) (let x = length-append before rows in omega arith) later_in in
    let split = coins_joined mine others in
    let own = own_joined s.0 (coins_of mine) (coins_of others) in
    let entries = filter-append (is_of_script k) (map (entry_of l.scripts n) (add_scripts [] (concerned_scripts p))) (entries_from l.scripts (n + 1) ps) in
    let one = one_entry l.scripts n s (add_scripts [] (concerned_scripts p)) gathered_in (once_gathered (concerned_scripts p) [] tt) in
    let place = at_first front t back n at in
    let fa = place.0 in
    let oa = place.1 in
    let ia = place.2 in
    let ha = height_of front t back n at in
    let cut : take (length p.tx.outputs) (drop a l.outs) ≡ rows =
    ap (λ (r : List ListedOut). take (length p.tx.outputs) (drop a r)) (eo ∙ ap (λ (r : List ListedOut). before ++ r) whole)
    ∙ ap (take (length p.tx.outputs)) (drop_at before (rows ++ map (listed_out l.scripts) others) a long) ∙ take_at rows (map (listed_out l.scripts) others) (length p.tx.outputs) rows_long in
    let height_is : height_at n l.txs ≡ p.height = ap (height_at n) et ∙ ha in
    let first_is : first_out_at n l.txs ≡ a = ap (first_out_at n) et ∙ fa in
    let outs_are : outs_at n l.txs ≡ length p.tx.outputs = ap (outs_at n) et ∙ oa in
    let id_is : txid_at n l.txs ≡ txid p.tx = ap (txid_at n) et ∙ ia in
    elim (cases_Bool (is_script_among s (concerned_scripts p))) [
      | inl h ↦
          let there = gather_has (concerned_scripts p) [] s h in
          let found : filter (is_of_script k) (map (entry_of l.scripts n) (add_scripts [] (concerned_scripts p))) ≡ entry_of l.scripts n s ∷ [] = one ∙ rw there refl in
          let own_is = among s l n ps (txid p.tx) p.height 0 p.tx.outputs height_is made_in in
          let here : coins_at k l (entry_of l.scripts n s) ≡ coins_among k (txid p.tx) 0 l rows = rw (first_is, outs_are, id_is, cut) refl in
          ap (own_coins s.0) split ∙ own ∙ ap₂ (λ (x y : List Coin). x ++ y) (own_is ∙ sym here) rest
          ∙ ap (flat_map (coins_at k l)) (sym (entries ∙ ap (λ (x : List ListedEntry). x ++ filter (is_of_script k) (entries_from l.scripts (n + 1) ps)) found))
      | inr h ↦
          let there = gather_only (concerned_scripts p) [] s refl h in
          let found : filter (is_of_script k) (map (entry_of l.scripts n) (add_scripts [] (concerned_scripts p))) ≡ [] = one ∙ rw there refl in
          let none = none_own s n ps (txid p.tx) p.height 0 p.tx.outputs (back_none s (spent_scripts p.before (spending_inputs p.tx)) (map output_script p.tx.outputs) h) in
          ap (own_coins s.0) split ∙ own ∙ ap₂ (λ (x y : List Coin). x ++ y) none rest
          ∙ ap (flat_map (coins_at k l)) (sym (entries ∙ ap (λ (x : List ListedEntry). x ++ filter (is_of_script k) (entries_from l.scripts (n + 1) ps)) found))
    ]

-- the coins of a script hash, in chain order and then by index
pub unspent_answers : (chain : Chain) (script : List ℕ) → own_coins script (coins chain) ≡ listed_unspent script (lists chain)
unspent_answers chain script =
    ap (own_coins script) (chain_coins chain)
    ∙ unspent_from (record { 0 = script }) (lists chain) [] [] 0 0 0 (positions chain) refl refl refl refl (all_met (positions chain))
