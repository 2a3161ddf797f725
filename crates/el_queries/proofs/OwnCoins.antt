-- The coins of a script among the outputs of its entries' transactions.
use Rattle.std.proofs.Common.{◌≡◌, inl, inr, ℕ, zero, suc, ◌+◌, ◌<◌, ◌≤◌, ◌==◌, ◌&&◌, true, List, [], ◌∷◌, ◌++◌, length, map, filter, flat_map, take, drop, reverse, get_or, slice_get, refl, ap, ap₂, sym, subst, ◌∙◌, append_assoc, arith, length-append, eqb-true}
use Rattle.std.proofs.lemmas.Bool.{cases_Bool, cases_lt, and_left}
use Rattle.std.proofs.lemmas.List.{map-append, get_or_at, length-map, reverse-append, drop_at, take_at}
use Rattle.std.proofs.Math.Seq.{drop-cons}
use Rattle.std.specs.List.{AllByRecursion}
use Rattle.el_base.specs.declared.hash.Hash32.{Hash32}
use Rattle.el_chain.specs.Chains.{Chain, zero_hash}
use Rattle.el_chain.specs.CoinLaws.{makes}
use Rattle.el_chain.specs.History.{Position, positions}
use Rattle.el_chain.specs.RowCounts.{is_script_among, spending_inputs}
use Rattle.el_chain.specs.declared.coin.Coin.{Coin}
use Rattle.el_tx.specs.Hashing.{txid}
use Rattle.el_tables.specs.ChainLists.{output, outputs_from, listed_out, listed_position, txs_from, lists}
use Rattle.el_tables.specs.Edits.{no_out}
use Rattle.el_tables.specs.Lists.{ListedTx, ListedOut, ListedEntry, Lists, is_unspent, script_number, is_of_script, first_out_at}
use Rattle.el_tables.specs.Queries.{height_at, outs_at, coins_among, coins_at, shown_coin}
use Rattle.el_tables.proofs.FitLemmas.{chain_fits}
use Rattle.el_tables.proofs.Numbering.{length_made, length_txs}
use Rattle.el_tables.proofs.Scripts.{number_at}
use Rattle.el_tables.proofs.Unspents.{unspent_answers}
use Rattle.el_model.specs.Queries as asked
use Rattle.el_schema.proofs.Held.{no_tx}
use Rattle.el_queries.specs.within.Histories.{own_coin, own_coins, outs_of_tx, coins_made_by, coin_shown}
use Rattle.el_queries.proofs.ChainEntries.{TxsWithin, txs_within}
use Rattle.el_queries.proofs.Scripts.{none_listed}
use Rattle.el_queries.proofs.TxRows.{tx_there, field_at}

-- 1. Read from the last on

-- a coin alone is the same from its end
pub own_turned : (script : ℕ) (s : Hash32) (t : ListedTx) (i : ℕ) (x : ListedOut) → reverse (own_coin script s t i x) ≡ own_coin script s t i x
own_turned script s t i x = elim (cases_Bool ((x.script == script) && is_unspent x.state)) [
  | inl e ↦ rw e refl
  | inr e ↦ rw e refl
]

-- one output before them
pub own_before : (script : ℕ) (s : Hash32) (t : ListedTx) (i : ℕ) (xs : List ListedOut) → i < length xs
    → reverse (own_coins script s t i (drop i xs)) ≡ reverse (own_coins script s t (i + 1) (drop (i + 1) xs)) ++ own_coin script s t i (get_or xs i no_out)
own_before script s t i xs lt =
    let x = get_or xs i no_out in
    let one : suc i ≡ i + 1 = omega arith in
    let cut : drop i xs ≡ x ∷ drop (i + 1) xs = drop-cons xs i no_out lt ∙ ap (λ (k : ℕ). x ∷ drop k xs) one in
    ap (λ (ys : List ListedOut). reverse (own_coins script s t i ys)) cut
    ∙ reverse-append (own_coin script s t i x) (own_coins script s t (i + 1) (drop (i + 1) xs))
    ∙ ap (λ (ys : List Coin). reverse (own_coins script s t (i + 1) (drop (i + 1) xs)) ++ ys) (own_turned script s t i x)

drop_whole : {X : Type 0} (xs : List X) (n : ℕ) → length xs ≤ n → drop n xs ≡ []
drop_whole [] zero le = refl
drop_whole [] (suc n) le = refl
drop_whole (x ∷ xs) zero le = absurd (omega arith)
drop_whole (x ∷ xs) (suc n) le = drop_whole xs n (omega arith)

-- past the last there is none
pub own_past : (script : ℕ) (s : Hash32) (t : ListedTx) (i : ℕ) (xs : List ListedOut) → length xs ≤ i → own_coins script s t i (drop i xs) ≡ []
own_past script s t i xs le = ap (own_coins script s t i) (drop_whole xs i le)

-- 2. In the terms of the lists

coins_same : (script : ℕ) (s : Hash32) (l : Lists) (t : ListedTx) (n i : ℕ) (xs : List ListedOut) → height_at n l.txs ≡ t.height → get_or l.scripts script zero_hash ≡ s
    → AllByRecursion (λ (x : ListedOut). x.tx ≡ n) xs → own_coins script s t i xs ≡ coins_among script t.txid i l xs
coins_same script s l t n i [] height hash all = refl
coins_same script s l t n i (x ∷ xs) height hash all =
    let rest = coins_same script s l t n (i + 1) xs height hash all.1 in
    elim (cases_Bool (x.script == script)) [
      | inl e ↦ elim (cases_Bool (is_unspent x.state)) [
        | inl u ↦
            let script_is : x.script ≡ script = eqb-true x.script script e in
            let shown : coin_shown s t i x ≡ shown_coin (record { txid = t.txid; index = i }) l x =
            ap₂ (λ (h : Hash32) (m : ℕ). record { outpoint = record { txid = t.txid; index = i }; value = x.value; script = h; height = m })
            (sym hash ∙ ap (λ (k : ℕ). get_or l.scripts k zero_hash) (sym script_is)) (sym height ∙ ap (λ (m : ℕ). height_at m l.txs) (sym all.0)) in
            rw (e, u) (ap₂ (λ (c : Coin) (cs : List Coin). c ∷ cs) shown rest)
        | inr u ↦ rw (e, u) rest
      ]
      | inr e ↦
          let none = and_left (x.script == script) (is_unspent x.state) e in
          rw none rest
    ]

-- 3. The outputs of a transaction are its own

all_own : (scripts : List Hash32) (n : ℕ) (ps : List Position) (cs : List Coin) → AllByRecursion (λ (x : ListedOut). x.tx ≡ n) (map (listed_out scripts) (map (output n ps) cs))
all_own scripts n ps [] = tt
all_own scripts n ps (c ∷ cs) = (refl, all_own scripts n ps cs)

field_here : {Y : Type 0} (f : ListedTx → Y) (front : List ListedTx) (t : ListedTx) (back : List ListedTx) (n : ℕ) (y : Y) → length front ≡ n → get_or (map f (front ++ t ∷ back)) n y ≡ f t
field_here f front t back n y at = rw (map-append f front (t ∷ back)) (get_or_at (map f front) (f t) (map f back) y n (length-map front f ∙ at))

owned_from : (scripts : List Hash32) (front : List ListedTx) (before : List ListedOut) (a b n : ℕ) (ps : List Position) (m : ℕ)
    → length front ≡ n → length before ≡ a → n ≤ m → m < n + length ps
    → AllByRecursion (λ (x : ListedOut). x.tx ≡ m) (take (outs_at m (front ++ txs_from a b ps)) (drop (first_out_at m (front ++ txs_from a b ps)) (before ++ map (listed_out scripts) (outputs_from n ps))))
owned_from scripts front before a b n [] m at long le lt = absurd (omega arith)
owned_from scripts front before a b n (p ∷ ps) m at long le lt =
    let t = listed_position a b p in
    let back = txs_from (a + length p.tx.outputs) (b + length (spending_inputs p.tx)) ps in
    let mine = map (output n ps) (makes p) in
    let rows = map (listed_out scripts) mine in
    let others = outputs_from (n + 1) ps in
    let later = map (listed_out scripts) others in
    let whole = map-append (listed_out scripts) mine others in
    let rows_long : length rows ≡ length p.tx.outputs =
    (let y = length-map mine (listed_out scripts) in let z = length-map (makes p) (output n ps) in let w = length_made (txid p.tx) p.height 0 p.tx.outputs in omega arith) in
    let P : ListedOut → Type 0 = λ x. x.tx ≡ m in
    elim (cases_lt n m) [
      | inl more ↦
          let rest = owned_from scripts (front ++ t ∷ []) (before ++ rows) (a + length p.tx.outputs) (b + length (spending_inputs p.tx)) (n + 1) ps m
          (let x = length-append front (t ∷ []) in omega arith) (let x = length-append before rows in omega arith) (omega arith) (omega arith) in
          let moved = append_assoc front (t ∷ []) back in
          let outs_moved : (before ++ rows) ++ later ≡ before ++ map (listed_out scripts) (mine ++ others) = append_assoc before rows later ∙ ap (λ (r : List ListedOut). before ++ r) (sym whole) in
          subst (λ (ts : List ListedTx). AllByRecursion P (take (outs_at m ts) (drop (first_out_at m ts) (before ++ map (listed_out scripts) (mine ++ others))))) moved
          (subst (λ (os : List ListedOut). AllByRecursion P (take (outs_at m ((front ++ t ∷ []) ++ back)) (drop (first_out_at m ((front ++ t ∷ []) ++ back)) os))) outs_moved rest)
      | inr here ↦
          let same : n ≡ m = omega arith in
          let first = field_here (λ (u : ListedTx). u.first_out) front t back m 0 (at ∙ same) in
          let outs = field_here (λ (u : ListedTx). u.outs) front t back m 0 (at ∙ same) in
          let cut : take (length p.tx.outputs) (drop a (before ++ map (listed_out scripts) (mine ++ others))) ≡ rows =
          ap (λ (r : List ListedOut). take (length p.tx.outputs) (drop a (before ++ r))) whole
          ∙ ap (take (length p.tx.outputs)) (drop_at before (rows ++ later) a long) ∙ take_at rows later (length p.tx.outputs) rows_long in
          rw (first, outs, cut) (subst (λ (k : ℕ). AllByRecursion (λ (x : ListedOut). x.tx ≡ k) rows) same (all_own scripts n ps (makes p)))
    ]

-- 4. All

-- the coins of one entry
one_entry : (chain : Chain) (s : Hash32) (e : ListedEntry) → is_script_among s (lists chain).scripts ≡ true → e.tx < length (lists chain).txs
    → coins_made_by (script_number s (lists chain).scripts) s (lists chain).outs (slice_get (lists chain).txs e.tx) ≡ coins_at (script_number s (lists chain).scripts) (lists chain) e
one_entry chain s e there lt =
    let l = lists chain in
    let ps = positions chain in
    let k = script_number s l.scripts in
    let n = e.tx in
    let t = get_or l.txs n no_tx in
    let few : n < 0 + length ps = (let long = length_txs 0 0 ps in omega arith) in
    let owned = owned_from l.scripts [] [] 0 0 0 ps n refl refl (omega arith) few in
    let first = field_at (λ (u : ListedTx). u.first_out) l.txs n 0 lt in
    let outs = field_at (λ (u : ListedTx). u.outs) l.txs n 0 lt in
    let height = field_at (λ (u : ListedTx). u.height) l.txs n 0 lt in
    let id = field_at (λ (u : ListedTx). u.txid) l.txs n zero_hash lt in
    let cut : take (outs_at n l.txs) (drop (first_out_at n l.txs) l.outs) ≡ outs_of_tx t l.outs = ap₂ (λ (a b : ℕ). take a (drop b l.outs)) outs first in
    ap (coins_made_by k s l.outs) (tx_there l.txs n lt)
    ∙ coins_same k s l t n 0 (outs_of_tx t l.outs) height (number_at s zero_hash l.scripts there) (subst (AllByRecursion (λ (x : ListedOut). x.tx ≡ n)) cut owned)
    ∙ ap₂ (λ (h : Hash32) (xs : List ListedOut). coins_among k h 0 l xs) (sym id) (sym cut)

each_entry : (chain : Chain) (s : Hash32) (test : ListedEntry → Rattle.std.proofs.Common.Bool) (es : List ListedEntry) → is_script_among s (lists chain).scripts ≡ true → TxsWithin (length (lists chain).txs) es
    → flat_map (λ (e : ListedEntry). coins_made_by (script_number s (lists chain).scripts) s (lists chain).outs (slice_get (lists chain).txs e.tx)) (filter test es)
    ≡ flat_map (coins_at (script_number s (lists chain).scripts) (lists chain)) (filter test es)
each_entry chain s test [] there all = refl
each_entry chain s test (e ∷ es) there all =
    let rest = each_entry chain s test es there all.1 in
    elim (cases_Bool (test e)) [
      | inl y ↦ let one = one_entry chain s e there all.0 in rw (y, one, rest) refl
      | inr n ↦ rw n rest
    ]

-- the coins of a script hash along its entries are those after the chain
unspent_shown : (chain : Chain) (s : Hash32) → is_script_among s (lists chain).scripts ≡ true
    → flat_map (λ (e : ListedEntry). coins_made_by (script_number s (lists chain).scripts) s (lists chain).outs (slice_get (lists chain).txs e.tx))
    (filter (is_of_script (script_number s (lists chain).scripts)) (lists chain).entries) ≡ asked.unspent chain s.0
unspent_shown chain s there =
    let l = lists chain in
    each_entry chain s (is_of_script (script_number s l.scripts)) l.entries there (txs_within chain) ∙ sym (unspent_answers chain s.0)

-- where there is no such script, there is no coin
unspent_none : (chain : Chain) (s : Hash32) → filter (is_of_script (script_number s (lists chain).scripts)) (lists chain).entries ≡ []
    → flat_map (λ (e : ListedEntry). coins_made_by (script_number s (lists chain).scripts) s (lists chain).outs (slice_get (lists chain).txs e.tx))
    (filter (is_of_script (script_number s (lists chain).scripts)) (lists chain).entries) ≡ asked.unspent chain s.0
unspent_none chain s none =
    let l = lists chain in
    let k = script_number s l.scripts in
    ap (flat_map (λ (e : ListedEntry). coins_made_by k s l.outs (slice_get l.txs e.tx))) none
    ∙ sym (ap (flat_map (coins_at k l)) none) ∙ sym (unspent_answers chain s.0)

pub unspent_found : (chain : Chain) (s : Hash32)
    → flat_map (λ (e : ListedEntry). coins_made_by (script_number s (lists chain).scripts) s (lists chain).outs (slice_get (lists chain).txs e.tx))
    (filter (is_of_script (script_number s (lists chain).scripts)) (lists chain).entries) ≡ asked.unspent chain s.0
unspent_found chain s = elim (cases_Bool (is_script_among s (lists chain).scripts)) [
  | inl there ↦ unspent_shown chain s there
  | inr none ↦ unspent_none chain s (none_listed s (lists chain) (chain_fits chain) none)
]
