-- What the entries of a script in the lists of a chain lead to: their transactions, and how many outputs
-- these have.
use Rattle.std.proofs.Common.{◌≡◌, inl, inr, ℕ, zero, suc, ◌+◌, ◌*◌, ◌<◌, ◌≤◌, true, false, cond, List, [], ◌∷◌, ◌++◌, length, map, filter, flat_map, sum_by, refl, ap, ap₂, sym, ◌∙◌, append_assoc, arith, length-append}
use Rattle.std.proofs.lemmas.Bool.{cases_Bool}
use Rattle.std.proofs.lemmas.List.{map-append, get_or_at, length-map}
use Rattle.std.proofs.lemmas.List.Elements.{filter-append}
use Rattle.std.proofs.lemmas.List.Sums.{sum_by-cons}
use Rattle.std.specs.List.{AllByRecursion}
use Rattle.el_base.specs.declared.hash.Hash32.{Hash32}
use Rattle.el_chain.specs.Chains.{Chain}
use Rattle.el_chain.specs.History.{Position, positions, concerns, history}
use Rattle.el_chain.specs.RowCounts.{is_script_among, spending_inputs, concerned_scripts, add_scripts}
use Rattle.el_model.specs.Queries as asked
use Rattle.el_tables.specs.ChainLists.{listed_position, txs_from, scripts_of, entry_of, entries_from, lists}
use Rattle.el_tables.specs.Lists.{ListedTx, ListedEntry, script_number, is_of_script}
use Rattle.el_tables.specs.Queries.{entry_at, outs_at}
use Rattle.el_tables.proofs.Listing.{met_is, one_entry, once_gathered, history_is}
use Rattle.el_tables.proofs.Numbering.{length_txs}
use Rattle.el_tables.proofs.Scripts.{AllIn, all_from, all_has, all_met, has_more, has_back, gathered, gather_has, gather_only}
use Rattle.el_queries.specs.within.Histories.{shown_tx, entry_rows, coin_rows}

-- 1. Each transaction is there

abbrev pub TxsWithin : ℕ → List ListedEntry → Type 0
TxsWithin n es = AllByRecursion (λ (e : ListedEntry). e.tx < n) es

within_joined : (n : ℕ) (es fs : List ListedEntry) → TxsWithin n es → TxsWithin n fs → TxsWithin n (es ++ fs)
within_joined n [] fs a b = b
within_joined n (e ∷ es) fs a b = (a.0, within_joined n es fs a.1 b)

within_one : (scripts : List Hash32) (m n : ℕ) (ss : List Hash32) → m < n → TxsWithin n (map (entry_of scripts m) ss)
within_one scripts m n [] lt = tt
within_one scripts m n (s ∷ ss) lt = (lt, within_one scripts m n ss lt)

within_from : (scripts : List Hash32) (m n : ℕ) (ps : List Position) → m + length ps ≤ n → TxsWithin n (entries_from scripts m ps)
within_from scripts m n [] le = tt
within_from scripts m n (p ∷ ps) le =
    within_joined n (map (entry_of scripts m) (add_scripts [] (concerned_scripts p))) (entries_from scripts (m + 1) ps)
    (within_one scripts m n (add_scripts [] (concerned_scripts p)) (omega arith)) (within_from scripts (m + 1) n ps (omega arith))

pub txs_within : (chain : Chain) → TxsWithin (length (lists chain).txs) (lists chain).entries
txs_within chain =
    let ps = positions chain in
    let long = length_txs 0 0 ps in
    within_from (scripts_of ps) 0 (length (txs_from 0 0 ps)) ps (omega arith)

-- 2. What a history shows

shown_is : (txs : List ListedTx) (n script : ℕ) → n < length txs → shown_tx txs n ≡ entry_at txs (record { tx = n; script = script }) ∷ []
shown_is [] n script lt = absurd (omega arith)
shown_is (t ∷ ts) zero script lt = refl
shown_is (t ∷ ts) (suc n) script lt = shown_is ts n script (omega arith)

pub all_shown : (test : ListedEntry → Rattle.std.proofs.Common.Bool) (txs : List ListedTx) (es : List ListedEntry) → TxsWithin (length txs) es
    → flat_map (λ (e : ListedEntry). shown_tx txs e.tx) (filter test es) ≡ map (entry_at txs) (filter test es)
all_shown test txs [] all = refl
all_shown test txs (e ∷ es) all =
    let rest = all_shown test txs es all.1 in
    elim (cases_Bool (test e)) [
      | inl y ↦ let one = shown_is txs e.tx e.script all.0 in rw (y, one, rest) refl
      | inr n ↦ rw n rest
    ]

-- the entries of a script hash are its history
pub history_shown : (chain : Chain) (s : Hash32)
    → flat_map (λ (e : ListedEntry). shown_tx (lists chain).txs e.tx) (filter (is_of_script (script_number s (lists chain).scripts)) (lists chain).entries) ≡ history chain s.0
history_shown chain s =
    let l = lists chain in
    all_shown (is_of_script (script_number s l.scripts)) l.txs l.entries (txs_within chain) ∙ sym (history_is chain s.0)

-- 3. How many rows are read for them

pub two_each : (es : List ListedEntry) → sum_by entry_rows es ≡ 2 * length es
two_each [] = refl
two_each (e ∷ es) = let one = sum_by-cons entry_rows e es in let rest = two_each es in omega (arith, one, rest)

pub entries_long : (chain : Chain) (s : Hash32)
    → length (filter (is_of_script (script_number s (lists chain).scripts)) (lists chain).entries) ≡ length (history chain s.0)
entries_long chain s =
    let l = lists chain in
    sym (ap length (history_is chain s.0) ∙ length-map (filter (is_of_script (script_number s l.scripts)) l.entries) (entry_at l.txs))

pub history_rows : (chain : Chain) (s : Hash32)
    → sum_by entry_rows (filter (is_of_script (script_number s (lists chain).scripts)) (lists chain).entries) ≡ 2 * length (history chain s.0)
history_rows chain s =
    let l = lists chain in
    two_each (filter (is_of_script (script_number s l.scripts)) l.entries) ∙ ap (λ (n : ℕ). 2 * n) (entries_long chain s)

outs_here : (front : List ListedTx) (t : ListedTx) (back : List ListedTx) (n : ℕ) → length front ≡ n → outs_at n (front ++ t ∷ back) ≡ t.outs
outs_here front t back n at =
    let os = map-append (λ (u : ListedTx). u.outs) front (t ∷ back) in
    rw os (get_or_at (map (λ (u : ListedTx). u.outs) front) t.outs (map (λ (u : ListedTx). u.outs) back) 0 n (length-map front (λ (u : ListedTx). u.outs) ∙ at))

-- the outputs of their transactions
outs_along : (s : Hash32) (scripts : List Hash32) (front : List ListedTx) (a b n : ℕ) (ps : List Position) → length front ≡ n → AllIn scripts (flat_map concerned_scripts ps)
    → sum_by (λ (e : ListedEntry). outs_at e.tx (front ++ txs_from a b ps)) (filter (is_of_script (script_number s scripts)) (entries_from scripts n ps))
    ≡ sum_by (λ (p : Position). length p.tx.outputs) (filter (concerns s.0) ps)
outs_along s scripts front a b n [] at all = refl
outs_along s scripts front a b n (p ∷ ps) at all =
    let t = listed_position a b p in
    let back = txs_from (a + length p.tx.outputs) (b + length (spending_inputs p.tx)) ps in
    let whole = front ++ t ∷ back in
    let k = script_number s scripts in
    let f : ListedEntry → ℕ = λ e. outs_at e.tx whole in
    let size : Position → ℕ = λ q. length q.tx.outputs in
    let mine = all_from scripts (add_scripts [] (concerned_scripts p)) (λ u h. all_has scripts (flat_map concerned_scripts (p ∷ ps)) u all (has_more u (concerned_scripts p) (flat_map concerned_scripts ps) (gathered (concerned_scripts p) u h))) in
    let others = all_from scripts (flat_map concerned_scripts ps) (λ u h. all_has scripts (flat_map concerned_scripts (p ∷ ps)) u all (has_back u (concerned_scripts p) (flat_map concerned_scripts ps) h)) in
    let one = one_entry scripts n s (add_scripts [] (concerned_scripts p)) mine (once_gathered (concerned_scripts p) [] tt) in
    let rest = outs_along s scripts (front ++ t ∷ []) (a + length p.tx.outputs) (b + length (spending_inputs p.tx)) (n + 1) ps (let l = length-append front (t ∷ []) in omega arith) others in
    let moved = append_assoc front (t ∷ []) back in
    let later = filter (is_of_script k) (entries_from scripts (n + 1) ps) in
    let split : filter (is_of_script k) (entries_from scripts n (p ∷ ps)) ≡ cond (is_script_among s (add_scripts [] (concerned_scripts p))) (entry_of scripts n s ∷ []) [] ++ later =
    filter-append (is_of_script k) (map (entry_of scripts n) (add_scripts [] (concerned_scripts p))) (entries_from scripts (n + 1) ps) ∙ ap (λ (es : List ListedEntry). es ++ later) one in
    let shown = outs_here front t back n at in
    let more : sum_by f later ≡ sum_by (λ (q : Position). length q.tx.outputs) (filter (concerns s.0) ps) = rw moved at rest in
    elim (cases_Bool (is_script_among s (concerned_scripts p))) [
      | inl h ↦
          let there = gather_has (concerned_scripts p) [] s h in
          let is : concerns s.0 p ≡ true = sym (met_is s p) ∙ h in
          let mine_is : cond (is_script_among s (add_scripts [] (concerned_scripts p))) (entry_of scripts n s ∷ []) [] ++ later ≡ entry_of scripts n s ∷ later = rw there refl in
          let kept : filter (concerns s.0) (p ∷ ps) ≡ p ∷ filter (concerns s.0) ps = rw is refl in
          ap (sum_by f) (split ∙ mine_is) ∙ sum_by-cons f (entry_of scripts n s) later ∙ ap₂ (λ (x y : ℕ). x + y) shown more
          ∙ sym (sum_by-cons size p (filter (concerns s.0) ps)) ∙ ap (sum_by size) (sym kept)
      | inr h ↦
          let there = gather_only (concerned_scripts p) [] s refl h in
          let is : concerns s.0 p ≡ false = sym (met_is s p) ∙ h in
          let mine_is : cond (is_script_among s (add_scripts [] (concerned_scripts p))) (entry_of scripts n s ∷ []) [] ++ later ≡ later = rw there refl in
          let kept : filter (concerns s.0) (p ∷ ps) ≡ filter (concerns s.0) ps = rw is refl in
          ap (sum_by f) (split ∙ mine_is) ∙ more ∙ ap (sum_by size) (sym kept)
    ]

pub outputs_along : (chain : Chain) (s : Hash32)
    → sum_by (λ (e : ListedEntry). outs_at e.tx (lists chain).txs) (filter (is_of_script (script_number s (lists chain).scripts)) (lists chain).entries) ≡ asked.outputs_of_history chain s.0
outputs_along chain s = outs_along s (scripts_of (positions chain)) [] 0 0 0 (positions chain) refl (all_met (positions chain))

two_more_each : (txs : List ListedTx) (es : List ListedEntry) → sum_by (coin_rows txs) es ≡ sum_by entry_rows es + sum_by (λ (e : ListedEntry). outs_at e.tx txs) es
two_more_each txs [] = refl
two_more_each txs (e ∷ es) =
    let a = sum_by-cons (coin_rows txs) e es in
    let b = sum_by-cons entry_rows e es in
    let c = sum_by-cons (λ (u : ListedEntry). outs_at u.tx txs) e es in
    let rest = two_more_each txs es in
    omega (arith, a, b, c, rest)

pub unspent_rows : (chain : Chain) (s : Hash32)
    → sum_by (coin_rows (lists chain).txs) (filter (is_of_script (script_number s (lists chain).scripts)) (lists chain).entries)
    ≡ 2 * length (history chain s.0) + asked.outputs_of_history chain s.0
unspent_rows chain s =
    let l = lists chain in
    two_more_each l.txs (filter (is_of_script (script_number s l.scripts)) l.entries) ∙ ap₂ (λ (x y : ℕ). x + y) (history_rows chain s) (outputs_along chain s)
