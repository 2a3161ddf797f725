-- Who spent the newest output with an outpoint, position by position, is what the lists tell.
use Rattle.std.proofs.Common.{◌≡◌, inl, inr, ℕ, zero, suc, ◌+◌, Bool, true, false, cond, List, [], ◌∷◌, ◌++◌, length, map, fold, slice_get, Option, None, Some, option_map, option_and_then, refl, ap, sym, ◌∙◌, arith, append_assoc, append-nil}
use Rattle.std.proofs.lemmas.Bool.{cases_Bool, or_from, true≢false}
use Rattle.std.proofs.lemmas.List.Sums.{fold-append}
use Rattle.std.specs.List.{list_any}
use Rattle.std.specs.Option.{option_or}
use Rattle.el_tx.specs.Hashing.{same_outpoint, is_coinbase}
use Rattle.el_tx.specs.declared.types.Outpoint.{Outpoint}
use Rattle.el_tx.specs.declared.types.TxIn.{TxIn}
use Rattle.el_tx.specs.declared.types.Tx.{Tx}
use Rattle.el_chain.specs.RowCounts.{spending_inputs}
use Rattle.el_chain.specs.declared.coin.Coin.{Coin}
use Rattle.el_chain.specs.declared.entry.Entry.{Entry}
use Rattle.el_chain.specs.CoinLaws.{takes}
use Rattle.el_chain.specs.Faults.{has_coin, missing_input, IsGood}
use Rattle.el_chain.specs.Chains.{Chain}
use Rattle.el_chain.specs.History.{Position, positions, entry}
use Rattle.el_tables.specs.Lists.{ListedTx, ListedOut, State, is_unspent, output_number, unspent_at, coin_number}
use Rattle.el_tables.specs.Lists.State.{Unspent, Spent, Buried}
use Rattle.el_tables.specs.ChainLists.{makes_outpoint, state_after, outputs, txs_from, scripts_of, listed_out, lists_of, lists}
use Rattle.el_tables.specs.Queries.{newest_state, spender_by, listed_spender, spent_after}
use Rattle.el_tables.proofs.Outputs.{coins_of, moved, fate_more}
use Rattle.el_tables.proofs.Names.{Found, none_coins, found}
use Rattle.el_tables.proofs.Numbering.{names_all}
use Rattle.el_tables.proofs.Steps.{none_of, named_of}
use Rattle.el_tables.proofs.Connects.{ApartFrom, not_named, next_position}
use Rattle.el_tables.proofs.Spenders.{states_agree}
use Rattle.el_tables.proofs.WholeBlocks.{good_has}

-- 1. One position more

newest_more : (o : Outpoint) (n m : ℕ) (ps : List Position) (p : Position) → m ≡ n + length ps
    → newest_state o n (ps ++ p ∷ []) ≡ cond (makes_outpoint o p) (Some Unspent) (option_map (moved o m p) (newest_state o n ps))
newest_more o n m [] p at = refl
newest_more o n m (q ∷ qs) p at =
    let rest = newest_more o (n + 1) m qs p (omega arith) in
    let one = fate_more o (n + 1) m qs p (omega arith) in
    rw (rest, one) (by (makes_outpoint o p) (makes_outpoint o q) (newest_state o (n + 1) qs) (state_after o (n + 1) qs))
  where
    by : (a b : Bool) (r : Option State) (s : State)
        → option_or (cond a (Some Unspent) (option_map (moved o m p) r)) (cond b (Some (moved o m p s)) None)
        ≡ cond a (Some Unspent) (option_map (moved o m p) (option_or r (cond b (Some s) None)))
    by true b r s = refl
    by false true None s = refl
    by false false None s = refl
    by false b (Some t) s = refl

-- 2. Where a transaction takes the outpoint, its newest output is unspent

apart_none : (o : Outpoint) (is : List TxIn) → ApartFrom o is → list_any (λ (i : TxIn). same_outpoint o i.from) is ≡ false
apart_none o [] h = refl
apart_none o (i ∷ is) h = or_from (same_outpoint o i.from) (list_any (λ (j : TxIn). same_outpoint o j.from) is) h.0 (apart_none o is h.1)

taken_there : (o : Outpoint) (t : Tx) (cs : List Coin) → missing_input 0 (spending_inputs t) cs ≡ None → takes o t ≡ true → has_coin o cs ≡ true
taken_there o t cs none h = elim (cases_Bool (has_coin o cs)) [
  | inl e ↦ e
  | inr e ↦ elim (cases_Bool (is_coinbase t)) [
    | inl k ↦ let bad = rw k at h in absurd (true≢false (sym bad))
    | inr k ↦
        let rest = rw k at none in
        let apart = apart_none o t.inputs (not_named o t.inputs 0 cs rest e) in
        let bad = rw (k, apart) at h in
        absurd (true≢false (sym bad))
  ]
]

state_at : (k : ℕ) (outs : List ListedOut) → unspent_at k outs ≡ true → option_map (λ (x : ListedOut). x.state) (slice_get outs k) ≡ Some Unspent
state_at k [] u = absurd (true≢false (sym u))
state_at zero (x ∷ xs) u = ap (λ (s : State). Some s) (is_it x.state u)
  where
    is_it : (s : State) → is_unspent s ≡ true → s ≡ Unspent
    is_it Unspent e = refl
    is_it (Spent n) e = absurd (true≢false (sym e))
    is_it (Buried n) e = absurd (true≢false (sym e))
state_at (suc k) (x ∷ xs) u = state_at k xs u

there_case : (o : Outpoint) (ps : List Position) (r : Option ℕ) → coin_number o (txs_from 0 0 ps) (map (listed_out (scripts_of ps)) (outputs ps)) ≡ r
    → Found o (scripts_of ps) (outputs ps) r → has_coin o (coins_of (outputs ps)) ≡ true → newest_state o 0 ps ≡ Some Unspent
there_case o ps None e f h = absurd (true≢false (sym h ∙ none_of o (coins_of (outputs ps)) (none_coins o (outputs ps) f)))
there_case o ps (Some k) e f h =
    let name = named_of (map (listed_out (scripts_of ps)) (outputs ps)) (output_number o (txs_from 0 0 ps)) k e in
    let state = state_at k (map (listed_out (scripts_of ps)) (outputs ps)) f.there in
    states_agree ps o ∙ rw name state

newest_there : (o : Outpoint) (ps : List Position) → has_coin o (coins_of (outputs ps)) ≡ true → newest_state o 0 ps ≡ Some Unspent
newest_there o ps h =
    there_case o ps (coin_number o (txs_from 0 0 ps) (map (listed_out (scripts_of ps)) (outputs ps))) refl
    (found o (txs_from 0 0 ps) (scripts_of ps) (outputs ps) (names_all ps)) h

-- 3. All positions

-- the position that spent an output, as a history shows it
abbrev pub entry_by : List Position → State → Option Entry
entry_by ps Unspent = None
entry_by ps (Spent n) = option_map entry (slice_get ps n)
entry_by ps (Buried n) = None

-- whatever comes after the positions
abbrev pub TellsSpender : Outpoint → List Position → Type 0
TellsSpender o ps = (later : List Position) → fold (spent_after o) None ps ≡ option_and_then (entry_by (ps ++ later)) (newest_state o 0 ps)

slice_at : {X : Type 0} (xs ys : List X) (x : X) → slice_get (xs ++ x ∷ ys) (length xs) ≡ Some x
slice_at [] ys x = refl
slice_at (z ∷ zs) ys x = slice_at zs ys x

moved_same : (m : ℕ) (p : Position) (o : Outpoint) (s : State) → takes o p.tx ≡ false → makes_outpoint o p ≡ false → moved o m p s ≡ s
moved_same m p o Unspent a b = rw (a, b) refl
moved_same m p o (Spent k) a b = refl
moved_same m p o (Buried k) a b = refl

mapped_same : (m : ℕ) (p : Position) (o : Outpoint) (r : Option State) → takes o p.tx ≡ false → makes_outpoint o p ≡ false → option_map (moved o m p) r ≡ r
mapped_same m p o None a b = refl
mapped_same m p o (Some s) a b = ap (λ (t : State). Some t) (moved_same m p o s a b)

pub tells_more : (o : Outpoint) (ps : List Position) (p : Position) → missing_input 0 (spending_inputs p.tx) (coins_of (outputs ps)) ≡ None
    → TellsSpender o ps → TellsSpender o (ps ++ p ∷ [])
tells_more o ps p none tells later =
    let folded = fold-append (spent_after o) None ps (p ∷ []) in
    let next = newest_more o 0 (length ps) ps p (omega arith) in
    let joined = append_assoc ps (p ∷ []) later in
    let before = tells (p ∷ later) in
    elim (cases_Bool (makes_outpoint o p)) [
      | inl a ↦ rw (folded, next, a) refl
      | inr a ↦ elim (cases_Bool (takes o p.tx)) [
        | inl b ↦
            let there = newest_there o ps (taken_there o p.tx (coins_of (outputs ps)) none b) in
            let at = slice_at ps later p in
            rw (folded, next, a, there, b, joined, at) refl
        | inr b ↦
            let same = mapped_same (length ps) p o (newest_state o 0 ps) b a in
            rw (folded, next, a, b, same, joined) before
      ]
    ]

-- 4. In the lists

txs_at : (a b n : ℕ) (ps : List Position)
    → option_map (λ (t : ListedTx). record { height = t.height; txid = t.txid }) (slice_get (txs_from a b ps) n) ≡ option_map entry (slice_get ps n)
txs_at a b n [] = refl
txs_at a b zero (p ∷ ps) = refl
txs_at a b (suc n) (p ∷ ps) = txs_at (a + length p.tx.outputs) (b + length (spending_inputs p.tx)) n ps

by_lists : (ps : List Position) (r : Option State) → option_and_then (entry_by ps) r ≡ option_and_then (spender_by (txs_from 0 0 ps)) r
by_lists ps None = refl
by_lists ps (Some Unspent) = refl
by_lists ps (Some (Spent n)) = sym (txs_at 0 0 n ps)
by_lists ps (Some (Buried n)) = refl

pub lists_tell : (o : Outpoint) (ps : List Position) → TellsSpender o ps → fold (spent_after o) None ps ≡ listed_spender o (lists_of ps)
lists_tell o ps tells =
    tells [] ∙ ap (λ (qs : List Position). option_and_then (entry_by qs) (newest_state o 0 ps)) (append-nil ps)
    ∙ by_lists ps (newest_state o 0 ps) ∙ ap (option_and_then (spender_by (txs_from 0 0 ps))) (states_agree ps o)

pub spender_answers : (chain : Chain) (o : Outpoint) → IsGood chain → fold (spent_after o) None (positions chain) ≡ listed_spender o (lists chain)
spender_answers chain o good =
    lists_tell o (positions chain)
    (good_has (TellsSpender o) (λ later. refl) (λ ps height pos start t tells none. tells_more o ps (next_position height pos start t ps) none tells) chain good)
