-- The last transaction is taken back: the lists are those before it.
use Rattle.std.proofs.Common.{◌≡◌, inl, inr, ℕ, zero, suc, ◌+◌, ◌-◌, ◌<◌, true, false, List, [], ◌∷◌, ◌++◌, length, map, Option, None, Some, option_to_list, refl, ap, sym, ◌∙◌, append_assoc, append-nil, arith, length-append, eq-eqb}
use Rattle.std.proofs.lemmas.Bool.{cases_Bool}
use Rattle.std.proofs.lemmas.List.{map-append, length-map, get_or_at, take_at}
use Rattle.std.specs.List.{AllByRecursion}
use Rattle.el_base.specs.declared.hash.Hash32.{Hash32}
use Rattle.el_tx.specs.declared.types.Outpoint.{Outpoint}
use Rattle.el_tx.specs.declared.types.TxIn.{TxIn}
use Rattle.el_tx.specs.declared.types.TxOut.{TxOut}
use Rattle.el_chain.specs.Chains.{zero_hash}
use Rattle.el_chain.specs.Coins.{is_coin_of, coin_made}
use Rattle.el_chain.specs.CoinLaws.{coins_made}
use Rattle.el_chain.specs.Faults.{has_coin, missing_input}
use Rattle.el_chain.proofs.CoinLists.{same_gives}
use Rattle.el_tables.specs.Lists.{ListedTx, ListedOut, ListedEntry, Lists, State, is_unspent, output_number, unspent_at, with_state}
use Rattle.el_tables.specs.Lists.State.{Unspent, Spent, Buried}
use Rattle.el_tables.specs.ChainLists.{Output, output, listed_out, spent_numbers}
use Rattle.el_tables.specs.Disconnecting.{but_last, last, times, is_buried_by, buried_at, spent_at, unbury, take_back_output, unspend}
use Rattle.el_tables.proofs.Outputs.{coins_of}
use Rattle.el_tables.proofs.Names.{OnlyAt, NamesBy, Names, settle, settle_none, settle_at, dead_at, names_settled, coins_settled, none_coins, at_within}
use Rattle.el_tables.proofs.Steps.{settle_inputs, bury_outputs, lists_with, none_of, state_front, length_state}

-- 1. The last

pub but_last_is : {X : Type 0} (xs : List X) (x : X) → but_last (xs ++ x ∷ []) ≡ xs
but_last_is [] x = refl
but_last_is (y ∷ []) x = refl
but_last_is (y ∷ z ∷ zs) x = ap (λ l. y ∷ l) (but_last_is (z ∷ zs) x)

pub last_is : {X : Type 0} (xs : List X) (x : X) → last (xs ++ x ∷ []) ≡ Some x
last_is [] x = refl
last_is (y ∷ []) x = refl
last_is (y ∷ z ∷ zs) x = last_is (z ∷ zs) x

-- 2. States

state_back : (s : State) (k : ℕ) (rows : List ListedOut) → unspent_at k rows ≡ true → with_state Unspent k (with_state s k rows) ≡ rows
state_back s k [] u = refl
state_back s zero (x ∷ xs) u = ap (λ (t : State). record x { state = t } ∷ xs) (sym (is_it x.state u))
  where
    is_it : (t : State) → is_unspent t ≡ true → t ≡ Unspent
    is_it Unspent e = refl
    is_it (Spent n) e = absurd (wrong e)
      where
        wrong : false ≡ true → ⊥
        wrong f = cc
    is_it (Buried n) e = absurd (wrong e)
      where
        wrong : false ≡ true → ⊥
        wrong f = cc
state_back s (suc k) (x ∷ xs) u = ap (λ (l : List ListedOut). x ∷ l) (state_back s k xs u)

buried_set : (m k : ℕ) (rows : List ListedOut) → unspent_at k rows ≡ true → buried_at m k (with_state (Buried m) k rows) ≡ true
buried_set m k [] u = u
buried_set m zero (x ∷ xs) u = eq-eqb m m refl
buried_set m (suc k) (x ∷ xs) u = buried_set m k xs u

spent_set : (m k : ℕ) (rows : List ListedOut) → unspent_at k rows ≡ true → spent_at k (with_state (Spent m) k rows) ≡ true
spent_set m k [] u = u
spent_set m zero (x ∷ xs) u = refl
spent_set m (suc k) (x ∷ xs) u = spent_set m k xs u

-- 3. Outputs

-- those that the transaction buried have an index below
abbrev pub FreeFrom : ℕ → ℕ → List Output → Type 0
FreeFrom m index xs = AllByRecursion (λ (x : Output). is_buried_by m x.state ≡ true → x.coin.outpoint.index < index) xs

free_settled : (m index : ℕ) (o : Outpoint) (xs : List Output) → o.index ≡ index → FreeFrom m index xs → FreeFrom m (index + 1) (map (settle (Buried m) o) xs)
free_settled m index o [] at free = tt
free_settled m index o (x ∷ xs) at free = (here, free_settled m index o xs at free.1)
  where
    here : is_buried_by m (settle (Buried m) o x).state ≡ true → x.coin.outpoint.index < index + 1
    here h = elim (cases_Bool (is_coin_of o x.coin)) [
      | inl e ↦ let same = ap (λ (p : Outpoint). p.index) (same_gives x.coin.outpoint o e) in omega arith
      | inr e ↦ let old = rw e at h in let lt = free.0 old in omega arith
    ]

not_buried : (m index k : ℕ) (o : Outpoint) (scripts : List Hash32) (xs : List Output) → o.index ≡ index → FreeFrom m index xs → OnlyAt k o xs
    → buried_at m k (map (listed_out scripts) xs) ≡ false
not_buried m index k o scripts [] at free only = absurd only
not_buried m index zero o scripts (x ∷ xs) at free only = elim (cases_Bool (is_buried_by m x.state)) [
  | inl e ↦ let lt = free.0 e in let same = ap (λ (p : Outpoint). p.index) (same_gives x.coin.outpoint o only.0) in absurd (omega arith)
  | inr e ↦ e
]
not_buried m index (suc k) o scripts (x ∷ xs) at free only = not_buried m index k o scripts xs at free.1 only.1

buried_front : (m k : ℕ) (xs ys : List ListedOut) → k < length xs → buried_at m k (xs ++ ys) ≡ buried_at m k xs
buried_front m k [] ys lt = absurd (omega arith)
buried_front m zero (x ∷ xs) ys lt = refl
buried_front m (suc k) (x ∷ xs) ys lt = buried_front m k xs ys (omega arith)

unburied_case : (m index : ℕ) (o : Outpoint) (scripts : List Hash32) (xs new : List Output) → o.index ≡ index → FreeFrom m index xs → (r : Option ℕ) → NamesBy o r xs
    → unbury m r (map (listed_out scripts) (map (settle (Buried m) o) xs ++ new)) ≡ map (listed_out scripts) (xs ++ new)
unburied_case m index o scripts xs new at free None h = let same = settle_none (Buried m) o xs h in rw same refl
unburied_case m index o scripts xs new at free (Some k) h =
    let rows = map (listed_out scripts) xs in
    let more = map (listed_out scripts) new in
    let whole = map-append (listed_out scripts) xs new in
    let after = map-append (listed_out scripts) (map (settle (Buried m) o) xs) new in
    let within = at_within k o xs h in
    let long = length-map xs (listed_out scripts) in
    let lt : k < length rows = omega arith in
    elim (cases_Bool (unspent_at k rows)) [
      | inl u ↦
          let moved = settle_at (Buried m) k o scripts xs h u in
          let set_long : k < length (with_state (Buried m) k rows) = let same = length_state (Buried m) k rows in omega arith in
          let is_buried = buried_front m k (with_state (Buried m) k rows) more set_long ∙ buried_set m k rows u in
          let back = state_front Unspent k (with_state (Buried m) k rows) more set_long in
          let same = state_back (Buried m) k rows u in
          rw (after, whole, moved, is_buried, back, same) refl
      | inr u ↦
          let same = settle_none (Buried m) o xs (dead_at k o scripts xs h u) in
          let is_buried = buried_front m k rows more lt ∙ not_buried m index k o scripts xs at free h in
          rw (same, whole, is_buried) refl
    ]

one_back : (ts : List ListedTx) (t : ListedTx) (height index : ℕ) (o : TxOut) (xs new : List Output) (ins : List ℕ) (scripts : List Hash32) (es : List ListedEntry)
    → Names ts xs → FreeFrom (length ts) index xs → t.first_out ≡ length xs → length new ≡ index
    → take_back_output (lists_with ts t (map (settle (Buried (length ts)) (record { txid = t.txid; index = index })) xs)
    (new ++ output (length ts) [] (coin_made t.txid height index o) ∷ []) ins scripts es)
    ≡ lists_with ts t xs new ins scripts es
one_back ts t height index o xs new ins scripts es names free first long =
    let m = length ts in
    let point : Outpoint = record { txid = t.txid; index = index } in
    let left = map (settle (Buried m) point) xs in
    let fresh = output m [] (coin_made t.txid height index o) in
    let joined : map (listed_out scripts) (left ++ (new ++ fresh ∷ [])) ≡ map (listed_out scripts) (left ++ new) ++ listed_out scripts fresh ∷ [] =
    ap (map (listed_out scripts)) (sym (append_assoc left new (fresh ∷ []))) ∙ map-append (listed_out scripts) (left ++ new) (fresh ∷ []) in
    let is_last = last_is (map (listed_out scripts) (left ++ new)) (listed_out scripts fresh) in
    let others = but_last_is (map (listed_out scripts) (left ++ new)) (listed_out scripts fresh) in
    let ids = map-append (λ (u : ListedTx). u.txid) ts (t ∷ []) in
    let id = get_or_at (map (λ (u : ListedTx). u.txid) ts) t.txid [] zero_hash m (length-map ts (λ (u : ListedTx). u.txid)) in
    let firsts = map-append (λ (u : ListedTx). u.first_out) ts (t ∷ []) in
    let f = get_or_at (map (λ (u : ListedTx). u.first_out) ts) t.first_out [] 0 m (length-map ts (λ (u : ListedTx). u.first_out)) in
    let before = take_at ts (t ∷ []) m refl in
    let count = length-map (left ++ new) (listed_out scripts) in
    let both = length-append left new in
    let same_long = length-map xs (settle (Buried m) point) in
    let at : length (map (listed_out scripts) (left ++ new)) - t.first_out ≡ index = omega arith in
    let back = unburied_case m index point scripts xs new refl free (output_number point ts) (names point) in
    rw (joined, is_last, others, ids, id, firsts, f, before, at) (ap (λ (l : List ListedOut). record { txs = ts ++ t ∷ []; outs = l; ins = ins; scripts = scripts; entries = es }) back)

pub outputs_back : (os : List TxOut) (index height : ℕ) (ts : List ListedTx) (t : ListedTx) (xs new : List Output) (ins : List ℕ) (scripts : List Hash32) (es : List ListedEntry)
    → Names ts xs → FreeFrom (length ts) index xs → t.first_out ≡ length xs → length new ≡ index
    → times (length os) take_back_output (lists_with ts t (bury_outputs (length ts) t.txid index os xs) (new ++ map (output (length ts) []) (coins_made t.txid height index os)) ins scripts es)
    ≡ lists_with ts t xs new ins scripts es
outputs_back [] index height ts t xs new ins scripts es names free first long = ap (λ (l : List Output). lists_with ts t xs l ins scripts es) (append-nil new)
outputs_back (o ∷ os) index height ts t xs new ins scripts es names free first long =
    let m = length ts in
    let point : Outpoint = record { txid = t.txid; index = index } in
    let left = map (settle (Buried m) point) xs in
    let fresh = output m [] (coin_made t.txid height index o) in
    let made = map (output m []) (coins_made t.txid height (index + 1) os) in
    let long_new = length-append new (fresh ∷ []) in
    let long_left = length-map xs (settle (Buried m) point) in
    let rest = outputs_back os (index + 1) height ts t left (new ++ fresh ∷ []) ins scripts es (names_settled (Buried m) point ts xs refl names)
    (free_settled m index point xs refl free) (omega arith) (omega arith) in
    ap (λ (l : List Output). take_back_output (times (length os) take_back_output (lists_with ts t (bury_outputs m t.txid (index + 1) os left) l ins scripts es)))
    (sym (append_assoc new (fresh ∷ []) made))
    ∙ ap take_back_output rest
    ∙ one_back ts t height index o xs new ins scripts es names free first long

-- 4. Inputs

abbrev pub lists_of_parts : List ListedTx → List Output → List ℕ → List Hash32 → List ListedEntry → Lists
lists_of_parts us xs ins scripts es = record { txs = us; outs = map (listed_out scripts) xs; ins = ins; scripts = scripts; entries = es }

input_back : (m : ℕ) (i : TxIn) (ts us : List ListedTx) (xs : List Output) (ins : List ℕ) (scripts : List Hash32) (es : List ListedEntry)
    → has_coin i.from (coins_of xs) ≡ true → (r : Option ℕ) → NamesBy i.from r xs
    → unspend (lists_of_parts us (map (settle (Spent m) i.from) xs) (ins ++ option_to_list r) scripts es) ≡ lists_of_parts us xs ins scripts es
input_back m i ts us xs ins scripts es has None h = absurd (wrong (sym has ∙ none_of i.from (coins_of xs) (none_coins i.from xs h)))
  where
    wrong : true ≡ false → ⊥
    wrong e = cc
input_back m i ts us xs ins scripts es has (Some k) h =
    let is_last = last_is ins k in
    let others = but_last_is ins k in
    elim (cases_Bool (unspent_at k (map (listed_out scripts) xs))) [
      | inl u ↦
          let moved = settle_at (Spent m) k i.from scripts xs h u in
          let back = state_back (Spent m) k (map (listed_out scripts) xs) u in
          let was = spent_set m k (map (listed_out scripts) xs) u in
          rw (is_last, others, moved, was, back) refl
      | inr u ↦ absurd (wrong (sym has ∙ none_of i.from (coins_of xs) (none_coins i.from xs (dead_at k i.from scripts xs h u))))
    ]
  where
    wrong : true ≡ false → ⊥
    wrong e = cc

pub inputs_back : (m : ℕ) (is : List TxIn) (at : ℕ) (ts us : List ListedTx) (xs : List Output) (ins : List ℕ) (scripts : List Hash32) (es : List ListedEntry)
    → Names ts xs → missing_input at is (coins_of xs) ≡ None
    → times (length is) unspend (lists_of_parts us (settle_inputs m is xs) (ins ++ spent_numbers ts is) scripts es) ≡ lists_of_parts us xs ins scripts es
inputs_back m [] at ts us xs ins scripts es names none = ap (λ (l : List ℕ). lists_of_parts us xs l scripts es) (append-nil ins)
inputs_back m (i ∷ is) at ts us xs ins scripts es names none = elim (cases_Bool (has_coin i.from (coins_of xs))) [
  | inl h ↦
      let left = coins_settled (Spent m) i.from xs refl in
      let others = rw h at none in
      let rest = inputs_back m is (at + 1) ts us (map (settle (Spent m) i.from) xs) (ins ++ option_to_list (output_number i.from ts)) scripts es
      (names_settled (Spent m) i.from ts xs refl names) (rw left others) in
      ap (λ (l : List ℕ). unspend (times (length is) unspend (lists_of_parts us (settle_inputs m is (map (settle (Spent m) i.from) xs)) l scripts es)))
      (sym (append_assoc ins (option_to_list (output_number i.from ts)) (spent_numbers ts is)))
      ∙ ap unspend rest
      ∙ input_back m i ts us xs ins scripts es h (output_number i.from ts) (names i.from)
  | inr h ↦ let bad = rw h at none in absurd (wrong bad)
]
  where
    wrong : Some at ≡ None → ⊥
    wrong f = cc
