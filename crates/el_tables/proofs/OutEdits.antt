-- The rows after `spend_output`, `add_output`, `take_back_output` and `unspend`.
use Rattle.std.proofs.Common.{◌≡◌, inl, inr, ℕ, zero, suc, ◌+◌, ◌-◌, true, false, List, [], ◌∷◌, ◌++◌, take, set, get_or, Option, None, Some, refl, ap, ap₂, sym, ◌∙◌, arith, eq-eqb, ne_eqb, if◌then◌else◌}
use Rattle.std.proofs.lemmas.Bool.{cases_Bool, true≢false}
use Rattle.el_base.specs.declared.hash.Hash32.{Hash32}
use Rattle.el_tables.specs.Lists.{State, ListedOut, Lists, is_unspent, output_number, unspent_at, with_state, script_at, if_unspent, spend_output, replaced, bury, add_output, held, balance_of}
use Rattle.el_tables.specs.Lists.State.{Unspent, Spent, Buried}
use Rattle.el_tables.specs.ChainLists.{ListedBlock}
use Rattle.el_tables.specs.Disconnecting.{but_last, last, is_buried_by, buried_at, unbury, is_spent, spent_at, give_back, take_back_output, unspend, named_before}
use Rattle.el_tables.specs.Tables.{ScriptRow, Tables, HeadCounts, rows_from, script_row, tables_of}
use Rattle.el_tables.specs.Edits.{no_out, no_row, less, more, coin_gone, coin_back, output_spent, buried, new_out, output_added, out_left, unburied, output_dropped, given_back, input_dropped}
use Rattle.el_tables.proofs.Outputs.{from_front}
use Rattle.el_tables.proofs.TakeBack.{but_last_is, last_is}
use Rattle.el_tables.proofs.Sums.{value_at, balance_less, balance_same, balance_more}
use Rattle.el_tables.proofs.RowLists.{rows_change}

-- 1. The row of a number

state_set : (s : State) (k : ℕ) (xs : List ListedOut) → with_state s k xs ≡ set xs k (record (get_or xs k no_out) { state = s })
state_set s k [] = refl
state_set s zero (x ∷ xs) = refl
state_set s (suc k) (x ∷ xs) = ap (λ (l : List ListedOut). x ∷ l) (state_set s k xs)

pub script_is : (k : ℕ) (xs : List ListedOut) → script_at k xs ≡ (get_or xs k no_out).script
script_is k [] = refl
script_is zero (x ∷ xs) = refl
script_is (suc k) (x ∷ xs) = script_is k xs

pub value_is : (k : ℕ) (xs : List ListedOut) → value_at k xs ≡ (get_or xs k no_out).value
value_is k [] = refl
value_is zero (x ∷ xs) = refl
value_is (suc k) (x ∷ xs) = value_is k xs

pub spent_is : (k : ℕ) (xs : List ListedOut) → spent_at k xs ≡ is_spent (get_or xs k no_out).state
spent_is k [] = refl
spent_is zero (x ∷ xs) = refl
spent_is (suc k) (x ∷ xs) = spent_is k xs

pub buried_is : (by k : ℕ) (xs : List ListedOut) → buried_at by k xs ≡ is_buried_by by (get_or xs k no_out).state
buried_is by k [] = refl
buried_is by zero (x ∷ xs) = refl
buried_is by (suc k) (x ∷ xs) = buried_is by k xs

not_unspent : (s : State) → is_spent s ≡ true → is_unspent s ≡ false
not_unspent Unspent e = absurd (true≢false (sym e))
not_unspent (Spent n) e = refl
not_unspent (Buried n) e = refl

not_there : (by : ℕ) (s : State) → is_buried_by by s ≡ true → is_unspent s ≡ false
not_there by Unspent e = absurd (true≢false (sym e))
not_there by (Spent n) e = refl
not_there by (Buried n) e = refl

pub spent_gone : (k : ℕ) (xs : List ListedOut) → spent_at k xs ≡ true → unspent_at k xs ≡ false
spent_gone k [] e = refl
spent_gone zero (x ∷ xs) e = not_unspent x.state e
spent_gone (suc k) (x ∷ xs) e = spent_gone k xs e

pub buried_gone : (by k : ℕ) (xs : List ListedOut) → buried_at by k xs ≡ true → unspent_at k xs ≡ false
buried_gone by k [] e = refl
buried_gone by zero (x ∷ xs) e = not_there by x.state e
buried_gone by (suc k) (x ∷ xs) e = buried_gone by k xs e

-- 2. Balances where an output is unspent again

pub balance_back : (k j : ℕ) (xs : List ListedOut) → unspent_at k xs ≡ false → script_at k xs ≡ j → balance_of j (with_state Unspent k xs) ≡ balance_of j xs + value_at k xs
balance_back k j [] gone is = refl
balance_back zero j (x ∷ xs) gone is =
    let self = eq-eqb x.script j is in
    rw (self, gone) (let e : x.value + balance_of j xs ≡ 0 + balance_of j xs + x.value = omega arith in e)
balance_back (suc k) j (x ∷ xs) gone is = let rest = balance_back k j xs gone is in omega arith

balance_kept : (k j : ℕ) (xs : List ListedOut) → (script_at k xs ≡ j → ⊥) → balance_of j (with_state Unspent k xs) ≡ balance_of j xs
balance_kept k j [] other = refl
balance_kept zero j (x ∷ xs) other = let apart = ne_eqb x.script j other in rw apart refl
balance_kept (suc k) j (x ∷ xs) other = let rest = balance_kept k j xs other in rw rest refl

-- 3. One balance changes

balance_row : (c : ℕ) (l : Lists) (xs : List ListedOut) (h : ScriptRow → ScriptRow) (n : ℕ)
    → ((i : ℕ) → (i ≡ n → ⊥) → balance_of i xs ≡ balance_of i l.outs)
    → ((s : Hash32) → script_row c (record l { outs = xs }) n s ≡ h (script_row c l n s))
    → rows_from (script_row c (record l { outs = xs })) 0 l.scripts ≡ set (rows_from (script_row c l) 0 l.scripts) n (h (get_or (rows_from (script_row c l) 0 l.scripts) n no_row))
balance_row c l xs h n same new =
    rows_change (script_row c l) (script_row c (record l { outs = xs })) h no_row 0 n n l.scripts (omega arith)
    (λ i s other. let e = same i other in ap (λ (b : ℕ). record (script_row c l i s) { balance = b }) e) new

-- with another state and another balance
abbrev with_rows : HeadCounts → List ListedBlock → Lists → List ListedOut → List ScriptRow → Tables
with_rows counts bs l os rs = record (tables_of counts bs l) { outs = os; scripts = rs }

pub coin_gone_rows : (counts : HeadCounts) (bs : List ListedBlock) (l : Lists) (s : State) (k : ℕ) → is_unspent s ≡ false → unspent_at k l.outs ≡ true
    → tables_of counts bs (record l { outs = with_state s k l.outs }) ≡ coin_gone s k (tables_of counts bs l)
coin_gone_rows counts bs l s k gone there =
    let c = counts.scripts in
    let tb = tables_of counts bs l in
    let x = get_or l.outs k no_out in
    let script = script_is k l.outs in
    let value = value_is k l.outs in
    let falls = balance_less s k x.script l.outs gone there script in
    let new : balance_of x.script (with_state s k l.outs) ≡ balance_of x.script l.outs - x.value = omega arith in
    let rows = balance_row c l (with_state s k l.outs) (less x.value) x.script
    (λ i other. balance_same s k i l.outs gone (λ q. other (sym q ∙ script)))
    (λ h. ap (λ (b : ℕ). record (script_row c l x.script h) { balance = b }) new) in
    ap₂ (with_rows counts bs l) (state_set s k l.outs) rows

pub coin_back_rows : (counts : HeadCounts) (bs : List ListedBlock) (l : Lists) (k : ℕ) → unspent_at k l.outs ≡ false
    → tables_of counts bs (record l { outs = with_state Unspent k l.outs }) ≡ coin_back k (tables_of counts bs l)
coin_back_rows counts bs l k gone =
    let c = counts.scripts in
    let x = get_or l.outs k no_out in
    let script = script_is k l.outs in
    let value = value_is k l.outs in
    let rises = balance_back k x.script l.outs gone script in
    let new : balance_of x.script (with_state Unspent k l.outs) ≡ balance_of x.script l.outs + x.value = omega arith in
    let rows = balance_row c l (with_state Unspent k l.outs) (more x.value) x.script
    (λ i other. balance_kept k i l.outs (λ q. other (sym q ∙ script)))
    (λ h. ap (λ (b : ℕ). record (script_row c l x.script h) { balance = b }) new) in
    ap₂ (with_rows counts bs l) (state_set Unspent k l.outs) rows

-- what the script of an output holds by it
abbrev held_by : ListedOut → ℕ
held_by x = if is_unspent x.state then x.value else 0

held_own : (x : ListedOut) → held x.script x ≡ held_by x
held_own x = let self = eq-eqb x.script x.script refl in rw self refl

held_other : (j : ℕ) (x : ListedOut) → (j ≡ x.script → ⊥) → held j x ≡ 0
held_other j x other = let apart = ne_eqb x.script j (λ e. other (sym e)) in rw apart refl

out_more_rows : (counts : HeadCounts) (bs : List ListedBlock) (l : Lists) (x : ListedOut) → x.state ≡ Unspent
    → tables_of counts bs (record l { outs = l.outs ++ x ∷ [] }) ≡ output_added x (tables_of counts bs l)
out_more_rows counts bs l x there =
    let c = counts.scripts in
    let own = balance_more x.script l.outs x in
    let by : held_by x ≡ x.value = rw there refl in
    let mine = held_own x in
    let new : balance_of x.script (l.outs ++ x ∷ []) ≡ balance_of x.script l.outs + x.value = omega arith in
    let rows = balance_row c l (l.outs ++ x ∷ []) (more x.value) x.script
    (λ i other. let m = balance_more i l.outs x in let h = held_other i x other in omega arith)
    (λ h. ap (λ (b : ℕ). record (script_row c l x.script h) { balance = b }) new) in
    ap (with_rows counts bs l (l.outs ++ x ∷ [])) rows

out_less_rows : (counts : HeadCounts) (bs : List ListedBlock) (l : Lists) (xs : List ListedOut) (x : ListedOut)
    → tables_of counts bs (record l { outs = xs }) ≡ out_left x (tables_of counts bs (record l { outs = xs ++ x ∷ [] }))
out_less_rows counts bs l xs x =
    let c = counts.scripts in
    let old : Lists = record l { outs = xs ++ x ∷ [] } in
    let own = balance_more x.script xs x in
    let mine = held_own x in
    let new : balance_of x.script xs ≡ balance_of x.script (xs ++ x ∷ []) - held_by x = omega arith in
    let rows = balance_row c old xs (less (held_by x)) x.script
    (λ i other. let m = balance_more i xs x in let h = held_other i x other in omega arith)
    (λ h. ap (λ (b : ℕ). record (script_row c old x.script h) { balance = b }) new) in
    ap₂ (with_rows counts bs old) (sym (but_last_is xs x)) rows

-- 4. The steps

pub take_out_rows : (counts : HeadCounts) (bs : List ListedBlock) (l : Lists) (by k : ℕ) → unspent_at k l.outs ≡ true
    → tables_of counts bs (spend_output by k l) ≡ output_spent by k (tables_of counts bs l)
take_out_rows counts bs l by k there =
    ap (λ (t : Tables). record t { ins = l.ins ++ k ∷ [] }) (coin_gone_rows counts bs l (Spent by) k refl there)

pub is_there : (xs : List ListedOut) (names : Option ℕ) (k : ℕ) → Rattle.std.specs.Prelude.option_and_then (if_unspent xs) names ≡ Some k → unspent_at k xs ≡ true
is_there xs None k e = absurd (none_some e)
  where
    none_some : None ≡ Some k → ⊥
    none_some q = cc
is_there xs (Some j) k e = elim (cases_Bool (unspent_at j xs)) [
  | inl h ↦ let same = rw h at e in let at : j ≡ k = cc in ap (λ (i : ℕ). unspent_at i xs) (sym at) ∙ h
  | inr h ↦ let same = rw h at e in absurd (none_some same)
]
  where
    none_some : None ≡ Some k → ⊥
    none_some q = cc

pub buried_rows : (counts : HeadCounts) (bs : List ListedBlock) (l : Lists) (by : ℕ) (r : Option ℕ) → ((k : ℕ) → r ≡ Some k → unspent_at k l.outs ≡ true)
    → tables_of counts bs (record l { outs = bury by r l.outs }) ≡ buried by r (tables_of counts bs l)
buried_rows counts bs l by None there = refl
buried_rows counts bs l by (Some k) there = coin_gone_rows counts bs l (Buried by) k refl (there k refl)

pub add_out_rows : (counts : HeadCounts) (bs : List ListedBlock) (l : Lists) (tx index value script : ℕ)
    → tables_of counts bs (add_output tx index value script l)
    ≡ output_added (new_out tx value script) (buried tx (replaced tx index l) (tables_of counts bs l))
add_out_rows counts bs l tx index value script =
    let x = new_out tx value script in
    let r = replaced tx index l in
    out_more_rows counts bs (record l { outs = bury tx r l.outs }) x refl
    ∙ ap (output_added x) (buried_rows counts bs l tx r (λ k e. is_there l.outs (output_number (record { txid = Rattle.el_tables.specs.Lists.txid_at tx l.txs; index = index }) (take tx l.txs)) k e))

pub add_out_alone : (counts : HeadCounts) (bs : List ListedBlock) (l : Lists) (tx index value script : ℕ) → replaced tx index l ≡ None
    → tables_of counts bs (add_output tx index value script l) ≡ output_added (new_out tx value script) (tables_of counts bs l)
add_out_alone counts bs l tx index value script none =
    add_out_rows counts bs l tx index value script ∙ ap (λ (r : Option ℕ). output_added (new_out tx value script) (buried tx r (tables_of counts bs l))) none

pub add_out_buries : (counts : HeadCounts) (bs : List ListedBlock) (l : Lists) (tx index value script k : ℕ) → replaced tx index l ≡ Some k
    → tables_of counts bs (add_output tx index value script l) ≡ output_added (new_out tx value script) (coin_gone (Buried tx) k (tables_of counts bs l))
add_out_buries counts bs l tx index value script k some =
    add_out_rows counts bs l tx index value script ∙ ap (λ (r : Option ℕ). output_added (new_out tx value script) (buried tx r (tables_of counts bs l))) some

pub unbury_rows : (counts : HeadCounts) (bs : List ListedBlock) (l : Lists) (by : ℕ) (r : Option ℕ)
    → tables_of counts bs (record l { outs = unbury by r l.outs }) ≡ unburied by r (tables_of counts bs l)
unbury_rows counts bs l by None = refl
unbury_rows counts bs l by (Some k) =
    let same = buried_is by k l.outs in
    elim (cases_Bool (buried_at by k l.outs)) [
      | inl h ↦ let g : is_buried_by by (get_or l.outs k no_out).state ≡ true = sym same ∙ h in rw (h, g) (coin_back_rows counts bs l k (buried_gone by k l.outs h))
      | inr h ↦ let g : is_buried_by by (get_or l.outs k no_out).state ≡ false = sym same ∙ h in rw (h, g) refl
    ]

pub last_less_rows : (counts : HeadCounts) (bs : List ListedBlock) (l : Lists) (x : ListedOut) → last l.outs ≡ Some x
    → tables_of counts bs (record l { outs = but_last l.outs }) ≡ out_left x (tables_of counts bs l)
last_less_rows counts bs l x = from_front (λ (xs : List ListedOut). last xs ≡ Some x → tables_of counts bs (record l { outs = but_last xs }) ≡ out_left x (tables_of counts bs (record l { outs = xs })))
    (λ e. absurd (none_some e)) (λ xs y before e. step xs y e) l.outs
  where
    none_some : None ≡ Some x → ⊥
    none_some q = cc

    step : (xs : List ListedOut) (y : ListedOut) → last (xs ++ y ∷ []) ≡ Some x
        → tables_of counts bs (record l { outs = but_last (xs ++ y ∷ []) }) ≡ out_left x (tables_of counts bs (record l { outs = xs ++ y ∷ [] }))
    step xs y e =
        let both : Some y ≡ Some x = sym (last_is xs y) ∙ e in
        let same : y ≡ x = cc in
        ap (λ (zs : List ListedOut). tables_of counts bs (record l { outs = zs })) (but_last_is xs y) ∙ out_less_rows counts bs l xs y
        ∙ ap (λ (z : ListedOut). out_left z (tables_of counts bs (record l { outs = xs ++ y ∷ [] }))) same

pub take_back_out_rows : (counts : HeadCounts) (bs : List ListedBlock) (l : Lists)
    → tables_of counts bs (take_back_output l) ≡ output_dropped (named_before (last l.outs) l) (last l.outs) (tables_of counts bs l)
take_back_out_rows counts bs l = from_front (λ (xs : List ListedOut). tables_of counts bs (take_back_output (record l { outs = xs }))
    ≡ output_dropped (named_before (last xs) (record l { outs = xs })) (last xs) (tables_of counts bs (record l { outs = xs }))) refl (λ xs x before. step xs x) l.outs
  where
    step : (xs : List ListedOut) (x : ListedOut) → tables_of counts bs (take_back_output (record l { outs = xs ++ x ∷ [] }))
        ≡ output_dropped (named_before (last (xs ++ x ∷ [])) (record l { outs = xs ++ x ∷ [] })) (last (xs ++ x ∷ [])) (tables_of counts bs (record l { outs = xs ++ x ∷ [] }))
    step xs x =
        let old : Lists = record l { outs = xs ++ x ∷ [] } in
        let names = named_before (Some x) old in
        let found = last_is xs x in
        let front = but_last_is xs x in
        let taken : take_back_output old ≡ record l { outs = unbury x.tx names (but_last (xs ++ x ∷ [])) } = rw found refl in
        ap (tables_of counts bs) taken
        ∙ ap (λ (ys : List ListedOut). tables_of counts bs (record l { outs = unbury x.tx names ys })) front
        ∙ unbury_rows counts bs (record l { outs = xs }) x.tx names
        ∙ ap (unburied x.tx names) (out_less_rows counts bs l xs x)
        ∙ ap (λ (o : Option ListedOut). output_dropped (named_before o old) o (tables_of counts bs old)) (sym found)

pub given_back_rows : (counts : HeadCounts) (bs : List ListedBlock) (l : Lists) (r : Option ℕ)
    → tables_of counts bs (record l { outs = give_back r l.outs }) ≡ given_back r (tables_of counts bs l)
given_back_rows counts bs l None = refl
given_back_rows counts bs l (Some k) =
    let same = spent_is k l.outs in
    elim (cases_Bool (spent_at k l.outs)) [
      | inl h ↦ let g : is_spent (get_or l.outs k no_out).state ≡ true = sym same ∙ h in rw (h, g) (coin_back_rows counts bs l k (spent_gone k l.outs h))
      | inr h ↦ let g : is_spent (get_or l.outs k no_out).state ≡ false = sym same ∙ h in rw (h, g) refl
    ]

pub unspend_rows : (counts : HeadCounts) (bs : List ListedBlock) (l : Lists) → tables_of counts bs (unspend l) ≡ input_dropped (tables_of counts bs l)
unspend_rows counts bs l = ap (λ (t : Tables). record t { ins = but_last l.ins }) (given_back_rows counts bs l (last l.ins))
