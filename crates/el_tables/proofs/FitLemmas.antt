-- The steps keep the numbers of scripts in order; so each step's edit of rows is exact.
use Rattle.std.proofs.Common.{◌≡◌, inl, inr, ℕ, zero, suc, ◌+◌, ◌-◌, ◌<◌, ◌≤◌, ◌==◌, Bool, true, false, cond, List, [], ◌∷◌, ◌++◌, length, map, Option, None, Some, refl, ap, sym, subst, ◌∙◌, arith, eq-eqb, ne_eqb, length-append, if◌then◌else◌}
use Rattle.std.proofs.lemmas.Bool.{cases_Bool, cases_lt, or_parts, or_from, true≢false}
use Rattle.std.specs.List.{list_any}
use Rattle.el_base.specs.declared.hash.Hash32.{Hash32}
use Rattle.el_chain.specs.RowCounts.{is_script_among, add_script, concerned_scripts, add_scripts}
use Rattle.el_chain.specs.Headers.{same_hash}
use Rattle.el_tables.specs.Lists.{State, ListedTx, ListedOut, ListedEntry, Lists, no_lists, with_state, script_number, is_of_script, last_tx_of, is_tx, append_entry, add_entry, balance_of, add_tx, spend_output, add_output, bury, replaced}
use Rattle.el_tables.specs.Lists.State.{Unspent, Spent, Buried}
use Rattle.el_chain.specs.History.{Position, positions}
use Rattle.el_tables.specs.ChainLists.{ListedBlock, Output, outputs, scripts_of, entry_of, entries_from, listed_out, lists}
use Rattle.el_tables.specs.Disconnecting.{but_last, last, unbury, give_back, buried_at, spent_at, take_back_tx, take_back_entry, take_back_output, unspend}
use Rattle.el_tables.specs.Tables.{HeadCounts, greatest_from, greatest, tables_of}
use Rattle.el_tables.specs.Edits.{script_added, entry_dropped}
use Rattle.el_tables.specs.Fits.{after_entry, reached, InOrder, OutsWithin, Once, IsNumbered, Fits}
use Rattle.el_tables.proofs.Outputs.{from_front}
use Rattle.el_tables.proofs.Scripts.{hash_gives, number_next, number_within, gather_keeps, touched, touched_is, scripts_more, entries_more, entries_same, no_tx_yet, all_met, once_longer}
use Rattle.el_tables.proofs.Steps.{AllHave}
use Rattle.el_tables.proofs.Connects.{outputs_have}
use Rattle.el_tables.proofs.Listing.{once_snoc}
use Rattle.el_chain.specs.Chains.{Chain}
use Rattle.el_tables.proofs.TakeBack.{but_last_is, last_is}
use Rattle.el_tables.proofs.ScriptEdits.{IsLastFirst, no_last_tx, touch_new_rows, take_back_entry_rows}

-- 1. Entries in order

after_more : (n : ℕ) (e : ListedEntry) → n ≤ after_entry n e
after_more n e = elim (cases_Bool (e.script == n)) [
  | inl h ↦ rw h (let g : n ≤ suc n = omega arith in g)
  | inr h ↦ rw h (let g : n ≤ n = omega arith in g)
]

reached_more : (n : ℕ) (es : List ListedEntry) → n ≤ reached n es
reached_more n [] = omega arith
reached_more n (e ∷ es) = let a = after_more n e in let b = reached_more (after_entry n e) es in omega arith

pub reached_last : (n : ℕ) (es : List ListedEntry) (e : ListedEntry) → reached n (es ++ e ∷ []) ≡ after_entry (reached n es) e
reached_last n [] e = refl
reached_last n (x ∷ es) e = reached_last (after_entry n x) es e

pub order_last : (n : ℕ) (es : List ListedEntry) (e : ListedEntry) → InOrder n (es ++ e ∷ []) → InOrder n es × (e.script ≤ reached n es)
order_last n [] e h = (tt, h.0)
order_last n (x ∷ es) e h = let rest = order_last (after_entry n x) es e h.1 in ((h.0, rest.0), rest.1)

pub order_grows : (n : ℕ) (es : List ListedEntry) (e : ListedEntry) → InOrder n es → e.script ≤ reached n es → InOrder n (es ++ e ∷ [])
order_grows n [] e h le = (le, tt)
order_grows n (x ∷ es) e h le = (h.0, order_grows (after_entry n x) es e h.1 le)

-- a script that is not reached has no entry
none_after : (n k : ℕ) (es : List ListedEntry) → InOrder n es → reached n es ≤ k → list_any (is_of_script k) es ≡ false
none_after n k [] h le = refl
none_after n k (e ∷ es) h le =
    let small = h.0 in
    let rest = none_after (after_entry n e) k es h.1 le in
    let more = reached_more (after_entry n e) es in
    elim (cases_Bool (e.script == n)) [
      | inl q ↦ let at : after_entry n e ≡ suc n = rw q refl in let apart = ne_eqb e.script k (λ s. omega arith) in rw apart rest
      | inr q ↦
          let at : after_entry n e ≡ n = rw q refl in
          let apart = ne_eqb e.script k (λ s. self n e q (omega arith)) in
          rw apart rest
    ]
  where
    self : (n : ℕ) (e : ListedEntry) → (e.script == n) ≡ false → e.script ≡ n → ⊥
    self n e q s = true≢false (sym (eq-eqb e.script n s) ∙ q)

-- one that is reached has one
any_below : (n k : ℕ) (es : List ListedEntry) → n ≤ k → k < reached n es → list_any (is_of_script k) es ≡ true
any_below n k [] le lt = absurd (omega arith)
any_below n k (e ∷ es) le lt = elim (cases_Bool (is_of_script k e)) [
  | inl h ↦ rw h refl
  | inr h ↦ rw h (any_below (after_entry n e) k es (next n k e le h) lt)
]
  where
    next : (n k : ℕ) (e : ListedEntry) → n ≤ k → (e.script == k) ≡ false → after_entry n e ≤ k
    next n k e le h = elim (cases_Bool (e.script == n)) [
      | inl q ↦ let at = Rattle.std.proofs.Common.eqb-true e.script n q in rw q (elim (Rattle.std.proofs.Common.eq-or-lt_of_le le) [
        | inl s ↦ absurd (true≢false (sym (eq-eqb e.script k (at ∙ s)) ∙ h))
        | inr lt ↦ let g : suc n ≤ k = omega arith in g
      ])
      | inr q ↦ rw q le
    ]

-- 2. What the edits need

pub new_has_no_entry : (scripts : List Hash32) (es : List ListedEntry) → IsNumbered scripts es → list_any (is_of_script (length scripts)) es ≡ false
new_has_no_entry scripts es h = let all = h.all in none_after 0 (length scripts) es h.order (omega arith)

balance_none : (n : ℕ) (xs : List ListedOut) → OutsWithin n xs → balance_of n xs ≡ 0
balance_none n [] h = refl
balance_none n (x ∷ xs) h =
    let lt = h.0 in let apart = ne_eqb x.script n (λ e. omega arith) in let rest = balance_none n xs h.1 in rw apart (let e : 0 + balance_of n xs ≡ 0 = omega arith in e)

pub first_is_last : (scripts : List Hash32) (entries : List ListedEntry) → IsNumbered scripts entries → IsLastFirst scripts entries
first_is_last scripts entries h es e is none =
    let order = order_last 0 es e (subst (InOrder 0) is h.order) in
    let le = order.1 in
    let all : after_entry (reached 0 es) e ≡ length scripts = sym (reached_last 0 es e) ∙ ap (reached 0) (sym is) ∙ h.all in
    elim (Rattle.std.proofs.Common.eq-or-lt_of_le le) [
      | inl at ↦ let q = eq-eqb e.script (reached 0 es) at in let up = rw q at all in omega arith
      | inr lt ↦ absurd (true≢false (sym (any_below 0 e.script es (omega arith) lt) ∙ none))
    ]

pub touch_new_fits : (counts : HeadCounts) (bs : List ListedBlock) (l : Lists) (s : Hash32) (tx : ℕ) → Fits l → 0 < counts.scripts
    → is_script_among s l.scripts ≡ false → tables_of counts bs (add_entry s tx l) ≡ script_added s tx (tables_of counts bs l)
touch_new_fits counts bs l s tx h some new =
    touch_new_rows counts bs l s tx some new (new_has_no_entry l.scripts l.entries h.numbered) (balance_none (length l.scripts) l.outs h.within)

pub take_back_entry_fits : (counts : HeadCounts) (bs : List ListedBlock) (l : Lists) → IsNumbered l.scripts l.entries
    → tables_of counts bs (take_back_entry l) ≡ entry_dropped (last (tables_of counts bs l).entries) (tables_of counts bs l)
take_back_entry_fits counts bs l h = take_back_entry_rows counts bs l (first_is_last l.scripts l.entries h)

-- 3. The steps keep it

pub none_fits : Fits no_lists
none_fits = record { numbered = record { once = tt; order = tt; all = refl }; within = tt }

pub tx_fits : (l : Lists) (t : ListedTx) → Fits l → Fits (add_tx t l)
tx_fits l t h = record { numbered = h.numbered; within = h.within }

pub tx_back_fits : (l : Lists) → Fits l → Fits (take_back_tx l)
tx_back_fits l h = record { numbered = h.numbered; within = h.within }

within_more : (n m : ℕ) (xs : List ListedOut) → n ≤ m → OutsWithin n xs → OutsWithin m xs
within_more n m [] le h = tt
within_more n m (x ∷ xs) le h = let lt = h.0 in ((let g : x.script < m = omega arith in g), within_more n m xs le h.1)

within_state : (n k : ℕ) (s : State) (xs : List ListedOut) → OutsWithin n xs → OutsWithin n (with_state s k xs)
within_state n k s [] h = tt
within_state n zero s (x ∷ xs) h = (h.0, h.1)
within_state n (suc k) s (x ∷ xs) h = (h.0, within_state n k s xs h.1)

within_last : (n : ℕ) (xs : List ListedOut) (x : ListedOut) → OutsWithin n xs → x.script < n → OutsWithin n (xs ++ x ∷ [])
within_last n [] x h lt = (lt, tt)
within_last n (y ∷ ys) x h lt = (h.0, within_last n ys x h.1 lt)

within_front : (n : ℕ) (xs : List ListedOut) → OutsWithin n xs → OutsWithin n (but_last xs)
within_front n [] h = tt
within_front n (x ∷ []) h = tt
within_front n (x ∷ y ∷ xs) h = (h.0, within_front n (y ∷ xs) h.1)

outs_fit : (l : Lists) (xs : List ListedOut) (is : List ℕ) → Fits l → OutsWithin (length l.scripts) xs → Fits (record l { outs = xs; ins = is })
outs_fit l xs is h w = record { numbered = h.numbered; within = w }

pub take_out_fits : (l : Lists) (by k : ℕ) → Fits l → Fits (spend_output by k l)
take_out_fits l by k h = outs_fit l _ _ h (within_state (length l.scripts) k (Spent by) l.outs h.within)

pub add_out_fits : (l : Lists) (tx index value script : ℕ) → Fits l → script < length l.scripts → Fits (add_output tx index value script l)
add_out_fits l tx index value script h lt = outs_fit l _ _ h (within_last (length l.scripts) (bury tx r l.outs) x (by r) lt)
  where
    r : Option ℕ
    r = replaced tx index l

    x : ListedOut
    x = record { tx = tx; value = value; script = script; state = Unspent }

    by : (q : Option ℕ) → OutsWithin (length l.scripts) (bury tx q l.outs)
    by None = h.within
    by (Some k) = within_state (length l.scripts) k (Buried tx) l.outs h.within

pub unspend_fits : (l : Lists) → Fits l → Fits (unspend l)
unspend_fits l h = outs_fit l _ _ h (by (last l.ins))
  where
    by : (q : Option ℕ) → OutsWithin (length l.scripts) (give_back q l.outs)
    by None = h.within
    by (Some k) = elim (cases_Bool (spent_at k l.outs)) [
      | inl e ↦ rw e (within_state (length l.scripts) k Unspent l.outs h.within)
      | inr e ↦ rw e h.within
    ]

pub out_back_fits : (l : Lists) → Fits l → Fits (take_back_output l)
out_back_fits l h = go (last l.outs)
  where
    open_by : (by : ℕ) (q : Option ℕ) (xs : List ListedOut) → OutsWithin (length l.scripts) xs → OutsWithin (length l.scripts) (unbury by q xs)
    open_by by None xs w = w
    open_by by (Some k) xs w = elim (cases_Bool (buried_at by k xs)) [
      | inl e ↦ rw e (within_state (length l.scripts) k Unspent xs w)
      | inr e ↦ rw e w
    ]

    go : (r : Option ListedOut) → Fits (Rattle.el_tables.specs.Disconnecting.without_output r l)
    go None = h
    go (Some x) = outs_fit l _ _ h (open_by x.tx _ (but_last l.outs) (within_front (length l.scripts) l.outs h.within))

pub touch_numbers : (scripts : List Hash32) (es : List ListedEntry) (s : Hash32) (tx : ℕ) → IsNumbered scripts es
    → IsNumbered (add_script s scripts) (append_entry tx (script_number s scripts) es)
touch_numbers scripts es s tx h = elim (cases_Bool (is_script_among s scripts)) [
  | inr new ↦
      let none = no_last_tx (length scripts) es (new_has_no_entry scripts es h) in
      let n = number_next s scripts new in
      let is : append_entry tx (script_number s scripts) es ≡ es ++ record { tx = tx; script = length scripts } ∷ [] =
      ap (λ (k : ℕ). append_entry tx k es) n ∙ rw none refl in
      subst (λ (x : List ListedEntry). IsNumbered (add_script s scripts) x) (sym is) (rw new (fresh new (length scripts) refl))
  | inl known ↦ elim (cases_Bool (is_tx tx (last_tx_of (script_number s scripts) es))) [
    | inl old ↦ rw (known, old) h
    | inr other ↦ rw (known, other) (one (script_number s scripts) (number_within s scripts known))
  ]
]
  where
    all : reached 0 es ≡ length scripts
    all = h.all

    fresh : is_script_among s scripts ≡ false → (n : ℕ) → n ≡ length scripts → IsNumbered (scripts ++ s ∷ []) (es ++ record { tx = tx; script = n } ∷ [])
    fresh new n at =
        let e : ListedEntry = record { tx = tx; script = n } in
        let long = length-append scripts (s ∷ []) in
        let self = eq-eqb n (reached 0 es) (omega arith) in
        let up : after_entry (reached 0 es) e ≡ suc (reached 0 es) = rw self refl in
        let last = reached_last 0 es e in
        record { once = once_snoc s scripts new h.once; order = order_grows 0 es e h.order (omega arith); all = omega arith }

    one : (n : ℕ) → n < length scripts → IsNumbered scripts (es ++ record { tx = tx; script = n } ∷ [])
    one n lt =
        let e : ListedEntry = record { tx = tx; script = n } in
        let apart = ne_eqb n (reached 0 es) (λ q. omega arith) in
        let same : after_entry (reached 0 es) e ≡ reached 0 es = rw apart refl in
        let last = reached_last 0 es e in
        record { once = h.once; order = order_grows 0 es e h.order (omega arith); all = last ∙ same ∙ h.all }

pub touch_fits : (l : Lists) (s : Hash32) (tx : ℕ) → Fits l → Fits (add_entry s tx l)
touch_fits l s tx h = record {
  numbered = touch_numbers l.scripts l.entries s tx h.numbered;
  within = within_more (length l.scripts) (length (add_script s l.scripts)) l.outs (once_longer s l.scripts) h.within;
}

short : (ss : List Hash32) → length (but_last ss) ≡ length ss - 1
short [] = refl
short (s ∷ []) = refl
short (s ∷ t ∷ ss) = let rest = short (t ∷ ss) in omega arith

none_front : (s : Hash32) (xs : List Hash32) → is_script_among s xs ≡ false → is_script_among s (but_last xs) ≡ false
none_front s [] h = refl
none_front s (x ∷ []) h = refl
none_front s (x ∷ y ∷ xs) h =
    let parts = or_parts (same_hash x s) (is_script_among s (y ∷ xs)) h in or_from (same_hash x s) (is_script_among s (but_last (y ∷ xs))) parts.0 (none_front s (y ∷ xs) parts.1)

once_front : (xs : List Hash32) → Once xs → Once (but_last xs)
once_front [] h = tt
once_front (x ∷ []) h = tt
once_front (x ∷ y ∷ xs) h = (none_front x (y ∷ xs) h.0, once_front (y ∷ xs) h.1)

-- the script that a walk finds, which is the newest_tx of its hash, is the one of its number
found_from : (n : ℕ) (s : Hash32) (xs : List Hash32) → Once xs
    → greatest_from n (λ (x : Hash32). same_hash x s) xs ≡ cond (is_script_among s xs) (Some (n + script_number s xs)) None
found_from n s [] h = refl
found_from n s (x ∷ xs) h = let rest = found_from (n + 1) s xs h.1 in elim (cases_Bool (same_hash x s)) [
  | inl e ↦
      let none : is_script_among s xs ≡ false = ap (λ (u : Hash32). is_script_among u xs) (sym (hash_gives x s e)) ∙ h.0 in
      let gone : greatest_from (n + 1) (λ (u : Hash32). same_hash u s) xs ≡ None = rest ∙ rw none refl in
      let zero_n : n ≡ n + 0 = omega arith in
      rw (e, gone) (ap (λ (k : ℕ). Some k) zero_n)
  | inr e ↦ elim (cases_Bool (is_script_among s xs)) [
    | inl k ↦
        let one : greatest_from (n + 1) (λ (u : Hash32). same_hash u s) xs ≡ Some (n + 1 + script_number s xs) = rest ∙ rw k refl in
        let at : n + 1 + script_number s xs ≡ n + suc (script_number s xs) = omega arith in
        rw (e, k, one) (ap (λ (i : ℕ). Some i) at)
    | inr k ↦
        let none : greatest_from (n + 1) (λ (u : Hash32). same_hash u s) xs ≡ None = rest ∙ rw k refl in
        rw (e, k, none) refl
  ]
]

pub script_found : (s : Hash32) (xs : List Hash32) → Once xs → greatest (λ (x : Hash32). same_hash x s) xs ≡ (if is_script_among s xs then Some (script_number s xs) else None)
script_found s xs h = found_from 0 s xs h ∙ by (is_script_among s xs)
  where
    by : (b : Bool) → cond b (Some (0 + script_number s xs)) None ≡ cond b (Some (script_number s xs)) None
    by true = let e : 0 + script_number s xs ≡ script_number s xs = omega arith in ap (λ (k : ℕ). Some k) e
    by false = refl

none_there : (es : List ListedEntry) (e : ListedEntry) → list_any (is_of_script e.script) es ≡ false → reached 0 es ≤ e.script
none_there es e none = elim (cases_lt e.script (reached 0 es)) [
  | inl lt ↦ absurd (true≢false (sym (any_below 0 e.script es (omega arith) lt) ∙ none))
  | inr le ↦ le
]

pub entry_back_numbers : (l : Lists) → IsNumbered l.scripts l.entries → IsNumbered (take_back_entry l).scripts (take_back_entry l).entries
entry_back_numbers l h = from_front
    (λ (es : List ListedEntry). IsNumbered l.scripts es → IsNumbered (take_back_entry (record l { entries = es })).scripts (take_back_entry (record l { entries = es })).entries)
    (λ f. f) (λ es e before f. step es e f) l.entries h
  where
    step : (es : List ListedEntry) (e : ListedEntry) → IsNumbered l.scripts (es ++ e ∷ [])
        → IsNumbered (take_back_entry (record l { entries = es ++ e ∷ [] })).scripts (take_back_entry (record l { entries = es ++ e ∷ [] })).entries
    step es e f =
        let old : Lists = record l { entries = es ++ e ∷ [] } in
        let order = order_last 0 es e f.order in
        let le = order.1 in
        let all : after_entry (reached 0 es) e ≡ length l.scripts = sym (reached_last 0 es e) ∙ f.all in
        let a = last_is es e in
        let b = but_last_is es e in
        elim (cases_Bool (list_any (is_of_script e.script) es)) [
          | inl there ↦
              let taken : take_back_entry old ≡ record l { entries = es } = rw (a, b, there) refl in
              let apart = ne_eqb e.script (reached 0 es) (λ q. true≢false (sym there ∙ none_after 0 e.script es order.0 (omega arith))) in
              subst (λ (x : Lists). IsNumbered x.scripts x.entries) (sym taken) (record { once = f.once; order = order.0; all = rw apart at all })
          | inr none ↦
              let taken : take_back_entry old ≡ record l { scripts = but_last l.scripts; entries = es } = rw (a, b, none) refl in
              let own = first_is_last l.scripts (es ++ e ∷ []) f es e refl none in
              let after = none_there es e none in
              subst (λ (x : Lists). IsNumbered x.scripts x.entries) (sym taken) (record { once = once_front l.scripts f.once; order = order.0; all = let fewer = short l.scripts in omega arith })
        ]

-- 4. The lists of every chain

touched_numbers : (m : ℕ) (scripts ss : List Hash32) (es : List ListedEntry) → IsNumbered scripts es → IsNumbered (add_scripts scripts ss) (touched m scripts ss es)
touched_numbers m scripts [] es h = h
touched_numbers m scripts (s ∷ ss) es h = touched_numbers m (add_script s scripts) ss (append_entry m (script_number s scripts) es) (touch_numbers scripts es s m h)

pub positions_numbered : (ps : List Position) → IsNumbered (scripts_of ps) (entries_from (scripts_of ps) 0 ps)
positions_numbered ps = from_front (λ (qs : List Position). IsNumbered (scripts_of qs) (entries_from (scripts_of qs) 0 qs)) (record { once = tt; order = tt; all = refl }) (λ qs q h. grow qs q h) ps
  where
    grow : (qs : List Position) (q : Position) → IsNumbered (scripts_of qs) (entries_from (scripts_of qs) 0 qs)
        → IsNumbered (scripts_of (qs ++ q ∷ [])) (entries_from (scripts_of (qs ++ q ∷ [])) 0 (qs ++ q ∷ []))
    grow qs q h =
        let xs = scripts_of qs in
        let ys = add_scripts xs (concerned_scripts q) in
        let es = entries_from xs 0 qs in
        let is = scripts_more qs q in
        let kept = entries_same xs ys 0 qs (λ t e. (gather_keeps (concerned_scripts q) t xs e).1) (all_met qs) in
        let one = touched_is (length qs) xs (concerned_scripts q) es (no_tx_yet xs 0 (length qs) qs (omega arith)) in
        let entries : entries_from ys 0 (qs ++ q ∷ []) ≡ touched (length qs) xs (concerned_scripts q) es =
        entries_more ys 0 (length qs) qs q (omega arith) ∙ ap (λ (l : List ListedEntry). l ++ map (entry_of ys (length qs)) (add_scripts [] (concerned_scripts q))) kept ∙ sym one in
        subst (λ (zs : List Hash32). IsNumbered zs (entries_from zs 0 (qs ++ q ∷ []))) (sym is)
        (subst (IsNumbered ys) (sym entries) (touched_numbers (length qs) xs (concerned_scripts q) es h))

have_within : (scripts : List Hash32) (xs : List Output) → AllHave scripts xs → OutsWithin (length scripts) (map (listed_out scripts) xs)
have_within scripts [] h = tt
have_within scripts (x ∷ xs) h = (number_within x.coin.script scripts h.0, have_within scripts xs h.1)

pub chain_fits : (chain : Chain) → Fits (lists chain)
chain_fits chain =
    let ps = positions chain in
    record { numbered = positions_numbered ps; within = have_within (scripts_of ps) (outputs ps) (outputs_have (scripts_of ps) 0 ps (all_met ps)) }
