-- The last transaction is taken back: entries, and all of it.
use Rattle.std.proofs.Common.{suc, zero, ◌≡◌, inl, inr, ◌⊎◌, ℕ, ◌+◌, ◌<◌, ◌≤◌, true, false, ◌==◌, List, [], ◌∷◌, ◌++◌, length, map, None, refl, ap, sym, ap₂, ◌∙◌, append_assoc, append-nil, arith, length-append, ne_eqb, eq-eqb}
use Rattle.std.proofs.lemmas.Bool.{cases_Bool, or_from, or_left, or_right}
use Rattle.std.proofs.lemmas.List.{length-map}
use Rattle.std.specs.List.{list_any, AllByRecursion, flat_map}
use Rattle.el_base.specs.declared.hash.Hash32.{Hash32}
use Rattle.el_tx.specs.declared.types.Outpoint.{Outpoint}
use Rattle.el_tx.specs.declared.types.TxIn.{TxIn}
use Rattle.el_tx.specs.Hashing.{txid}
use Rattle.el_chain.specs.RowCounts.{is_script_among, add_script, spending_inputs, concerned_scripts, add_scripts}
use Rattle.el_chain.specs.declared.coin.Coin.{Coin}
use Rattle.el_chain.specs.CoinLaws.{takes, makes}
use Rattle.el_chain.specs.Faults.{missing_input}
use Rattle.el_chain.specs.Headers.{same_hash}
use Rattle.el_chain.proofs.Meters.{gather_joined}
use Rattle.el_tables.specs.Lists.{ListedTx, ListedEntry, Lists, script_number, is_of_script}
use Rattle.el_tables.specs.Lists.State.{Spent}
use Rattle.el_chain.specs.History.{Position}
use Rattle.el_tables.specs.ChainLists.{Output, output, outputs_from, outputs, state_after, makes_outpoint, listed_out, listed_position, txs_from, ins_from, spent_numbers, scripts_of, entry_of, entries_from, lists_of}
use Rattle.el_tables.specs.Disconnecting.{last, is_entry_of, take_back_entries, times, is_buried_by, unspend, take_back_entry, take_back_tx, disconnect_tx}
use Rattle.el_tables.proofs.Outputs.{coins_of, outputs_more}
use Rattle.el_tables.proofs.Names.{live, settle}
use Rattle.el_tables.proofs.Numbering.{outs_of, ins_of, length_outputs, length_txs, txs_more, names_all, ins_more}
use Rattle.el_tables.proofs.Scripts.{hash_gives, Keeps, AllIn, NoTx, all_from, all_has, all_met, has_more, has_back, number_next, number_within, once_has, once_keeps, gather_keeps, gather_has, gathered, scripts_more, entries_same, entries_more, no_tx_yet, once_longer}
use Rattle.el_tables.proofs.Steps.{listed_kept, lists_same, lists_with, settle_inputs, bury_outputs}
use Rattle.el_tables.proofs.Settled.{whole_settles}
use Rattle.el_tables.proofs.Connects.{outputs_have, names_inputs}
use Rattle.el_tables.proofs.TakeBack.{but_last_is, last_is, FreeFrom, outputs_back, inputs_back, lists_of_parts}

-- 1. Entries

-- each script that is there has an entry
abbrev pub Covered : List Hash32 → List ListedEntry → Type 0
Covered scripts es = (t : Hash32) → is_script_among t scripts ≡ true → list_any (is_of_script (script_number t scripts)) es ≡ true

-- each entry is of one that is there
abbrev pub Within : List Hash32 → List ListedEntry → Type 0
Within scripts es = AllByRecursion (λ (e : ListedEntry). e.script < length scripts) es

any_more : (k : ℕ) (es fs : List ListedEntry) → list_any (is_of_script k) es ≡ true → list_any (is_of_script k) (es ++ fs) ≡ true
any_more k [] fs h = absurd (wrong h)
  where
    wrong : false ≡ true → ⊥
    wrong f = cc
any_more k (e ∷ es) fs h = elim (cases_Bool (is_of_script k e)) [
  | inl i ↦ rw i refl
  | inr i ↦ let rest = rw i at h in rw i (any_more k es fs rest)
]

any_back : (k : ℕ) (es fs : List ListedEntry) → list_any (is_of_script k) fs ≡ true → list_any (is_of_script k) (es ++ fs) ≡ true
any_back k [] fs h = h
any_back k (e ∷ es) fs h = or_right (is_of_script k e) (list_any (is_of_script k) (es ++ fs)) (any_back k es fs h)

none_above : (k : ℕ) (scripts : List Hash32) (es : List ListedEntry) → length scripts ≤ k → Within scripts es → list_any (is_of_script k) es ≡ false
none_above k scripts [] le h = refl
none_above k scripts (e ∷ es) le h =
    let lt = h.0 in
    or_from (is_of_script k e) (list_any (is_of_script k) es) (ne_eqb e.script k (λ q. omega arith)) (none_above k scripts es le h.1)

within_more : (scripts more : List Hash32) (es : List ListedEntry) → length scripts ≤ length more → Within scripts es → Within more es
within_more scripts more [] le h = tt
within_more scripts more (e ∷ es) le h = (let lt = h.0 in omega arith, within_more scripts more es le h.1)

within_joined : (scripts : List Hash32) (es fs : List ListedEntry) → Within scripts es → Within scripts fs → Within scripts (es ++ fs)
within_joined scripts [] fs a b = b
within_joined scripts (e ∷ es) fs a b = (a.0, within_joined scripts es fs a.1 b)

-- what was there, where one more is there
once_was : (s t : Hash32) (scripts : List Hash32) → is_script_among t (add_script s scripts) ≡ true → (is_script_among t scripts ≡ true) ⊎ (s ≡ t)
once_was s t scripts h = elim (cases_Bool (is_script_among s scripts)) [
  | inl e ↦ inl (rw e at h)
  | inr e ↦ split scripts (rw e at h)
]
  where
    split : (xs : List Hash32) → is_script_among t (xs ++ s ∷ []) ≡ true → (is_script_among t xs ≡ true) ⊎ (s ≡ t)
    split [] g = elim (cases_Bool (same_hash s t)) [
      | inl e ↦ inr (hash_gives s t e)
      | inr e ↦ let bad = rw e at g in absurd (wrong bad)
    ]
      where
        wrong : false ≡ true → ⊥
        wrong f = cc
    split (x ∷ xs) g = go (split xs)
      where
        go : (is_script_among t (xs ++ s ∷ []) ≡ true → (is_script_among t xs ≡ true) ⊎ (s ≡ t)) → (is_script_among t (x ∷ xs) ≡ true) ⊎ (s ≡ t)
        go rest = elim (cases_Bool (same_hash x t)) [
          | inl e ↦ inl (or_left (same_hash x t) (is_script_among t xs) e)
          | inr e ↦ let more = rw e at g in lift (rest more)
        ]
          where
            lift : (is_script_among t xs ≡ true) ⊎ (s ≡ t) → (is_script_among t (x ∷ xs) ≡ true) ⊎ (s ≡ t)
            lift (inl i) = inl (or_right (same_hash x t) (is_script_among t xs) i)
            lift (inr i) = inr i

covered_once : (s : Hash32) (m : ℕ) (scripts : List Hash32) (es : List ListedEntry) → Covered scripts es
    → Covered (add_script s scripts) (es ++ entry_of (add_script s scripts) m s ∷ [])
covered_once s m scripts es covered t h = by (once_was s t scripts h)
  where
    by : (is_script_among t scripts ≡ true) ⊎ (s ≡ t) → list_any (is_of_script (script_number t (add_script s scripts))) (es ++ entry_of (add_script s scripts) m s ∷ []) ≡ true
    by (inl old) =
        let kept = (once_keeps s t scripts old).1 in
        rw kept (any_more (script_number t scripts) es (entry_of (add_script s scripts) m s ∷ []) (covered t old))
    by (inr same) =
        any_back (script_number t (add_script s scripts)) es (entry_of (add_script s scripts) m s ∷ [])
        (or_left (script_number s (add_script s scripts) == script_number t (add_script s scripts)) false
        (eq-eqb (script_number s (add_script s scripts)) (script_number t (add_script s scripts)) (ap (λ (u : Hash32). script_number u (add_script s scripts)) same)))

abbrev pub with_entries : Lists → List Hash32 → List ListedEntry → Lists
with_entries n scripts es = record { txs = n.txs; outs = n.outs; ins = n.ins; scripts = scripts; entries = es }

one_entry_back : (n : Lists) (m : ℕ) (s : Hash32) (scripts : List Hash32) (es : List ListedEntry) → Covered scripts es → Within scripts es
    → take_back_entry (with_entries n (add_script s scripts) (es ++ entry_of (add_script s scripts) m s ∷ [])) ≡ with_entries n scripts es
one_entry_back n m s scripts es covered within =
    let e = entry_of (add_script s scripts) m s in
    let is_last = last_is es e in
    let others = but_last_is es e in
    let number = (once_has s scripts).1 in
    elim (cases_Bool (is_script_among s scripts)) [
      | inl h ↦
          let there = covered s h in
          rw (is_last, others, number, there, h) refl
      | inr h ↦
          let next = number_next s scripts h in
          let none = none_above (script_number s scripts) scripts es (omega arith) within in
          let back = but_last_is scripts s in
          rw (is_last, others, number, none, h, back) refl
    ]

last_entry : (n : Lists) (m : ℕ) (s : Hash32) (scripts xs : List Hash32) (es : List ListedEntry) → is_entry_of m (last (with_entries n xs (es ++ entry_of scripts m s ∷ [])).entries) ≡ true
last_entry n m s scripts xs es = let is = last_is es (entry_of scripts m s) in rw is (eq-eqb m m refl)

pub entries_back : (n : Lists) (m k : ℕ) (ss scripts : List Hash32) (es : List ListedEntry) → Covered scripts es → Within scripts es
    → (l : ℕ) → l ≡ length ss + k → take_back_entries l m (with_entries n (add_scripts scripts ss) (es ++ map (entry_of (add_scripts scripts ss) m) ss)) ≡ take_back_entries k m (with_entries n scripts es)
entries_back n m k [] scripts es covered within l is = let e : l ≡ k = omega arith in rw e (ap (λ (x : List ListedEntry). take_back_entries k m (with_entries n scripts x)) (append-nil es))
entries_back n m k (s ∷ ss) scripts es covered within l is =
    let more = add_script s scripts in
    let e = entry_of more m s in
    let final = add_scripts more ss in
    let own : entry_of final m s ≡ e = ap (λ (j : ℕ). record { tx = m; script = j }) (gather_keeps ss s more (once_has s scripts).0).1 in
    let long = once_longer s scripts in
    let lt = number_within s more (once_has s scripts).0 in
    let rest = entries_back n m (suc k) ss more (es ++ e ∷ []) (covered_once s m scripts es covered)
    (within_joined more es (e ∷ []) (within_more scripts more es long within) (lt, tt)) l (omega arith) in
    let is_last = last_entry n m s more more es in
    let one : take_back_entries (suc k) m (with_entries n more (es ++ e ∷ [])) ≡ take_back_entries k m (take_back_entry (with_entries n more (es ++ e ∷ []))) = rw is_last refl in
    ap (λ (x : List ListedEntry). take_back_entries l m (with_entries n final x))
    (ap (λ (f : ListedEntry). es ++ f ∷ map (entry_of final m) ss) own ∙ sym (append_assoc es (e ∷ []) (map (entry_of final m) ss)))
    ∙ rest ∙ one
    ∙ ap (take_back_entries k m) (one_entry_back n m s scripts es covered within)

-- and no more
last_no : (m : ℕ) (es : List ListedEntry) → NoTx m es → is_entry_of m (last es) ≡ false
last_no m [] h = refl
last_no m (e ∷ []) h = h.0
last_no m (e ∷ f ∷ es) h = last_no m (f ∷ es) h.1

pub none_back : (n : Lists) (m k : ℕ) (scripts : List Hash32) (es : List ListedEntry) → NoTx m es → take_back_entries k m (with_entries n scripts es) ≡ with_entries n scripts es
none_back n m zero scripts es h = refl
none_back n m (suc k) scripts es h = let none = last_no m es h in rw none refl

-- gathering what is gathered
add_gathered : (s : Hash32) (xs ys : List Hash32) → add_scripts xs (add_script s ys) ≡ add_script s (add_scripts xs ys)
add_gathered s xs ys = elim (cases_Bool (is_script_among s ys)) [
  | inl h ↦ let there = gather_has ys xs s h in rw (h, there) refl
  | inr h ↦ rw h (gather_joined xs ys (s ∷ []))
]

gather_twice : (ss xs ys : List Hash32) → add_scripts xs (add_scripts ys ss) ≡ add_scripts (add_scripts xs ys) ss
gather_twice [] xs ys = refl
gather_twice (s ∷ ss) xs ys = gather_twice ss xs (add_script s ys) ∙ ap (λ (l : List Hash32). add_scripts l ss) (add_gathered s xs ys)

-- the entries of transactions cover their scripts
own_covered : (scripts : List Hash32) (n : ℕ) (t : Hash32) (ss : List Hash32) → is_script_among t ss ≡ true → list_any (is_of_script (script_number t scripts)) (map (entry_of scripts n) ss) ≡ true
own_covered scripts n t [] h = absurd (wrong h)
  where
    wrong : false ≡ true → ⊥
    wrong f = cc
own_covered scripts n t (s ∷ ss) h = elim (cases_Bool (same_hash s t)) [
  | inl e ↦
      or_left (script_number s scripts == script_number t scripts) (list_any (is_of_script (script_number t scripts)) (map (entry_of scripts n) ss))
      (eq-eqb (script_number s scripts) (script_number t scripts) (ap (λ (u : Hash32). script_number u scripts) (hash_gives s t e)))
  | inr e ↦
      let rest = rw e at h in
      or_right (script_number s scripts == script_number t scripts) (list_any (is_of_script (script_number t scripts)) (map (entry_of scripts n) ss)) (own_covered scripts n t ss rest)
]

has_split : (t : Hash32) (xs ys : List Hash32) → is_script_among t (xs ++ ys) ≡ true → (is_script_among t xs ≡ true) ⊎ (is_script_among t ys ≡ true)
has_split t [] ys h = inr h
has_split t (x ∷ xs) ys h = elim (cases_Bool (same_hash x t)) [
  | inl e ↦ inl (or_left (same_hash x t) (is_script_among t xs) e)
  | inr e ↦ let rest = rw e at h in lift (has_split t xs ys rest)
]
  where
    lift : (is_script_among t xs ≡ true) ⊎ (is_script_among t ys ≡ true) → (is_script_among t (x ∷ xs) ≡ true) ⊎ (is_script_among t ys ≡ true)
    lift (inl i) = inl (or_right (same_hash x t) (is_script_among t xs) i)
    lift (inr i) = inr i

all_covered : (scripts : List Hash32) (n : ℕ) (ps : List Position) (t : Hash32) → is_script_among t (flat_map concerned_scripts ps) ≡ true
    → list_any (is_of_script (script_number t scripts)) (entries_from scripts n ps) ≡ true
all_covered scripts n [] t h = absurd (wrong h)
  where
    wrong : false ≡ true → ⊥
    wrong f = cc
all_covered scripts n (p ∷ ps) t h = by (all_covered scripts (n + 1) ps t) (has_split t (concerned_scripts p) (flat_map concerned_scripts ps) h)
  where
    by : (is_script_among t (flat_map concerned_scripts ps) ≡ true → list_any (is_of_script (script_number t scripts)) (entries_from scripts (n + 1) ps) ≡ true)
        → (is_script_among t (concerned_scripts p) ≡ true) ⊎ (is_script_among t (flat_map concerned_scripts ps) ≡ true)
        → list_any (is_of_script (script_number t scripts)) (map (entry_of scripts n) (add_scripts [] (concerned_scripts p)) ++ entries_from scripts (n + 1) ps) ≡ true
    by others (inl e) = any_more (script_number t scripts) (map (entry_of scripts n) (add_scripts [] (concerned_scripts p))) (entries_from scripts (n + 1) ps)
        (own_covered scripts n t (add_scripts [] (concerned_scripts p)) (gather_has (concerned_scripts p) [] t e))
    by others (inr e) = any_back (script_number t scripts) (map (entry_of scripts n) (add_scripts [] (concerned_scripts p))) (entries_from scripts (n + 1) ps) (others e)

own_within : (scripts : List Hash32) (n : ℕ) (ss : List Hash32) → AllIn scripts ss → Within scripts (map (entry_of scripts n) ss)
own_within scripts n [] all = tt
own_within scripts n (s ∷ ss) all = (number_within s scripts all.0, own_within scripts n ss all.1)

all_within : (scripts : List Hash32) (n : ℕ) (ps : List Position) → AllIn scripts (flat_map concerned_scripts ps) → Within scripts (entries_from scripts n ps)
all_within scripts n [] all = tt
all_within scripts n (p ∷ ps) all =
    within_joined scripts (map (entry_of scripts n) (add_scripts [] (concerned_scripts p))) (entries_from scripts (n + 1) ps)
    (own_within scripts n (add_scripts [] (concerned_scripts p)) (all_from scripts (add_scripts [] (concerned_scripts p)) (λ t h. all_has scripts (flat_map concerned_scripts (p ∷ ps)) t all (has_more t (concerned_scripts p) (flat_map concerned_scripts ps) (gathered (concerned_scripts p) t h)))))
    (all_within scripts (n + 1) ps (all_from scripts (flat_map concerned_scripts ps) (λ t h. all_has scripts (flat_map concerned_scripts (p ∷ ps)) t all (has_back t (concerned_scripts p) (flat_map concerned_scripts ps) h))))

-- 2. No output was buried by a transaction after

fate_below : (m : ℕ) (o : Outpoint) (n : ℕ) (ps : List Position) → n + length ps ≤ m → is_buried_by m (state_after o n ps) ≡ false
fate_below m o n [] le = refl
fate_below m o n (p ∷ ps) le = elim (cases_Bool (takes o p.tx)) [
  | inl h ↦ rw h refl
  | inr h ↦ elim (cases_Bool (makes_outpoint o p)) [
    | inl k ↦ rw (h, k) (ne_eqb n m (λ e. omega arith))
    | inr k ↦ rw (h, k) (fate_below m o (n + 1) ps (omega arith))
  ]
]

abbrev pub NotBy : ℕ → List Output → Type 0
NotBy m xs = AllByRecursion (λ (x : Output). is_buried_by m x.state ≡ false) xs

not_joined : (m : ℕ) (xs ys : List Output) → NotBy m xs → NotBy m ys → NotBy m (xs ++ ys)
not_joined m [] ys a b = b
not_joined m (x ∷ xs) ys a b = (a.0, not_joined m xs ys a.1 b)

not_yet : (m n : ℕ) (ps : List Position) → n + length ps ≤ m → NotBy m (outputs_from n ps)
not_yet m n [] le = tt
not_yet m n (p ∷ ps) le = not_joined m (map (output n ps) (makes p)) (outputs_from (n + 1) ps) (own (makes p)) (not_yet m (n + 1) ps (omega arith))
  where
    own : (cs : List Coin) → NotBy m (map (output n ps) cs)
    own [] = tt
    own (c ∷ cs) = (fate_below m c.outpoint (n + 1) ps (omega arith), own cs)

not_spent : (m : ℕ) (o : Outpoint) (xs : List Output) → NotBy m xs → NotBy m (map (settle (Spent m) o) xs)
not_spent m o [] h = tt
not_spent m o (x ∷ xs) h = (
  elim (cases_Bool (live o x)) [
    | inl e ↦ rw e refl
    | inr e ↦ rw e h.0
  ],
  not_spent m o xs h.1,
)

not_inputs : (m : ℕ) (is : List TxIn) (xs : List Output) → NotBy m xs → NotBy m (settle_inputs m is xs)
not_inputs m [] xs h = h
not_inputs m (i ∷ is) xs h = not_inputs m is (map (settle (Spent m) i.from) xs) (not_spent m i.from xs h)

free_of : (m : ℕ) (xs : List Output) → NotBy m xs → FreeFrom m 0 xs
free_of m [] h = tt
free_of m (x ∷ xs) h = (λ e. absurd (wrong (sym e ∙ h.0)), free_of m xs h.1)
  where
    wrong : true ≡ false → ⊥
    wrong f = cc

long_inputs : (m : ℕ) (is : List TxIn) (xs : List Output) → length (settle_inputs m is xs) ≡ length xs
long_inputs m [] xs = refl
long_inputs m (i ∷ is) xs = long_inputs m is (map (settle (Spent m) i.from) xs) ∙ length-map xs (settle (Spent m) i.from)

-- 3. The whole transaction

pub disconnects_one : (ps : List Position) (p : Position) → missing_input 0 (spending_inputs p.tx) (coins_of (outputs ps)) ≡ None
    → disconnect_tx (lists_of (ps ++ p ∷ [])) ≡ lists_of ps
disconnects_one ps p none =
    let ts = txs_from 0 0 ps in
    let m = length ts in
    let xs = outputs ps in
    let is = spending_inputs p.tx in
    let os = p.tx.outputs in
    let ins = ins_from ts 0 ps in
    let ins1 = ins ++ spent_numbers ts is in
    let scripts = scripts_of ps in
    let es = entries_from scripts 0 ps in
    let row = listed_position (outs_of ps) (ins_of ps) p in
    let count = length_txs 0 0 ps in
    let ss = add_scripts [] (concerned_scripts p) in
    let final = add_scripts scripts ss in
    let more : scripts_of (ps ++ p ∷ []) ≡ final = scripts_more ps p ∙ sym (gather_twice (concerned_scripts p) scripts []) in
    let keeps : Keeps scripts final = λ s h. (gather_keeps ss s scripts h).1 in
    let met_all = all_met ps in
    let es1 = es ++ map (entry_of final m) ss in
    let made = map (output m []) (makes p) in
    let names = names_all ps in
    let xs1 = settle_inputs m is xs in
    let e_txs : txs_from 0 0 (ps ++ p ∷ []) ≡ ts ++ row ∷ [] = txs_more 0 0 (outs_of ps) (ins_of ps) ps p (omega arith) (omega arith) in
    let e_outs : map (listed_out (scripts_of (ps ++ p ∷ []))) (outputs (ps ++ p ∷ [])) ≡ map (listed_out final) (bury_outputs m (txid p.tx) 0 os xs1 ++ made) =
    ap₂ (λ (zs : List Hash32) (l : List Output). map (listed_out zs) l) more
    (outputs_more 0 m ps p (omega arith) ∙ ap (λ (l : List Output). l ++ made) (sym (whole_settles m p xs))) in
    let e_ins : ins_from (txs_from 0 0 (ps ++ p ∷ [])) 0 (ps ++ p ∷ []) ≡ ins1 =
    ap (λ (us : List ListedTx). ins_from us 0 (ps ++ p ∷ [])) e_txs ∙ ins_more ts row 0 ps p (omega arith) in
    let e_entries : entries_from (scripts_of (ps ++ p ∷ [])) 0 (ps ++ p ∷ []) ≡ es1 =
    ap (λ (zs : List Hash32). entries_from zs 0 (ps ++ p ∷ [])) more
    ∙ entries_more final 0 m ps p (omega arith)
    ∙ ap (λ (l : List ListedEntry). l ++ map (entry_of final m) ss) (entries_same scripts final 0 ps keeps met_all) in
    let begun : lists_of (ps ++ p ∷ []) ≡ lists_with ts row (bury_outputs m (txid p.tx) 0 os xs1) made ins1 final es1 =
    lists_same _ _ _ _ _ _ _ _ _ _ e_txs e_outs e_ins more e_entries in
    let long = length_outputs 0 ps in
    let long1 = long_inputs m is xs in
    let free = free_of m xs1 (not_inputs m is xs (not_yet m 0 ps (omega arith))) in
    let outs_done = outputs_back os 0 p.height ts row xs1 [] ins1 final es1 (names_inputs m is ts xs names) free (omega arith) refl in
    let plain : lists_with ts row xs1 [] ins1 final es1 ≡ lists_of_parts (ts ++ row ∷ []) xs1 ins1 final es1 =
    ap (λ (l : List Output). lists_of_parts (ts ++ row ∷ []) l ins1 final es1) (append-nil xs1) in
    let ins_done = inputs_back m is 0 ts (ts ++ row ∷ []) xs ins final es1 names none in
    let no_tx = no_tx_yet scripts 0 m ps (omega arith) in
    let mapped = length-map ss (entry_of final m) in
    let joined = length-append es (map (entry_of final m) ss) in
    let entries_done = entries_back (lists_of_parts (ts ++ row ∷ []) xs ins final es1) m (length es) ss scripts es
    (λ t h. all_covered scripts 0 ps t (gathered (flat_map concerned_scripts ps) t h)) (all_within scripts 0 ps met_all) (length es1) (omega arith)
    ∙ none_back (lists_of_parts (ts ++ row ∷ []) xs ins final es1) m (length es) scripts es no_tx in
    let is_last = last_is ts row in
    let others = but_last_is ts row in
    let have = outputs_have scripts 0 ps met_all in
    let listed = listed_kept scripts final xs keeps have in
    ap disconnect_tx begun ∙ rw (is_last, others) (
    ap (λ (n : Lists). take_back_tx (take_back_entries (length es1) m (times (length is) unspend n))) (outs_done ∙ plain)
    ∙ ap (λ (n : Lists). take_back_tx (take_back_entries (length es1) m n)) ins_done
    ∙ ap take_back_tx entries_done
    ∙ lists_same _ _ _ _ _ _ _ _ _ _ others listed refl refl refl
    )
