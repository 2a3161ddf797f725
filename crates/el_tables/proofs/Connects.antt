-- One transaction more: its steps lead from the lists of transactions to those with it.
use Rattle.std.proofs.Common.{◌≡◌, inl, inr, ℕ, ◌+◌, true, false, List, [], ◌∷◌, ◌++◌, length, map, filter, Option, None, Some, Result, Ok, Err, refl, ap, sym, ap₂, ◌∙◌, append-nil, arith, length-append}
use Rattle.std.proofs.lemmas.Bool.{cases_Bool, or_from, or_parts, true≢false}
use Rattle.std.proofs.lemmas.List.{length-map}
use Rattle.std.specs.List.{AllByRecursion, flat_map}
use Rattle.el_base.specs.declared.hash.Hash32.{Hash32}
use Rattle.el_tx.specs.declared.types.Outpoint.{Outpoint}
use Rattle.el_tx.specs.declared.types.TxIn.{TxIn}
use Rattle.el_tx.specs.declared.types.TxOut.{TxOut}
use Rattle.el_tx.specs.declared.types.Tx.{Tx}
use Rattle.el_tx.specs.Hashing.{txid, same_outpoint}
use Rattle.el_chain.specs.RowCounts.{is_script_among, spending_inputs, spent_scripts, output_script, concerned_scripts, add_scripts}
use Rattle.el_chain.specs.declared.coin.Coin.{Coin}
use Rattle.el_chain.specs.Coins.{is_coin_of, without}
use Rattle.el_chain.specs.CoinLaws.{coins_made, makes}
use Rattle.el_chain.specs.Faults.{has_coin, missing_input}
use Rattle.el_chain.proofs.CoinLists.{same_gives}
use Rattle.el_chain.proofs.Meters.{gather_joined}
use Rattle.el_tables.specs.Lists.{ListedTx, ListedEntry, Lists, script_number, add_tx}
use Rattle.el_tables.specs.Lists.State.{Spent}
use Rattle.el_chain.specs.History.{Position}
use Rattle.el_tables.specs.ChainLists.{Output, output, outputs_from, outputs, listed_position, txs_from, ins_from, spent_numbers, scripts_of, entry_of, entries_from, listed_out, lists_of}
use Rattle.el_prepare.specs.Prepared.{value_and_script, prepared_tx}
use Rattle.el_tables.specs.Connecting.{◌>>=◌, spend_all, fund_all, listed_after, connect_tx}
use Rattle.el_tables.proofs.Outputs.{coins_of, outputs_more}
use Rattle.el_tables.proofs.Names.{Names, settle, names_settled}
use Rattle.el_tables.proofs.Numbering.{outs_of, ins_of, length_outputs, length_txs, txs_more, names_all, ins_more}
use Rattle.el_tables.proofs.Scripts.{Keeps, AllIn, all_from, all_has, all_met, has_more, has_back, gather_keeps, entries_same, entries_more, no_tx_yet, touched, touched_is, touched_joined, scripts_more}
use Rattle.el_tables.proofs.Steps.{points, AllHave, have_settled, have_joined, coins_have, filter_have, lists_at, lists_same, settle_inputs, scripts_on, outcome, after_taking, spend_all_is, all_numbered, lists_with, bury_outputs, fund_all_is}
use Rattle.el_tables.proofs.Settled.{whole_settles}

-- 1. The scripts of inputs whose coins are there

abbrev pub ApartFrom : Outpoint → List TxIn → Type 0
ApartFrom p is = AllByRecursion (λ (i : TxIn). same_outpoint p i.from ≡ false) is

has_left : (p o : Outpoint) (cs : List Coin) → has_coin p cs ≡ false → has_coin p (without o cs) ≡ false
has_left p o [] h = refl
has_left p o (c ∷ cs) h =
    let parts = or_parts (is_coin_of p c) (has_coin p cs) h in
    elim (cases_Bool (is_coin_of o c)) [
      | inl e ↦ rw e (has_left p o cs parts.1)
      | inr e ↦ rw e (or_from (is_coin_of p c) (has_coin p (without o cs)) parts.0 (has_left p o cs parts.1))
    ]

has_taken : (p : Outpoint) (cs : List Coin) → has_coin p (without p cs) ≡ false
has_taken p [] = refl
has_taken p (c ∷ cs) = elim (cases_Bool (is_coin_of p c)) [
  | inl e ↦ rw e (has_taken p cs)
  | inr e ↦ rw e (or_from (is_coin_of p c) (has_coin p (without p cs)) e (has_taken p cs))
]

pub not_named : (p : Outpoint) (is : List TxIn) (n : ℕ) (cs : List Coin) → missing_input n is cs ≡ None → has_coin p cs ≡ false → ApartFrom p is
not_named p [] n cs none h = tt
not_named p (i ∷ is) n cs none h = elim (cases_Bool (has_coin i.from cs)) [
  | inl e ↦
      let rest = rw e at none in (
        elim (cases_Bool (same_outpoint p i.from)) [
          | inl s ↦ absurd (true≢false (sym e ∙ ap (λ (o : Outpoint). has_coin o cs) (sym (same_gives p i.from s)) ∙ h))
          | inr s ↦ s
        ],
        not_named p is (n + 1) (without i.from cs) rest (has_left p i.from cs h),
      )
  | inr e ↦ let bad = rw e at none in absurd (wrong bad)
]
  where
    wrong : Some n ≡ None → ⊥
    wrong f = cc

filter_apart : (p o : Outpoint) (cs : List Coin) → same_outpoint p o ≡ false → filter (is_coin_of o) (without p cs) ≡ filter (is_coin_of o) cs
filter_apart p o [] h = refl
filter_apart p o (c ∷ cs) h =
    let rest = filter_apart p o cs h in
    elim (cases_Bool (is_coin_of p c)) [
      | inl e ↦
          let is = same_gives c.outpoint p e in
          let other : is_coin_of o c ≡ false = ap (λ (q : Outpoint). same_outpoint q o) is ∙ h in
          rw (e, other) rest
      | inr e ↦ elim (cases_Bool (is_coin_of o c)) [
        | inl f ↦ rw (e, f) (ap (λ (l : List Coin). c ∷ l) rest)
        | inr f ↦ rw (e, f) rest
      ]
    ]

taken_apart : (p : Outpoint) (cs : List Coin) (is : List TxIn) → ApartFrom p is → spent_scripts (without p cs) is ≡ spent_scripts cs is
taken_apart p cs [] h = refl
taken_apart p cs (i ∷ is) h =
    let one = filter_apart p i.from cs h.0 in
    let rest = taken_apart p cs is h.1 in
    rw (one, rest) refl

pub scripts_same : (n : ℕ) (is : List TxIn) (cs : List Coin) → missing_input n is cs ≡ None → scripts_on cs is ≡ spent_scripts cs is
scripts_same n [] cs none = refl
scripts_same n (i ∷ is) cs none = elim (cases_Bool (has_coin i.from cs)) [
  | inl e ↦
      let rest = rw e at none in
      let more = scripts_same (n + 1) is (without i.from cs) rest in
      let same = taken_apart i.from cs is (not_named i.from is (n + 1) (without i.from cs) rest (has_taken i.from cs)) in
      ap (λ (l : List Hash32). map (λ (c : Coin). c.script) (filter (is_coin_of i.from) cs) ++ l) (more ∙ same)
  | inr e ↦ let bad = rw e at none in absurd (wrong bad)
]
  where
    wrong : Some n ≡ None → ⊥
    wrong f = cc

-- they are there already
all_joined : (xs ss us : List Hash32) → AllIn xs ss → AllIn xs us → AllIn xs (ss ++ us)
all_joined xs [] us a b = b
all_joined xs (s ∷ ss) us a b = (a.0, all_joined xs ss us a.1 b)

scripts_of_coins : (scripts : List Hash32) (cs : List Coin) → AllByRecursion (λ (c : Coin). is_script_among c.script scripts ≡ true) cs → AllIn scripts (map (λ (c : Coin). c.script) cs)
scripts_of_coins scripts [] h = tt
scripts_of_coins scripts (c ∷ cs) h = (h.0, scripts_of_coins scripts cs h.1)

taken_in : (scripts : List Hash32) (cs : List Coin) (is : List TxIn) → AllByRecursion (λ (c : Coin). is_script_among c.script scripts ≡ true) cs → AllIn scripts (spent_scripts cs is)
taken_in scripts cs [] h = tt
taken_in scripts cs (i ∷ is) h =
    all_joined scripts (map (λ (c : Coin). c.script) (filter (is_coin_of i.from) cs)) (spent_scripts cs is)
    (scripts_of_coins scripts (filter (is_coin_of i.from) cs) (filter_have scripts (is_coin_of i.from) cs h)) (taken_in scripts cs is h)

gather_in : (scripts ss : List Hash32) → AllIn scripts ss → add_scripts scripts ss ≡ scripts
gather_in scripts [] all = refl
gather_in scripts (s ∷ ss) all = let there = all.0 in let rest = gather_in scripts ss all.1 in rw (there, rest) refl

-- 2. The script of each output is there

made_have : (scripts : List Hash32) (id : Hash32) (height index n : ℕ) (ps : List Position) (os : List TxOut) → AllIn scripts (map output_script os)
    → AllHave scripts (map (output n ps) (coins_made id height index os))
made_have scripts id height index n ps [] all = tt
made_have scripts id height index n ps (o ∷ os) all = (all.0, made_have scripts id height (index + 1) n ps os all.1)

pub outputs_have : (scripts : List Hash32) (n : ℕ) (ps : List Position) → AllIn scripts (flat_map concerned_scripts ps) → AllHave scripts (outputs_from n ps)
outputs_have scripts n [] all = tt
outputs_have scripts n (p ∷ ps) all =
    let own = all_from scripts (map output_script p.tx.outputs) (λ t h. all_has scripts (flat_map concerned_scripts (p ∷ ps)) t all
    (has_more t (concerned_scripts p) (flat_map concerned_scripts ps) (has_back t (spent_scripts p.before (spending_inputs p.tx)) (map output_script p.tx.outputs) h))) in
    let others = all_from scripts (flat_map concerned_scripts ps) (λ t h. all_has scripts (flat_map concerned_scripts (p ∷ ps)) t all (has_back t (concerned_scripts p) (flat_map concerned_scripts ps) h)) in
    have_joined scripts (map (output n ps) (makes p)) (outputs_from (n + 1) ps)
    (made_have scripts (txid p.tx) p.height 0 n ps p.tx.outputs own) (outputs_have scripts (n + 1) ps others)

-- 3. Inputs keep names and scripts

pub names_inputs : (m : ℕ) (is : List TxIn) (ts : List ListedTx) (xs : List Output) → Names ts xs → Names ts (settle_inputs m is xs)
names_inputs m [] ts xs names = names
names_inputs m (i ∷ is) ts xs names = names_inputs m is ts (map (settle (Spent m) i.from) xs) (names_settled (Spent m) i.from ts xs refl names)

have_inputs : (m : ℕ) (is : List TxIn) (scripts : List Hash32) (xs : List Output) → AllHave scripts xs → AllHave scripts (settle_inputs m is xs)
have_inputs m [] scripts xs have = have
have_inputs m (i ∷ is) scripts xs have = have_inputs m is scripts (map (settle (Spent m) i.from) xs) (have_settled (Spent m) i.from scripts xs have)

-- 4. The whole transaction

-- each input took an output
abbrev pub IsSound : List Position → Type 0
IsSound ps = length (ins_from (txs_from 0 0 ps) 0 ps) ≡ ins_of ps

-- a transaction after others, before which their coins stand
abbrev pub next_position : ℕ → ℕ → ℕ → Tx → List Position → Position
next_position height pos start t ps = record { height = height; pos = pos; start = start; tx = t; before = coins_of (outputs ps) }

-- its own row
listed_is : (height start : ℕ) (t : Tx) (l : Lists) (p : Position) → p.tx ≡ t → p.height ≡ height → p.start ≡ start
    → listed_after height (prepared_tx start t) l ≡ listed_position (length l.outs) (length l.ins) p
listed_is height start t l p a b c =
    let outs = length-map t.outputs value_and_script in
    let ins = length-map (spending_inputs t) (λ (i : TxIn). i.from) in
    rw (a, b, c, outs, ins) refl

pub connect_faultless : (ps : List Position) (height pos start : ℕ) (t : Tx) → IsSound ps → missing_input 0 (spending_inputs t) (coins_of (outputs ps)) ≡ None
    → connect_tx height (prepared_tx start t) (lists_of ps) ≡ Ok (lists_of (ps ++ next_position height pos start t ps ∷ []))
connect_faultless ps height pos start t sound none =
    let p = next_position height pos start t ps in
    let ts = txs_from 0 0 ps in
    let m = length ts in
    let xs = outputs ps in
    let cs = coins_of xs in
    let is = spending_inputs t in
    let os = t.outputs in
    let ins = ins_from ts 0 ps in
    let scripts = scripts_of ps in
    let es = entries_from scripts 0 ps in
    let row = listed_after height (prepared_tx start t) (lists_of ps) in
    let taken = spent_scripts cs is in
    let made = map output_script os in
    let count = length_txs 0 0 ps in
    let names = names_all ps in
    let met_all = all_met ps in
    let have = outputs_have scripts 0 ps met_all in
    let xs1 = settle_inputs m is xs in
    let ins1 = ins ++ spent_numbers ts is in
    let es1 = touched m scripts (scripts_on cs is) es in
    let all_taken = taken_in scripts cs is (coins_have scripts xs have) in
    let still = gather_in scripts taken all_taken in
    let inputs_done : spend_all m 0 (points is) (lists_of ps) ≡ Ok (lists_at ts xs1 ins1 scripts es1) =
    spend_all_is m is 0 ts xs ins scripts es names have ∙ ap (λ (r : Option ℕ). outcome r (after_taking m is ts xs ins scripts es)) none in
    let begun : add_tx row (lists_at ts xs1 ins1 scripts es1) ≡ lists_with ts row xs1 [] ins1 scripts es1 =
    ap (λ (l : List Output). let r : Lists = record { txs = ts ++ row ∷ []; outs = map (listed_out scripts) l; ins = ins1; scripts = scripts; entries = es1 } in r)
    (sym (append-nil xs1)) in
    let outputs_done : fund_all m 0 (map value_and_script os) (add_tx row (lists_at ts xs1 ins1 scripts es1))
    ≡ lists_with ts row (bury_outputs m (txid t) 0 os xs1) (map (output m []) (makes p)) ins1 (add_scripts scripts made) (touched m scripts made es1) =
    ap (fund_all m 0 (map value_and_script os)) begun
    ∙ fund_all_is os 0 height ts row xs1 [] ins1 scripts es1 (names_inputs m is ts xs names) (have_joined scripts xs1 [] (have_inputs m is scripts xs have) tt) in
    let whole = whole_settles m p xs in
    let more = scripts_more ps p in
    let all_scripts : add_scripts scripts made ≡ scripts_of (ps ++ p ∷ []) =
    sym (more ∙ gather_joined scripts taken made ∙ ap (λ (l : List Hash32). add_scripts l made) still) in
    let e_txs : ts ++ row ∷ [] ≡ txs_from 0 0 (ps ++ p ∷ []) =
    ap (λ (r : ListedTx). ts ++ r ∷ []) (listed_is height start t (lists_of ps) p refl refl refl) ∙ sym (txs_more 0 0 (length (map (listed_out scripts) xs)) (length ins) ps p (let a = length-map xs (listed_out scripts) in let b = length_outputs 0 ps in omega arith) (omega arith)) in
    let e_outs : map (listed_out (add_scripts scripts made)) (bury_outputs m (txid t) 0 os xs1 ++ map (output m []) (makes p))
    ≡ map (listed_out (scripts_of (ps ++ p ∷ []))) (outputs (ps ++ p ∷ [])) =
    ap₂ (λ (ss : List Hash32) (l : List Output). map (listed_out ss) l) all_scripts
    (ap (λ (l : List Output). l ++ map (output m []) (makes p)) whole ∙ sym (outputs_more 0 m ps p (omega arith))) in
    let e_ins : ins1 ≡ ins_from (txs_from 0 0 (ps ++ p ∷ [])) 0 (ps ++ p ∷ []) =
    sym (ins_more ts row 0 ps p (omega arith)) ∙ ap (λ (us : List ListedTx). ins_from us 0 (ps ++ p ∷ [])) e_txs in
    let keeps : Keeps scripts (scripts_of (ps ++ p ∷ [])) = λ s h. ap (script_number s) more ∙ (gather_keeps (concerned_scripts p) s scripts h).1 in
    let touches : touched m scripts made es1 ≡ es ++ map (entry_of (scripts_of (ps ++ p ∷ [])) m) (add_scripts [] (concerned_scripts p)) =
    ap (λ (l : List Hash32). touched m scripts made (touched m scripts l es)) (scripts_same 0 is cs none)
    ∙ ap (λ (l : List Hash32). touched m l made (touched m scripts taken es)) (sym still)
    ∙ sym (touched_joined m taken made scripts es)
    ∙ touched_is m scripts (concerned_scripts p) es (no_tx_yet scripts 0 m ps (omega arith))
    ∙ ap (λ (ss : List Hash32). es ++ map (entry_of ss m) (add_scripts [] (concerned_scripts p))) (sym more) in
    let e_entries : touched m scripts made es1 ≡ entries_from (scripts_of (ps ++ p ∷ [])) 0 (ps ++ p ∷ []) =
    touches
    ∙ ap (λ (l : List ListedEntry). l ++ map (entry_of (scripts_of (ps ++ p ∷ [])) m) (add_scripts [] (concerned_scripts p)))
    (sym (entries_same scripts (scripts_of (ps ++ p ∷ [])) 0 ps keeps met_all))
    ∙ sym (entries_more (scripts_of (ps ++ p ∷ [])) 0 m ps p (omega arith)) in
    ap (λ (r : Result Lists ℕ). r >>= (λ spent. Ok (fund_all m 0 (map value_and_script os) (add_tx row spent)))) inputs_done
    ∙ ap (λ (n : Lists). Ok n) (outputs_done ∙ lists_same _ _ _ _ _ _ _ _ _ _ e_txs e_outs e_ins all_scripts e_entries)

pub connect_refused : (ps : List Position) (height pos start : ℕ) (t : Tx) (input : ℕ) → missing_input 0 (spending_inputs t) (coins_of (outputs ps)) ≡ Some input
    → connect_tx height (prepared_tx start t) (lists_of ps) ≡ Err input
connect_refused ps height pos start t input some =
    let ts = txs_from 0 0 ps in
    let m = length ts in
    let is = spending_inputs t in
    let scripts = scripts_of ps in
    let have = outputs_have scripts 0 ps (all_met ps) in
    let done = spend_all_is m is 0 ts (outputs ps) (ins_from ts 0 ps) scripts (entries_from scripts 0 ps) (names_all ps) have in
    ap (λ (r : Result Lists ℕ). r >>= (λ spent. Ok (fund_all m 0 (map value_and_script t.outputs) (add_tx (listed_after height (prepared_tx start t) (lists_of ps)) spent))))
    (done ∙ ap (λ (r : Option ℕ). outcome r (after_taking m is ts (outputs ps) (ins_from ts 0 ps) scripts (entries_from scripts 0 ps))) some)

-- each input of the new transaction took an output too
pub sound_more : (ps : List Position) (height pos start : ℕ) (t : Tx) → IsSound ps → missing_input 0 (spending_inputs t) (coins_of (outputs ps)) ≡ None
    → IsSound (ps ++ next_position height pos start t ps ∷ [])
sound_more ps height pos start t sound none =
    let p = next_position height pos start t ps in
    let ts = txs_from 0 0 ps in
    let row = listed_position (outs_of ps) (ins_of ps) p in
    let count = length_txs 0 0 ps in
    let txs = txs_more 0 0 (outs_of ps) (ins_of ps) ps p (omega arith) (omega arith) in
    let ins = ins_more ts row 0 ps p (omega arith) in
    let joined = length-append (ins_from ts 0 ps) (spent_numbers ts (spending_inputs t)) in
    let own = all_numbered (spending_inputs t) 0 ts (outputs ps) (names_all ps) none in
    let many = ins_joined ps p in
    rw (txs, ins, many, joined) (omega arith)
  where
    ins_joined : (qs : List Position) (q : Position) → ins_of (qs ++ q ∷ []) ≡ ins_of qs + length (spending_inputs q.tx)
    ins_joined [] q = omega arith
    ins_joined (x ∷ xs) q = let rest = ins_joined xs q in omega arith
