-- A transaction's inputs and outputs, one by one, lead from the lists of transactions to those with it.
use Rattle.std.proofs.Common.{◌≡◌, inl, inr, ℕ, zero, suc, ◌+◌, ◌<◌, Bool, true, false, List, [], ◌∷◌, ◌++◌, length, map, filter, get_or, Option, None, Some, Result, Ok, Err, option_and_then, option_to_list, refl, ap, sym, ◌∙◌, append_assoc, append-nil, arith}
use Rattle.std.proofs.lemmas.Bool.{cases_Bool}
use Rattle.std.proofs.lemmas.List.{map-append, get_or_at, length-map, take_at}
use Rattle.std.specs.List.{AllByRecursion}
use Rattle.el_base.specs.declared.hash.Hash32.{Hash32}
use Rattle.el_tx.specs.declared.types.Outpoint.{Outpoint}
use Rattle.el_tx.specs.declared.types.TxIn.{TxIn}
use Rattle.el_tx.specs.declared.types.TxOut.{TxOut}
use Rattle.el_chain.specs.RowCounts.{is_script_among, add_script, output_script, add_scripts}
use Rattle.el_chain.specs.declared.coin.Coin.{Coin}
use Rattle.el_chain.specs.Chains.{zero_hash}
use Rattle.el_chain.specs.Coins.{is_coin_of, without, coin_made}
use Rattle.el_chain.specs.CoinLaws.{coins_made}
use Rattle.el_chain.specs.Faults.{has_coin, missing_input}
use Rattle.el_tables.specs.Lists.{ListedTx, ListedOut, ListedEntry, Lists, State, is_unspent, output_number, unspent_at, with_state, script_at, coin_number, if_unspent, script_number, append_entry, add_entry, spend_output, bury}
use Rattle.el_tables.specs.Lists.State.{Spent, Buried}
use Rattle.el_tables.specs.ChainLists.{Output, output, listed_out, spent_numbers}
use Rattle.el_prepare.specs.Prepared.{value_and_script}
use Rattle.el_tables.specs.Connecting.{script_of_output, spend_all, fund, fund_all}
use Rattle.el_tables.proofs.Outputs.{coins_of}
use Rattle.el_tables.proofs.Names.{NamesBy, Names, settle, settle_none, settle_at, names_settled, coins_settled, Found, none_coins, found, at_within, dead_at}
use Rattle.el_tables.proofs.Scripts.{Keeps, once_keeps, once_has, number_at, touched}

-- 1. Parts

-- the script of each output is there
abbrev pub AllHave : List Hash32 → List Output → Type 0
AllHave scripts xs = AllByRecursion (λ (x : Output). is_script_among x.coin.script scripts ≡ true) xs

pub have_settled : (s : State) (o : Outpoint) (scripts : List Hash32) (xs : List Output) → AllHave scripts xs → AllHave scripts (map (settle s o) xs)
have_settled s o scripts [] h = tt
have_settled s o scripts (x ∷ xs) h = (h.0, have_settled s o scripts xs h.1)

pub have_joined : (scripts : List Hash32) (xs ys : List Output) → AllHave scripts xs → AllHave scripts ys → AllHave scripts (xs ++ ys)
have_joined scripts [] ys a b = b
have_joined scripts (x ∷ xs) ys a b = (a.0, have_joined scripts xs ys a.1 b)

pub have_front : (scripts : List Hash32) (xs ys : List Output) → AllHave scripts (xs ++ ys) → AllHave scripts xs
have_front scripts [] ys h = tt
have_front scripts (x ∷ xs) ys h = (h.0, have_front scripts xs ys h.1)

pub have_back : (scripts : List Hash32) (xs ys : List Output) → AllHave scripts (xs ++ ys) → AllHave scripts ys
have_back scripts [] ys h = h
have_back scripts (x ∷ xs) ys h = have_back scripts xs ys h.1

pub have_once : (s : Hash32) (scripts : List Hash32) (xs : List Output) → AllHave scripts xs → AllHave (add_script s scripts) xs
have_once s scripts [] h = tt
have_once s scripts (x ∷ xs) h = ((once_keeps s x.coin.script scripts h.0).0, have_once s scripts xs h.1)

-- outputs are listed as before where the numbers stay
pub listed_kept : (a b : List Hash32) (xs : List Output) → Keeps a b → AllHave a xs → map (listed_out b) xs ≡ map (listed_out a) xs
listed_kept a b [] keeps h = refl
listed_kept a b (x ∷ xs) keeps h =
    let one = keeps x.coin.script h.0 in
    let rest = listed_kept a b xs keeps h.1 in
    rw (one, rest) refl

-- so does the script of each coin
pub coins_have : (scripts : List Hash32) (xs : List Output) → AllHave scripts xs → AllByRecursion (λ (c : Coin). is_script_among c.script scripts ≡ true) (coins_of xs)
coins_have scripts [] h = tt
coins_have scripts (x ∷ xs) h = elim (cases_Bool (is_unspent x.state)) [
  | inl u ↦ rw u (h.0, coins_have scripts xs h.1)
  | inr u ↦ rw u (coins_have scripts xs h.1)
]

pub filter_have : (scripts : List Hash32) (test : Coin → Bool) (cs : List Coin) → AllByRecursion (λ (c : Coin). is_script_among c.script scripts ≡ true) cs
    → AllByRecursion (λ (c : Coin). is_script_among c.script scripts ≡ true) (filter test cs)
filter_have scripts test [] h = tt
filter_have scripts test (c ∷ cs) h = elim (cases_Bool (test c)) [
  | inl e ↦ rw e (h.0, filter_have scripts test cs h.1)
  | inr e ↦ rw e (filter_have scripts test cs h.1)
]

found_has : (scripts : List Hash32) (o : Outpoint) (xs : List Output) (c : Coin) → AllHave scripts xs → filter (is_coin_of o) (coins_of xs) ≡ c ∷ [] → is_script_among c.script scripts ≡ true
found_has scripts o xs c h is =
    let all = filter_have scripts (is_coin_of o) (coins_of xs) (coins_have scripts xs h) in
    let one = rw is at all in
    one.0

-- whether there is one
any_of : (o : Outpoint) (cs : List Coin) (c : Coin) (more : List Coin) → filter (is_coin_of o) cs ≡ c ∷ more → has_coin o cs ≡ true
any_of o [] c more e = absurd (bad e)
  where
    bad : [] ≡ c ∷ more → ⊥
    bad f = cc
any_of o (x ∷ xs) c more e = elim (cases_Bool (is_coin_of o x)) [
  | inl h ↦ rw h refl
  | inr h ↦ let rest = rw h at e in rw h (any_of o xs c more rest)
]

pub none_of : (o : Outpoint) (cs : List Coin) → filter (is_coin_of o) cs ≡ [] → has_coin o cs ≡ false
none_of o [] e = refl
none_of o (x ∷ xs) e = elim (cases_Bool (is_coin_of o x)) [
  | inl h ↦ let bad = rw h at e in absurd (wrong bad)
  | inr h ↦ let rest = rw h at e in rw h (none_of o xs rest)
]
  where
    wrong : x ∷ filter (is_coin_of o) xs ≡ [] → ⊥
    wrong f = cc

pub named_of : (outs : List ListedOut) (r : Option ℕ) (k : ℕ) → option_and_then (if_unspent outs) r ≡ Some k → r ≡ Some k
named_of outs None k e = e
named_of outs (Some n) k e = elim (cases_Bool (unspent_at n outs)) [
  | inl h ↦ let f = rw h at e in f
  | inr h ↦ let f = rw h at e in absurd (wrong f)
]
  where
    wrong : None ≡ Some k → ⊥
    wrong f = cc

-- 2. Inputs

abbrev pub lists_at : List ListedTx → List Output → List ℕ → List Hash32 → List ListedEntry → Lists
lists_at ts xs ins scripts es = record { txs = ts; outs = map (listed_out scripts) xs; ins = ins; scripts = scripts; entries = es }

pub lists_same : (ts us : List ListedTx) (os ps : List ListedOut) (is js : List ℕ) (ss zs : List Hash32) (es fs : List ListedEntry)
    → ts ≡ us → os ≡ ps → is ≡ js → ss ≡ zs → es ≡ fs
    → record { txs = ts; outs = os; ins = is; scripts = ss; entries = es } ≡ (let r : Lists = record { txs = us; outs = ps; ins = js; scripts = zs; entries = fs } in r)
lists_same ts us os ps is js ss zs es fs a b c d e = rw (a, b, c, d, e) refl

-- the outpoints of inputs
abbrev pub points : List TxIn → List Outpoint
points is = map (λ (i : TxIn). i.from) is

-- what inputs leave of outputs
abbrev pub settle_inputs : ℕ → List TxIn → List Output → List Output
settle_inputs by [] xs = xs
settle_inputs by (i ∷ is) xs = settle_inputs by is (map (settle (Spent by) i.from) xs)

-- the scripts of the coins that inputs take, each of what the others left
abbrev pub scripts_on : List Coin → List TxIn → List Hash32
scripts_on cs [] = []
scripts_on cs (i ∷ is) = map (λ (c : Coin). c.script) (filter (is_coin_of i.from) cs) ++ scripts_on (without i.from cs) is

-- how it ends
abbrev pub outcome : Option ℕ → Lists → Result Lists ℕ
outcome None n = Ok n
outcome (Some at) n = Err at

-- the lists after inputs
abbrev pub after_taking : ℕ → List TxIn → List ListedTx → List Output → List ℕ → List Hash32 → List ListedEntry → Lists
after_taking by is ts xs ins scripts es =
    lists_at ts (settle_inputs by is xs) (ins ++ spent_numbers ts is) scripts (touched by scripts (scripts_on (coins_of xs) is) es)

input_case : (by at : ℕ) (i : TxIn) (is : List TxIn) (ts : List ListedTx) (xs : List Output) (ins : List ℕ) (scripts : List Hash32) (es : List ListedEntry) → AllHave scripts xs
    → ((jns : List ℕ) (fs : List ListedEntry) → spend_all by (at + 1) (points is) (lists_at ts (map (settle (Spent by) i.from) xs) jns scripts fs)
    ≡ outcome (missing_input (at + 1) is (coins_of (map (settle (Spent by) i.from) xs))) (after_taking by is ts (map (settle (Spent by) i.from) xs) jns scripts fs))
    → (r : Option ℕ) → coin_number i.from ts (map (listed_out scripts) xs) ≡ r → Found i.from scripts xs r
    → spend_all by at (points (i ∷ is)) (lists_at ts xs ins scripts es) ≡ outcome (missing_input at (i ∷ is) (coins_of xs)) (after_taking by (i ∷ is) ts xs ins scripts es)
input_case by at i is ts xs ins scripts es have next None e f =
    let none = none_of i.from (coins_of xs) (none_coins i.from xs f) in
    rw (e, none) refl
input_case by at i is ts xs ins scripts es have next (Some k) e f =
    let some = any_of i.from (coins_of xs) f.coin [] f.is in
    let there = found_has scripts i.from xs f.coin have f.is in
    let name = named_of (map (listed_out scripts) xs) (output_number i.from ts) k e in
    let left = coins_settled (Spent by) i.from xs refl in
    let go = next (ins ++ k ∷ []) (append_entry by (script_number f.coin.script scripts) es) in
    let moved = sym (settle_at (Spent by) k i.from scripts xs f.at f.there) in
    let at_script = f.script in
    let hash : get_or scripts (script_at k (map (listed_out scripts) xs)) zero_hash ≡ f.coin.script =
    ap (λ (n : ℕ). get_or scripts n zero_hash) at_script ∙ number_at f.coin.script zero_hash scripts there in
    let stepped : add_entry (script_of_output k (lists_at ts xs ins scripts es)) by (spend_output by k (lists_at ts xs ins scripts es))
    ≡ lists_at ts (map (settle (Spent by) i.from) xs) (ins ++ k ∷ []) scripts (append_entry by (script_number f.coin.script scripts) es) =
    rw (hash, ← moved, there) refl in
    let concerned_scripts = f.is in
    let joined = append_assoc ins (k ∷ []) (spent_numbers ts is) in
    let ended : outcome (missing_input (at + 1) is (coins_of (map (settle (Spent by) i.from) xs)))
    (after_taking by is ts (map (settle (Spent by) i.from) xs) (ins ++ k ∷ []) scripts (append_entry by (script_number f.coin.script scripts) es))
    ≡ outcome (missing_input at (i ∷ is) (coins_of xs)) (after_taking by (i ∷ is) ts xs ins scripts es) =
    rw (left, some, name, concerned_scripts, there, joined) refl in
    rw e (ap (spend_all by (at + 1) (points is)) stepped ∙ go ∙ ended)

pub spend_all_is : (by : ℕ) (is : List TxIn) (at : ℕ) (ts : List ListedTx) (xs : List Output) (ins : List ℕ) (scripts : List Hash32) (es : List ListedEntry)
    → Names ts xs → AllHave scripts xs
    → spend_all by at (points is) (lists_at ts xs ins scripts es) ≡ outcome (missing_input at is (coins_of xs)) (after_taking by is ts xs ins scripts es)
spend_all_is by [] at ts xs ins scripts es names have = ap (λ (l : List ℕ). Ok (lists_at ts xs l scripts es)) (sym (append-nil ins))
spend_all_is by (i ∷ is) at ts xs ins scripts es names have =
    input_case by at i is ts xs ins scripts es have
    (λ jns fs. spend_all_is by is (at + 1) ts (map (settle (Spent by) i.from) xs) jns scripts fs (names_settled (Spent by) i.from ts xs refl names)
    (have_settled (Spent by) i.from scripts xs have))
    (coin_number i.from ts (map (listed_out scripts) xs)) refl (found i.from ts scripts xs names)

numbered_case : (i : TxIn) (is : List TxIn) (ts : List ListedTx) (xs : List Output) (r : Option ℕ) → NamesBy i.from r xs → has_coin i.from (coins_of xs) ≡ true
    → length (spent_numbers ts is) ≡ length is → length (option_to_list r ++ spent_numbers ts is) ≡ suc (length is)
numbered_case i is ts xs None f h more = absurd (bad (sym h ∙ none_of i.from (coins_of xs) (none_coins i.from xs f)))
  where
    bad : true ≡ false → ⊥
    bad g = cc
numbered_case i is ts xs (Some k) f h more = ap suc more

-- inputs whose coins are there each take an output
pub all_numbered : (is : List TxIn) (at : ℕ) (ts : List ListedTx) (xs : List Output) → Names ts xs → missing_input at is (coins_of xs) ≡ None
    → length (spent_numbers ts is) ≡ length is
all_numbered [] at ts xs names none = refl
all_numbered (i ∷ is) at ts xs names none = elim (cases_Bool (has_coin i.from (coins_of xs))) [
  | inl h ↦
      let rest = rw h at none in
      let left = coins_settled (Spent 0) i.from xs refl in
      let more = all_numbered is (at + 1) ts (map (settle (Spent 0) i.from) xs) (names_settled (Spent 0) i.from ts xs refl names) (rw left rest) in
      numbered_case i is ts xs (output_number i.from ts) (names i.from) h more
  | inr h ↦ let bad = rw h at none in absurd (wrong bad)
]
  where
    wrong : Some at ≡ None → ⊥
    wrong f = cc

-- 3. Outputs

pub unspent_front : (k : ℕ) (xs ys : List ListedOut) → k < length xs → unspent_at k (xs ++ ys) ≡ unspent_at k xs
unspent_front k [] ys lt = absurd (omega arith)
unspent_front zero (x ∷ xs) ys lt = refl
unspent_front (suc k) (x ∷ xs) ys lt = unspent_front k xs ys (omega arith)

pub length_state : (s : State) (k : ℕ) (xs : List ListedOut) → length (with_state s k xs) ≡ length xs
length_state s k [] = refl
length_state s zero (x ∷ xs) = refl
length_state s (suc k) (x ∷ xs) = ap suc (length_state s k xs)

pub state_front : (s : State) (k : ℕ) (xs ys : List ListedOut) → k < length xs → with_state s k (xs ++ ys) ≡ with_state s k xs ++ ys
state_front s k [] ys lt = absurd (omega arith)
state_front s zero (x ∷ xs) ys lt = refl
state_front s (suc k) (x ∷ xs) ys lt = ap (λ (l : List ListedOut). x ∷ l) (state_front s k xs ys (omega arith))

-- what is buried, where more outputs stand after
buried_case : (by : ℕ) (o : Outpoint) (scripts : List Hash32) (xs new : List Output) (r : Option ℕ) → NamesBy o r xs
    → bury by (option_and_then (if_unspent (map (listed_out scripts) (xs ++ new))) r) (map (listed_out scripts) (xs ++ new))
    ≡ map (listed_out scripts) (map (settle (Buried by) o) xs ++ new)
buried_case by o scripts xs new None h = let same = settle_none (Buried by) o xs h in rw same refl
buried_case by o scripts xs new (Some k) h =
    let whole = map-append (listed_out scripts) xs new in
    let after = map-append (listed_out scripts) (map (settle (Buried by) o) xs) new in
    let within = at_within k o xs h in
    let long = length-map xs (listed_out scripts) in
    let lt : k < length (map (listed_out scripts) xs) = omega arith in
    let seen = unspent_front k (map (listed_out scripts) xs) (map (listed_out scripts) new) lt in
    let set = state_front (Buried by) k (map (listed_out scripts) xs) (map (listed_out scripts) new) lt in
    elim (cases_Bool (unspent_at k (map (listed_out scripts) xs))) [
      | inl u ↦ let moved = settle_at (Buried by) k o scripts xs h u in rw (whole, after, seen, u, moved) set
      | inr u ↦ let same = settle_none (Buried by) o xs (dead_at k o scripts xs h u) in rw (whole, same, seen, u) (sym whole)
    ]

buried : (by : ℕ) (o : Outpoint) (ts : List ListedTx) (scripts : List Hash32) (xs new : List Output) → Names ts xs
    → bury by (coin_number o ts (map (listed_out scripts) (xs ++ new))) (map (listed_out scripts) (xs ++ new)) ≡ map (listed_out scripts) (map (settle (Buried by) o) xs ++ new)
buried by o ts scripts xs new names = buried_case by o scripts xs new (output_number o ts) (names o)

-- the lists with a transaction, and some of its outputs after those before
abbrev pub lists_with : List ListedTx → ListedTx → List Output → List Output → List ℕ → List Hash32 → List ListedEntry → Lists
lists_with ts t xs new ins scripts es = record { txs = ts ++ t ∷ []; outs = map (listed_out scripts) (xs ++ new); ins = ins; scripts = scripts; entries = es }

-- what outputs of a transaction with that txid, of which the first has that index, leave of those before
abbrev pub bury_outputs : ℕ → Hash32 → ℕ → List TxOut → List Output → List Output
bury_outputs by id index [] xs = xs
bury_outputs by id index (o ∷ os) xs = bury_outputs by id (index + 1) os (map (settle (Buried by) (record { txid = id; index = index })) xs)

one_output : (ts : List ListedTx) (t : ListedTx) (height index : ℕ) (o : TxOut) (xs new : List Output) (ins : List ℕ) (scripts : List Hash32) (es : List ListedEntry)
    → Names ts xs → AllHave scripts (xs ++ new)
    → fund (length ts) index (value_and_script o) (lists_with ts t xs new ins scripts es)
    ≡ lists_with ts t (map (settle (Buried (length ts)) (record { txid = t.txid; index = index })) xs) (new ++ output (length ts) [] (coin_made t.txid height index o) ∷ [])
    ins (add_script (output_script o) scripts) (append_entry (length ts) (script_number (output_script o) scripts) es)
one_output ts t height index o xs new ins scripts es names have =
    let m = length ts in
    let more = add_script (output_script o) scripts in
    let point : Outpoint = record { txid = t.txid; index = index } in
    let fresh = output m [] (coin_made t.txid height index o) in
    let ids = map-append (λ (u : ListedTx). u.txid) ts (t ∷ []) in
    let id = get_or_at (map (λ (u : ListedTx). u.txid) ts) t.txid [] zero_hash m (length-map ts (λ (u : ListedTx). u.txid)) in
    let before = take_at ts (t ∷ []) m refl in
    let kept = sym (listed_kept scripts more (xs ++ new) (λ s h. (once_keeps (output_script o) s scripts h).1) have) in
    let buries = buried m point ts more xs new names in
    let joined = append_assoc (map (settle (Buried m) point) xs) new (fresh ∷ []) in
    let listed = map-append (listed_out more) (map (settle (Buried m) point) xs ++ new) (fresh ∷ []) in
    let outs : bury m (coin_number point ts (map (listed_out more) (xs ++ new))) (map (listed_out more) (xs ++ new)) ++ listed_out more fresh ∷ []
    ≡ map (listed_out more) (map (settle (Buried m) point) xs ++ (new ++ fresh ∷ [])) =
    ap (λ (l : List ListedOut). l ++ listed_out more fresh ∷ []) buries ∙ sym (ap (map (listed_out more)) (sym joined) ∙ listed) in
    rw (ids, id, before, kept) (ap (λ (l : List ListedOut). record { txs = ts ++ t ∷ []; outs = l; ins = ins; scripts = more; entries = append_entry m (script_number (output_script o) scripts) es }) outs)

pub fund_all_is : (os : List TxOut) (index height : ℕ) (ts : List ListedTx) (t : ListedTx) (xs new : List Output) (ins : List ℕ) (scripts : List Hash32) (es : List ListedEntry)
    → Names ts xs → AllHave scripts (xs ++ new)
    → fund_all (length ts) index (map value_and_script os) (lists_with ts t xs new ins scripts es)
    ≡ lists_with ts t (bury_outputs (length ts) t.txid index os xs) (new ++ map (output (length ts) []) (coins_made t.txid height index os))
    ins (add_scripts scripts (map output_script os)) (touched (length ts) scripts (map output_script os) es)
fund_all_is [] index height ts t xs new ins scripts es names have = ap (λ (l : List Output). lists_with ts t xs l ins scripts es) (sym (append-nil new))
fund_all_is (o ∷ os) index height ts t xs new ins scripts es names have =
    let m = length ts in
    let more = add_script (output_script o) scripts in
    let fs = append_entry m (script_number (output_script o) scripts) es in
    let point : Outpoint = record { txid = t.txid; index = index } in
    let fresh = output m [] (coin_made t.txid height index o) in
    let left = map (settle (Buried m) point) xs in
    let all = have_once (output_script o) scripts (xs ++ new) have in
    let front = have_settled (Buried m) point more xs (have_front more xs new all) in
    let back = have_joined more new (fresh ∷ []) (have_back more xs new all) ((once_has (output_script o) scripts).0, tt) in
    let rest = fund_all_is os (index + 1) height ts t left (new ++ fresh ∷ []) ins more fs (names_settled (Buried m) point ts xs refl names)
    (have_joined more left (new ++ fresh ∷ []) front back) in
    ap (fund_all m (index + 1) (map value_and_script os)) (one_output ts t height index o xs new ins scripts es names have)
    ∙ rest
    ∙ ap (λ (l : List Output). lists_with ts t (bury_outputs m t.txid (index + 1) os left) l ins (add_scripts more (map output_script os)) (touched m more (map output_script os) fs))
    (append_assoc new (fresh ∷ []) (map (output m []) (coins_made t.txid height (index + 1) os)))
