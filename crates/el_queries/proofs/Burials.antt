-- Which outputs a transaction buries, in the lists of all transactions: those of the coins before it whose outpoints it makes again, but for the ones that it takes itself.
use Rattle.std.proofs.Common.{◌≡◌, inl, inr, ℕ, zero, suc, ◌+◌, ◌<◌, ◌≤◌, Bool, true, false, not, ◌&&◌, ◌||◌, List, [], ◌∷◌, ◌++◌, length, map, take, get_or, slice_get, Option, None, Some, option_and_then, refl, ap, ap₂, sym, ◌∙◌, arith, append_assoc, eq-eqb, ne_eqb}
use Rattle.std.proofs.lemmas.Bool.{cases_Bool, and_right}
use Rattle.std.proofs.lemmas.List.{map-append}
use Rattle.std.specs.List.{list_any}
use Rattle.std.specs.Option.{option_map_or}
use Rattle.std.specs.Str.{bytes_eq}
use Rattle.el_base.specs.declared.hash.Hash32.{Hash32}
use Rattle.el_tx.specs.declared.types.Outpoint.{Outpoint}
use Rattle.el_tx.specs.declared.types.TxIn.{TxIn}
use Rattle.el_tx.specs.declared.types.TxOut.{TxOut}
use Rattle.el_tx.specs.declared.types.Tx.{Tx}
use Rattle.el_tx.specs.Hashing.{txid, same_outpoint, is_coinbase}
use Rattle.el_chain.specs.declared.coin.Coin.{Coin}
use Rattle.el_chain.specs.Chains.{zero_hash}
use Rattle.el_chain.specs.Coins.{is_coin_of}
use Rattle.el_chain.specs.CoinLaws.{coins_made, makes, takes}
use Rattle.el_chain.specs.Headers.{same_hash}
use Rattle.el_chain.specs.History.{Position, has_own, spends}
use Rattle.el_chain.specs.RowCounts.{is_script_among, spending_inputs}
use Rattle.el_chain.proofs.CoinLists.{same_gives}
use Rattle.el_chain.proofs.TouchLemmas.{same_turned}
use Rattle.el_tables.specs.Lists.{ListedTx, ListedOut, State, is_unspent, output_number, script_number, txid_at}
use Rattle.el_tables.specs.Lists.State.{Unspent, Spent, Buried}
use Rattle.el_tables.specs.ChainLists.{Output, state_after, makes_outpoint, output, outputs_from, outputs, listed_position, txs_from, scripts_of, listed_out, lists_of}
use Rattle.el_tables.specs.Disconnecting.{is_buried_by}
use Rattle.el_tables.specs.Queries.{outs_at}
use Rattle.el_tables.specs.Tables.{numbers_from}
use Rattle.el_tables.proofs.Disconnects.{NotBy}
use Rattle.el_tables.proofs.Names.{live, NoneLive, OnlyAt, NamesBy, makes_at}
use Rattle.el_tables.proofs.Numbering.{names_all}
use Rattle.el_tables.proofs.Outputs.{coins_of}
use Rattle.el_tables.proofs.Scripts.{hash_from, number_at, number_within}
use Rattle.el_tables.proofs.Steps.{AllHave}
use Rattle.el_queries.specs.within.LastBlock.{is_at, buries_at, buries}
use Rattle.el_queries.proofs.Law.{true_false, any_weaker}

-- 1. Outputs, after later transactions

abbrev pub later : Outpoint → ℕ → List Position → State → State
later o m qs Unspent = state_after o m qs
later o m qs (Spent k) = Spent k
later o m qs (Buried k) = Buried k

abbrev pub later_out : ℕ → List Position → Output → Output
later_out m qs x = record { tx = x.tx; coin = x.coin; state = later x.coin.outpoint m qs x.state }

state_joined : (o : Outpoint) (n m : ℕ) (ps qs : List Position) → m ≡ n + length ps → state_after o n (ps ++ qs) ≡ later o m qs (state_after o n ps)
state_joined o n m [] qs at = let e : m ≡ n = omega arith in rw e refl
state_joined o n m (p ∷ ps) qs at = elim (cases_Bool (takes o p.tx)) [
  | inl h ↦ rw h refl
  | inr h ↦ elim (cases_Bool (makes_outpoint o p)) [
    | inl k ↦ rw (h, k) refl
    | inr k ↦ rw (h, k) (state_joined o (n + 1) m ps qs (omega arith))
  ]
]

made_joined : (n m : ℕ) (ps qs : List Position) (cs : List Coin) → m ≡ n + 1 + length ps → map (output n (ps ++ qs)) cs ≡ map (later_out m qs) (map (output n ps) cs)
made_joined n m ps qs [] at = refl
made_joined n m ps qs (c ∷ cs) at =
    let first = state_joined c.outpoint (n + 1) m ps qs at in
    let rest = made_joined n m ps qs cs at in
    rw (first, rest) refl

pub outputs_joined : (n m : ℕ) (ps qs : List Position) → m ≡ n + length ps → outputs_from n (ps ++ qs) ≡ map (later_out m qs) (outputs_from n ps) ++ outputs_from m qs
outputs_joined n m [] qs at = let e : n ≡ m = omega arith in rw e refl
outputs_joined n m (p ∷ ps) qs at =
    let first = made_joined n m ps qs (makes p) (omega arith) in
    let rest = outputs_joined (n + 1) m ps qs (omega arith) in
    rw (first, rest) (
    sym (append_assoc (map (later_out m qs) (map (output n ps) (makes p))) (map (later_out m qs) (outputs_from (n + 1) ps)) (outputs_from m qs))
    ∙ ap (λ (l : List Output). l ++ outputs_from m qs) (sym (map-append (later_out m qs) (map (output n ps) (makes p)) (outputs_from (n + 1) ps)))
    )

pub txs_front : (a b : ℕ) (ps qs : List Position) → take (length ps) (txs_from a b (ps ++ qs)) ≡ txs_from a b ps
txs_front a b [] qs = refl
txs_front a b (p ∷ ps) qs =
    ap (λ (l : List ListedTx). listed_position a b p ∷ l) (txs_front (a + length p.tx.outputs) (b + length (spending_inputs p.tx)) ps qs)

-- 2. No output is buried by a transaction that is still to come

not_joined : (m : ℕ) (xs ys : List Output) → NotBy m xs → NotBy m ys → NotBy m (xs ++ ys)
not_joined m [] ys a b = b
not_joined m (x ∷ xs) ys a b = (a.0, not_joined m xs ys a.1 b)

state_below : (m : ℕ) (o : Outpoint) (n : ℕ) (ps : List Position) → n + length ps ≤ m → is_buried_by m (state_after o n ps) ≡ false
state_below m o n [] le = refl
state_below m o n (p ∷ ps) le = elim (cases_Bool (takes o p.tx)) [
  | inl h ↦ rw h refl
  | inr h ↦ elim (cases_Bool (makes_outpoint o p)) [
    | inl k ↦ rw (h, k) (ne_eqb n m (λ e. omega arith))
    | inr k ↦ rw (h, k) (state_below m o (n + 1) ps (omega arith))
  ]
]

pub none_buried : (m n : ℕ) (ps : List Position) → n + length ps ≤ m → NotBy m (outputs_from n ps)
none_buried m n [] le = tt
none_buried m n (p ∷ ps) le = not_joined m (map (output n ps) (makes p)) (outputs_from (n + 1) ps) (own (makes p)) (none_buried m (n + 1) ps (omega arith))
  where
    own : (cs : List Coin) → NotBy m (map (output n ps) cs)
    own [] = tt
    own (c ∷ cs) = (state_below m c.outpoint (n + 1) ps (omega arith), own cs)

-- 3. Own coins among outputs

own_dead : (s : List ℕ) (o : Outpoint) (x : Output) (xs : List Output) → live o x ≡ false → has_own s (coins_of (x ∷ xs)) o ≡ has_own s (coins_of xs) o
own_dead s o x xs dead = elim (cases_Bool (is_unspent x.state)) [
  | inl u ↦ let other : is_coin_of o x.coin ≡ false = apart (is_coin_of o x.coin) (rw u at dead) in rw (u, other) refl
  | inr u ↦ rw u refl
]
  where
    apart : (b : Bool) → (b && true) ≡ false → b ≡ false
    apart true h = h
    apart false h = refl

own_none : (s : List ℕ) (o : Outpoint) (xs : List Output) → NoneLive o xs → has_own s (coins_of xs) o ≡ false
own_none s o [] none = refl
own_none s o (x ∷ xs) none = own_dead s o x xs none.0 ∙ own_none s o xs none.1

-- 4. Script hashes by their numbers

at_get : (s d : Hash32) (xs : List Hash32) (n : ℕ) → n < length xs → is_at s xs n ≡ same_hash s (get_or xs n d)
at_get s d [] n lt = absurd (omega arith)
at_get s d (x ∷ xs) zero lt = refl
at_get s d (x ∷ xs) (suc n) lt = at_get s d xs n (omega arith)

pub at_number : (s x : Hash32) (scripts : List Hash32) → is_script_among x scripts ≡ true → is_at s scripts (script_number x scripts) ≡ bytes_eq x.0 s.0
at_number s x scripts there =
    at_get s zero_hash scripts (script_number x scripts) (number_within x scripts there)
    ∙ ap (same_hash s) (number_at x zero_hash scripts there) ∙ same_turned s x

-- 5. The output that an outpoint names

abbrev pub own_buried : Hash32 → ℕ → List Hash32 → ListedOut → Bool
own_buried s m scripts x = is_buried_by m x.state && is_at s scripts x.script

abbrev pub own_kept : List ℕ → List Coin → Tx → Outpoint → Bool
own_kept s cs t o = has_own s cs o && not (takes o t)

first_case : (s : Hash32) (scripts : List Hash32) (m n : ℕ) (o : Outpoint) (p : Position) (qs : List Position) (xs : List Output) (c : Coin) (st : State)
    → makes_outpoint o p ≡ true → is_coin_of o c ≡ true → NoneLive o xs → is_buried_by m st ≡ false → is_script_among c.script scripts ≡ true
    → own_buried s m scripts (listed_out scripts (later_out m (p ∷ qs) (record { tx = n; coin = c; state = st }))) ≡ own_kept s.0 (coins_of (record { tx = n; coin = c; state = st } ∷ xs)) p.tx o
first_case s scripts m n o p qs xs c Unspent made is none fresh there =
    let same = same_gives c.outpoint o is in
    let number = at_number s c.script scripts there in
    let others = own_none s.0 o xs none in
    let taken_same : takes c.outpoint p.tx ≡ takes o p.tx = ap (λ (q : Outpoint). takes q p.tx) same in
    let made_same : makes_outpoint c.outpoint p ≡ true = ap (λ (q : Outpoint). makes_outpoint q p) same ∙ made in
    let self = eq-eqb m m refl in
    elim (cases_Bool (takes o p.tx)) [
      | inl t ↦ let t2 : takes c.outpoint p.tx ≡ true = taken_same ∙ t in rw (t2, t) (sym (and_right (has_own s.0 (c ∷ coins_of xs) o) false refl))
      | inr t ↦ let t2 : takes c.outpoint p.tx ≡ false = taken_same ∙ t in rw (t2, t, made_same, self, number, is, others) (ends (bytes_eq c.script.0 s.0))
    ]
  where
    ends : (b : Bool) → b ≡ ((b || false) && true)
    ends true = refl
    ends false = refl
first_case s scripts m n o p qs xs c (Spent k) made is none fresh there = let others = own_none s.0 o xs none in rw others refl
first_case s scripts m n o p qs xs c (Buried k) made is none fresh there = let others = own_none s.0 o xs none in rw (others, fresh) refl

named_case : (s : Hash32) (scripts : List Hash32) (m k : ℕ) (o : Outpoint) (p : Position) (qs : List Position) (xs ys : List Output)
    → makes_outpoint o p ≡ true → OnlyAt k o xs → NotBy m xs → AllHave scripts xs
    → option_map_or (own_buried s m scripts) (slice_get (map (listed_out scripts) (map (later_out m (p ∷ qs)) xs ++ ys)) k) false ≡ own_kept s.0 (coins_of xs) p.tx o
named_case s scripts m k o p qs [] ys made at fresh have = absurd at
named_case s scripts m zero o p qs (x ∷ xs) ys made at fresh have =
    first_case s scripts m x.tx o p qs xs x.coin x.state made at.0 at.1 fresh.0 have.0
named_case s scripts m (suc k) o p qs (x ∷ xs) ys made at fresh have =
    named_case s scripts m k o p qs xs ys made at.1 fresh.1 have.1
    ∙ ap (λ (b : Bool). b && not (takes o p.tx)) (sym (own_dead s.0 o x xs at.0))

pub buries_is : (s : Hash32) (ps qs : List Position) (p : Position) (o : Outpoint) → makes_outpoint o p ≡ true → AllHave (scripts_of (ps ++ p ∷ qs)) (outputs ps)
    → buries_at s (length ps) (lists_of (ps ++ p ∷ qs)) o ≡ own_kept s.0 (coins_of (outputs ps)) p.tx o
buries_is s ps qs p o made have =
    let m = length ps in
    let scripts = scripts_of (ps ++ p ∷ qs) in
    let xs = outputs ps in
    let ys = outputs_from m (p ∷ qs) in
    let joined = outputs_joined 0 m ps (p ∷ qs) (omega arith) in
    let front = txs_front 0 0 ps (p ∷ qs) in
    ap₂ (λ (l : List Output) (ts : List ListedTx). option_map_or (own_buried s m scripts) (option_and_then (λ k. slice_get (map (listed_out scripts) l) k) (output_number o ts)) false) joined front
    ∙ by (output_number o (txs_from 0 0 ps)) (names_all ps o)
  where
    by : (r : Option ℕ) → NamesBy o r (outputs ps)
        → option_map_or (own_buried s (length ps) (scripts_of (ps ++ p ∷ qs)))
        (option_and_then (λ k. slice_get (map (listed_out (scripts_of (ps ++ p ∷ qs))) (map (later_out (length ps) (p ∷ qs)) (outputs ps) ++ outputs_from (length ps) (p ∷ qs))) k) r) false
        ≡ own_kept s.0 (coins_of (outputs ps)) p.tx o
    by None none = ap (λ (b : Bool). b && not (takes o p.tx)) (sym (own_none s.0 o (outputs ps) none))
    by (Some k) at =
        named_case s (scripts_of (ps ++ p ∷ qs)) (length ps) k o p qs (outputs ps) (outputs_from (length ps) (p ∷ qs)) made at
        (none_buried (length ps) 0 ps (omega arith)) have

-- 6. All outputs of a transaction

any_made : (f : ℕ → Bool) (g : Outpoint → Bool) (id : Hash32) (j : ℕ) (os : List TxOut)
    → ((i : ℕ) → j ≤ i → i < j + length os → f i ≡ g (record { txid = id; index = i }))
    → list_any f (numbers_from j (length os)) ≡ list_any (λ (c : Coin). g c.outpoint) (coins_made id 0 j os)
any_made f g id j [] same = refl
any_made f g id j (x ∷ xs) same =
    ap₂ (λ (a b : Bool). a || b) (same j (omega arith) (omega arith)) (any_made f g id (j + 1) xs (λ i le lt. same i (omega arith) (omega arith)))

at_txs : {X : Type 0} (f : ListedTx → X) (d : X) (a b : ℕ) (ps qs : List Position) (p : Position) → ((x y : ℕ) → f (listed_position x y p) ≡ f (listed_position 0 0 p))
    → get_or (map f (txs_from a b (ps ++ p ∷ qs))) (length ps) d ≡ f (listed_position 0 0 p)
at_txs f d a b [] qs p any = any a b
at_txs f d a b (q ∷ ps) qs p any = at_txs f d (a + length q.tx.outputs) (b + length (spending_inputs q.tx)) ps qs p any

pub all_buried : (s : Hash32) (ps qs : List Position) (p : Position) → AllHave (scripts_of (ps ++ p ∷ qs)) (outputs ps)
    → buries s (lists_of (ps ++ p ∷ qs)) (length ps) ≡ list_any (λ (c : Coin). own_kept s.0 (coins_of (outputs ps)) p.tx c.outpoint) (coins_made (txid p.tx) 0 0 p.tx.outputs)
all_buried s ps qs p have =
    let l = lists_of (ps ++ p ∷ qs) in
    let id : txid_at (length ps) l.txs ≡ txid p.tx = at_txs (λ (t : ListedTx). t.txid) zero_hash 0 0 ps qs p (λ x y. refl) in
    let outs : outs_at (length ps) l.txs ≡ length p.tx.outputs = at_txs (λ (t : ListedTx). t.outs) 0 0 0 ps qs p (λ x y. refl) in
    ap₂ (λ (h : Hash32) (n : ℕ). list_any (λ (i : ℕ). buries_at s (length ps) l (record { txid = h; index = i })) (numbers_from 0 n)) id outs
    ∙ any_made (λ (i : ℕ). buries_at s (length ps) l (record { txid = txid p.tx; index = i })) (own_kept s.0 (coins_of (outputs ps)) p.tx) (txid p.tx) 0 p.tx.outputs
    (λ i le lt. buries_is s ps qs p (record { txid = txid p.tx; index = i })
    (makes_at i 0 0 (record { txid = txid p.tx; index = i }) (txid p.tx) p.height p.tx.outputs (omega arith) (omega arith) (hash_from (txid p.tx) (txid p.tx) refl)).1 have)

-- 7. What a transaction takes itself, it spends

pub own_spent : (s : List ℕ) (cs : List Coin) (t : Tx) (o : Outpoint) → has_own s cs o ≡ true → takes o t ≡ true → spends s cs t ≡ true
own_spent s cs t o own taken = elim (cases_Bool (is_coinbase t)) [
  | inl e ↦ let bad = rw e at taken in absurd (true_false (sym bad))
  | inr e ↦
      let some = rw e at taken in
      rw e (any_weaker (λ (i : TxIn). same_outpoint o i.from) (λ (i : TxIn). has_own s cs i.from) (λ i same. ap (has_own s cs) (sym (same_gives o i.from same)) ∙ own) t.inputs some)
]

pub replaced_kept : (s : List ℕ) (cs made : List Coin) (t : Tx) → spends s cs t ≡ false
    → list_any (λ (c : Coin). has_own s cs c.outpoint) made ≡ list_any (λ (c : Coin). own_kept s cs t c.outpoint) made
replaced_kept s cs [] t unspent = refl
replaced_kept s cs (c ∷ made) t unspent = ap₂ (λ (a b : Bool). a || b) one (replaced_kept s cs made t unspent)
  where
    one : has_own s cs c.outpoint ≡ own_kept s cs t c.outpoint
    one = elim (cases_Bool (has_own s cs c.outpoint)) [
      | inl own ↦ elim (cases_Bool (takes c.outpoint t)) [
        | inl taken ↦ absurd (true_false (sym (own_spent s cs t c.outpoint own taken) ∙ unspent))
        | inr free ↦ rw (own, free) refl
      ]
      | inr none ↦ rw none refl
    ]
