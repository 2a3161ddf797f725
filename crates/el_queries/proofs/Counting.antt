-- The scripts of the lists of a chain are those of its outputs, and there are no more of them in a bucket.
use Rattle.std.proofs.Common.{◌≡◌, inl, inr, ℕ, ◌+◌, ◌≤◌, ◌==◌, Bool, true, false, not, List, [], ◌∷◌, ◌++◌, length, map, filter, count_by, bytes_eq, refl, ap, sym, subst, ◌∙◌, arith}
use Rattle.std.specs.List.{AllByRecursion, list_any, flat_map}
use Rattle.std.proofs.lemmas.Bool.{cases_Bool, or_parts}
use Rattle.std.proofs.lemmas.List.Sums.{length-filter}
use Rattle.std.proofs.lemmas.Slice.Eq.{bytes_eq-Decides}
use Rattle.el_base.specs.declared.hash.Hash32.{Hash32}
use Rattle.el_tx.specs.Hashing.{txid, is_coinbase}
use Rattle.el_tx.specs.declared.types.Tx.{Tx}
use Rattle.el_tx.specs.declared.types.TxIn.{TxIn}
use Rattle.el_tx.specs.declared.types.TxOut.{TxOut}
use Rattle.el_chain.specs.Chains.{Chain}
use Rattle.el_chain.specs.Coins.{script_hash_of, is_coin_of, without, coin_made, spend_inputs, add_outputs, coins_left, coins_after, coins_after_all}
use Rattle.el_chain.specs.History.{Position, positions_in, first_start, positions_from, positions}
use Rattle.el_chain.specs.RowCounts.{is_script_among, add_script, add_scripts, spending_inputs, spent_scripts, output_script, concerned_scripts}
use Rattle.el_chain.specs.declared.coin.Coin.{Coin}
use Rattle.el_model.specs.Queries as asked
use Rattle.el_tables.specs.ChainLists.{lists, scripts_of}
use Rattle.el_tables.specs.Fits.{Once}
use Rattle.el_tables.specs.Tables.{bucket_in, in_both}
use Rattle.el_tables.proofs.FitLemmas.{chain_fits}
use Rattle.el_buckets.specs.Buckets.{bucket_size, share_bucket}
use Rattle.el_schema.proofs.Held.{all_more}
use Rattle.el_row_formats.specs.Tables as held
use Rattle.el_schema.specs.Standing.{HoldChain, buckets_in}
use Rattle.el_schema.proofs.StandingLemmas.{heads_there}

-- 1. Hashes among others

-- the bytes are one of these
abbrev pub is_among : List ℕ → List (List ℕ) → Bool
is_among b ys = list_any (λ y. bytes_eq y b) ys

true_false : true ≡ false → ⊥
true_false e = cc

turned : (a b : List ℕ) → bytes_eq a b ≡ false → bytes_eq b a ≡ false
turned a b no_match = elim (cases_Bool (bytes_eq b a)) [
  | inl e ↦ absurd (true_false (sym ((bytes_eq-Decides a b).1 (sym ((bytes_eq-Decides b a).0 e))) ∙ no_match))
  | inr e ↦ e
]

-- it still is without another
among_without : (b c : List ℕ) (ys : List (List ℕ)) → bytes_eq b c ≡ false → is_among b ys ≡ true → is_among b (filter (λ z. not (bytes_eq z c)) ys) ≡ true
among_without b c [] apart there = there
among_without b c (y ∷ ys) apart there = elim (cases_Bool (bytes_eq y c)) [
  | inl e ↦
      let y_is : y ≡ c = (bytes_eq-Decides y c).0 e in
      let other : bytes_eq y b ≡ false = ap (λ z. bytes_eq z b) y_is ∙ turned b c apart in
      let rest = rw other at there in
      rw e (among_without b c ys apart rest)
  | inr e ↦ elim (cases_Bool (bytes_eq y b)) [
    | inl f ↦ rw (e, f) refl
    | inr f ↦ let rest = rw f at there in rw (e, f) (among_without b c ys apart rest)
  ]
]

-- fewer pass two tests than one
few_both : (q r : List ℕ → Bool) (ys : List (List ℕ)) → length (filter q (filter r ys)) ≤ length (filter q ys)
few_both q r [] = omega arith
few_both q r (y ∷ ys) =
    let rest = few_both q r ys in
    elim (cases_Bool (r y)) [
      | inl e ↦ elim (cases_Bool (q y)) [
        | inl f ↦ rw (e, f) (omega arith)
        | inr f ↦ rw (e, f) rest
      ]
      | inr e ↦ elim (cases_Bool (q y)) [
        | inl f ↦ rw (e, f) (omega arith)
        | inr f ↦ rw (e, f) rest
      ]
    ]

-- one that is there is one more than the others
one_more : (q : List ℕ → Bool) (c : List ℕ) (ys : List (List ℕ)) → is_among c ys ≡ true → q c ≡ true
    → length (filter q (filter (λ z. not (bytes_eq z c)) ys)) + 1 ≤ length (filter q ys)
one_more q c [] there is = absurd (true_false (sym there))
one_more q c (y ∷ ys) there is = elim (cases_Bool (bytes_eq y c)) [
  | inl e ↦
      let y_is : q y ≡ true = ap q ((bytes_eq-Decides y c).0 e) ∙ is in
      let few = few_both q (λ z. not (bytes_eq z c)) ys in
      rw (e, y_is) (omega arith)
  | inr e ↦
      let others = rw e at there in
      let rest = one_more q c ys others is in
      elim (cases_Bool (q y)) [
        | inl f ↦ rw (e, f) (omega arith)
        | inr f ↦ rw (e, f) rest
      ]
]

-- each of these hashes is among those
abbrev pub AllAmong : List (List ℕ) → List Hash32 → Type 0
AllAmong ys hs = AllByRecursion (λ (h : Hash32). is_among h.0 ys ≡ true) hs

all_without : (c : Hash32) (ys : List (List ℕ)) (hs : List Hash32) → is_script_among c hs ≡ false → AllAmong ys hs → AllAmong (filter (λ z. not (bytes_eq z c.0)) ys) hs
all_without c ys [] none all = tt
all_without c ys (h ∷ hs) none all =
    let parts = or_parts (bytes_eq h.0 c.0) (is_script_among c hs) none in
    (among_without h.0 c.0 ys parts.0 all.0, all_without c ys hs parts.1 all.1)

-- so many of different ones pass a test at most
no_more : (q : List ℕ → Bool) (hs : List Hash32) (ys : List (List ℕ)) → Once hs → AllAmong ys hs → length (filter (λ (h : Hash32). q h.0) hs) ≤ length (filter q ys)
no_more q [] ys once all = omega arith
no_more q (h ∷ hs) ys once all =
    let rest = no_more q hs (filter (λ z. not (bytes_eq z h.0)) ys) once.1 (all_without h ys hs once.0 all.1) in
    elim (cases_Bool (q h.0)) [
      | inl e ↦ let more = one_more q h.0 ys all.0 e in rw e (omega arith)
      | inr e ↦ let few = few_both q (λ z. not (bytes_eq z h.0)) ys in rw e (omega arith)
    ]

-- each is there once
among_once : (b : List ℕ) (ys : List (List ℕ)) → is_among b ys ≡ true → is_among b (asked.each_once ys) ≡ true
among_once b [] there = there
among_once b (y ∷ ys) there = elim (cases_Bool (bytes_eq y b)) [
  | inl e ↦ rw e refl
  | inr e ↦ let rest = rw e at there in rw e (among_without b y (asked.each_once ys) (turned y b e) (among_once b ys rest))
]

-- 2. All of some

front : {X : Type 0} (P : X → Type 0) (xs ys : List X) → AllByRecursion P (xs ++ ys) → AllByRecursion P xs
front P [] ys all = tt
front P (x ∷ xs) ys all = (all.0, front P xs ys all.1)

back : {X : Type 0} (P : X → Type 0) (xs ys : List X) → AllByRecursion P (xs ++ ys) → AllByRecursion P ys
back P [] ys all = all
back P (x ∷ xs) ys all = back P xs ys all.1

joined : {X : Type 0} (P : X → Type 0) (xs ys : List X) → AllByRecursion P xs → AllByRecursion P ys → AllByRecursion P (xs ++ ys)
joined P [] ys a b = b
joined P (x ∷ xs) ys a b = (a.0, joined P xs ys a.1 b)

filtered : {X : Type 0} (P : X → Type 0) (test : X → Bool) (xs : List X) → AllByRecursion P xs → AllByRecursion P (filter test xs)
filtered P test [] all = tt
filtered P test (x ∷ xs) all = elim (cases_Bool (test x)) [
  | inl e ↦ rw e (all.0, filtered P test xs all.1)
  | inr e ↦ rw e (filtered P test xs all.1)
]

mapped : {X Y : Type 0} (P : Y → Type 0) (f : X → Y) (xs : List X) → AllByRecursion (λ x. P (f x)) xs → AllByRecursion P (map f xs)
mapped P f [] all = tt
mapped P f (x ∷ xs) all = (all.0, mapped P f xs all.1)

flat : {X Y : Type 0} (P : Y → Type 0) (f : X → List Y) (xs : List X) → AllByRecursion (λ x. AllByRecursion P (f x)) xs → AllByRecursion P (flat_map f xs)
flat P f [] all = tt
flat P f (x ∷ xs) all = joined P (f x) (flat_map f xs) all.0 (flat P f xs all.1)

each_of : {X : Type 0} (P : X → Type 0) (xs : List X) → ((x : X) → P x) → AllByRecursion P xs
each_of P [] h = tt
each_of P (x ∷ xs) h = (h x, each_of P xs h)

-- 3. Coins before a transaction were made by outputs before it

module _ (ys : List (List ℕ)) where
  abbrev CoinsAmong : List Coin → Type 0
  CoinsAmong cs = AllByRecursion (λ (c : Coin). is_among c.script.0 ys ≡ true) cs

  abbrev OutputsAmong : Tx → Type 0
  OutputsAmong t = AllByRecursion (λ (o : TxOut). is_among (script_hash_of o) ys ≡ true) t.outputs

  left_among : (is : List TxIn) (cs : List Coin) → CoinsAmong cs → CoinsAmong (spend_inputs is cs)
  left_among [] cs all = all
  left_among (i ∷ is) cs all = left_among is (without i.from cs) (filtered (λ (c : Coin). is_among c.script.0 ys ≡ true) (λ (c : Coin). not (is_coin_of i.from c)) cs all)

  made_among : (id : Hash32) (height index : ℕ) (os : List TxOut) (cs : List Coin) → AllByRecursion (λ (o : TxOut). is_among (script_hash_of o) ys ≡ true) os → CoinsAmong cs
      → CoinsAmong (add_outputs id height index os cs)
  made_among id height index [] cs all these = these
  made_among id height index (o ∷ os) cs all these =
      let P : Coin → Type 0 = λ c. is_among c.script.0 ys ≡ true in
      let c = coin_made id height index o in
      made_among id height (index + 1) os (without c.outpoint cs ++ c ∷ []) all.1
      (all_more P (without c.outpoint cs) c (filtered P (λ (x : Coin). not (is_coin_of c.outpoint x)) cs these) all.0)

  after_among : (height : ℕ) (t : Tx) (cs : List Coin) → OutputsAmong t → CoinsAmong cs → CoinsAmong (coins_after height t cs)
  after_among height t cs outs these = made_among (txid t) height 0 t.outputs (coins_left t cs) outs (elim (cases_Bool (is_coinbase t)) [
    | inl e ↦ rw e these
    | inr e ↦ rw e (left_among t.inputs cs these)
  ])

  abbrev Own : Position → Type 0
  Own p = OutputsAmong p.tx

  abbrev Before : Position → Type 0
  Before p = CoinsAmong p.before

  in_block : (height pos start : ℕ) (ts : List Tx) (cs : List Coin) → AllByRecursion Own (positions_in height pos start ts cs) → CoinsAmong cs
      → AllByRecursion Before (positions_in height pos start ts cs) × CoinsAmong (coins_after_all height ts cs)
  in_block height pos start [] cs own these = (tt, these)
  in_block height pos start (t ∷ ts) cs own these =
      let rest = in_block height (pos + 1) (start + length (Rattle.el_tx.specs.Hashing.full_encoding t)) ts (coins_after height t cs) own.1 (after_among height t cs own.0 these) in
      ((these, rest.0), rest.1)

  in_blocks : (height : ℕ) (bs : Chain) (cs : List Coin) → AllByRecursion Own (positions_from height bs cs) → CoinsAmong cs → AllByRecursion Before (positions_from height bs cs)
  in_blocks height [] cs own these = tt
  in_blocks height (b ∷ bs) cs own these =
      let first = positions_in height 0 (first_start b.block.txs) b.block.txs cs in
      let others = positions_from (height + 1) bs (coins_after_all height b.block.txs cs) in
      let one = in_block height 0 (first_start b.block.txs) b.block.txs cs (front Own first others own) these in
      joined Before first others one.0 (in_blocks (height + 1) bs (coins_after_all height b.block.txs cs) (back Own first others own) one.1)

  -- 4. So the script hashes that a transaction concerns are those of outputs

  abbrev Among : Hash32 → Type 0
  Among h = is_among h.0 ys ≡ true

  spent_among : (cs : List Coin) (is : List TxIn) → CoinsAmong cs → AllByRecursion Among (spent_scripts cs is)
  spent_among cs is these = flat Among (λ (i : TxIn). map (λ (c : Coin). c.script) (filter (is_coin_of i.from) cs)) is
      (each_of (λ (i : TxIn). AllByRecursion Among (map (λ (c : Coin). c.script) (filter (is_coin_of i.from) cs))) is
      (λ i. mapped Among (λ (c : Coin). c.script) (filter (is_coin_of i.from) cs) (filtered (λ (c : Coin). is_among c.script.0 ys ≡ true) (is_coin_of i.from) cs these)))

  concerned_among : (p : Position) → Own p → Before p → AllByRecursion Among (concerned_scripts p)
  concerned_among p own before = joined Among (spent_scripts p.before (spending_inputs p.tx)) (map output_script p.tx.outputs)
      (spent_among p.before (spending_inputs p.tx) before) (mapped Among output_script p.tx.outputs own)

  all_concerned : (ps : List Position) → AllByRecursion Own ps → AllByRecursion Before ps → AllByRecursion Among (flat_map concerned_scripts ps)
  all_concerned [] own before = tt
  all_concerned (p ∷ ps) own before =
      joined Among (concerned_scripts p) (flat_map concerned_scripts ps) (concerned_among p own.0 before.0) (all_concerned ps own.1 before.1)

  gathered_among : (ss xs : List Hash32) → AllByRecursion Among xs → AllByRecursion Among ss → AllByRecursion Among (add_scripts xs ss)
  gathered_among [] xs have more = have
  gathered_among (s ∷ ss) xs have more = gathered_among ss (add_script s xs) (elim (cases_Bool (is_script_among s xs)) [
    | inl e ↦ rw e have
    | inr e ↦ rw e (all_more Among xs s have more.0)
  ]) more.1

-- 5. All

among_joined : (b : List ℕ) (xs ys : List (List ℕ)) → is_among b xs ≡ true → is_among b (xs ++ ys) ≡ true
among_joined b [] ys there = absurd (true_false (sym there))
among_joined b (x ∷ xs) ys there = elim (cases_Bool (bytes_eq x b)) [
  | inl e ↦ rw e refl
  | inr e ↦ let rest = rw e at there in rw e (among_joined b xs ys rest)
]

among_after : (b : List ℕ) (xs ys : List (List ℕ)) → is_among b ys ≡ true → is_among b (xs ++ ys) ≡ true
among_after b [] ys there = there
among_after b (x ∷ xs) ys there = elim (cases_Bool (bytes_eq x b)) [
  | inl e ↦ rw e refl
  | inr e ↦ rw e (among_after b xs ys there)
]

weaker : {X : Type 0} (P Q : X → Type 0) (xs : List X) → ((x : X) → P x → Q x) → AllByRecursion P xs → AllByRecursion Q xs
weaker P Q [] h all = tt
weaker P Q (x ∷ xs) h all = (h x all.0, weaker P Q xs h all.1)

own_outputs : (os : List TxOut) → AllByRecursion (λ (o : TxOut). is_among (script_hash_of o) (map (λ (u : TxOut). script_hash_of u) os) ≡ true) os
own_outputs [] = tt
own_outputs (o ∷ os) =
    let self : bytes_eq (script_hash_of o) (script_hash_of o) ≡ true = (bytes_eq-Decides (script_hash_of o) (script_hash_of o)).1 refl in
    let later = λ (u : TxOut) (h : is_among (script_hash_of u) (map (λ (v : TxOut). script_hash_of v) os) ≡ true). among_after (script_hash_of u) (script_hash_of o ∷ []) (map (λ (v : TxOut). script_hash_of v) os) h in
    (rw self refl, weaker (λ (u : TxOut). is_among (script_hash_of u) (map (λ (v : TxOut). script_hash_of v) os) ≡ true) (λ (u : TxOut). is_among (script_hash_of u) (script_hash_of o ∷ map (λ (v : TxOut). script_hash_of v) os) ≡ true) os later (own_outputs os))

-- the outputs of each position are among all
abbrev hashes : List Position → List (List ℕ)
hashes ps = flat_map (λ (p : Position). map (λ (o : TxOut). script_hash_of o) p.tx.outputs) ps

all_own : (ps : List Position) → AllByRecursion (Own (hashes ps)) ps
all_own [] = tt
all_own (p ∷ ps) =
    let mine = map (λ (o : TxOut). script_hash_of o) p.tx.outputs in
    let Here : TxOut → Type 0 = λ o. is_among (script_hash_of o) (mine ++ hashes ps) ≡ true in
    let first = weaker (λ (o : TxOut). is_among (script_hash_of o) mine ≡ true) Here p.tx.outputs (λ o h. among_joined (script_hash_of o) mine (hashes ps) h) (own_outputs p.tx.outputs) in
    let others = weaker (Own (hashes ps)) (Own (mine ++ hashes ps)) ps
    (λ q h. weaker (λ (o : TxOut). is_among (script_hash_of o) (hashes ps) ≡ true) Here q.tx.outputs (λ o g. among_after (script_hash_of o) mine (hashes ps) g) h) (all_own ps) in
    (first, others)

-- the scripts of the lists are those of outputs
pub scripts_among : (chain : Chain) → AllAmong (asked.scripts chain) (lists chain).scripts
scripts_among chain =
    let ps = positions chain in
    let ys = hashes ps in
    let before = in_blocks ys 0 chain [] (all_own ps) tt in
    weaker (λ (h : Hash32). is_among h.0 ys ≡ true) (λ (h : Hash32). is_among h.0 (asked.scripts chain) ≡ true) (scripts_of ps) (λ h there. among_once h.0 ys there)
    (gathered_among ys (flat_map concerned_scripts ps) [] tt (all_concerned ys ps (all_own ps) before))

same_bucket : (count : ℕ) (h : Hash32) → bucket_in count h ≡ asked.bucket_of count h.0
unfolding bucket_in
same_bucket count h = refl

same_filters : (p q : Hash32 → Bool) (hs : List Hash32) → ((h : Hash32) → p h ≡ q h) → filter p hs ≡ filter q hs
same_filters p q [] same = refl
same_filters p q (h ∷ hs) same =
    let one = same h in
    let rest = same_filters p q hs same in
    elim (cases_Bool (q h)) [
      | inl e ↦ let here : p h ≡ true = one ∙ e in rw (here, e, rest) refl
      | inr e ↦ let here : p h ≡ false = one ∙ e in rw (here, e) rest
    ]

-- and no bucket has more of them
pub scripts_in_buckets : (chain : Chain) (count : ℕ) (s : Hash32) → bucket_size count s (lists chain).scripts ≤ asked.scripts_in_bucket chain count s.0
scripts_in_buckets chain count s =
    let q : List ℕ → Bool = λ other. asked.bucket_of count other == asked.bucket_of count s.0 in
    let hs = (lists chain).scripts in
    let few = no_more q hs (asked.scripts chain) (chain_fits chain).numbered.once (scripts_among chain) in
    let same : count_by (share_bucket count s) hs ≡ length (filter (λ (h : Hash32). q h.0) hs) =
    sym (length-filter (share_bucket count s) hs)
    ∙ ap length (same_filters (share_bucket count s) (λ (h : Hash32). q h.0) hs (λ h. ap (λ (b : ℕ). b == bucket_in count s) (same_bucket count h) ∙ ap (λ (b : ℕ). asked.bucket_of count h.0 == b) (same_bucket count s))) in
    omega (arith, few, same)

pub chain_buckets : (heads : ℕ) (rows : held.Tables) (chain : Chain) (s : Hash32) → HoldChain heads rows chain
    → bucket_size (in_both heads).scripts s (lists chain).scripts ≤ asked.scripts_in_bucket chain (buckets_in rows) s.0
chain_buckets heads rows chain s hold =
    subst (λ (k : ℕ). bucket_size heads s (lists chain).scripts ≤ asked.scripts_in_bucket chain k s.0) (sym (heads_there heads rows chain hold)) (scripts_in_buckets chain heads s)
