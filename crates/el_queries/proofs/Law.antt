-- What blocks touch by the coins before each transaction is what they touch by the coins before all of them.
use Rattle.std.proofs.Common.{◌≡◌, ◌⊎◌, inl, inr, ℕ, ◌+◌, Bool, true, false, ◌&&◌, ◌||◌, List, [], ◌∷◌, ◌++◌, length, refl, ap, sym, ◌∙◌}
use Rattle.std.proofs.lemmas.Bool.{cases_Bool, or_left, or_right, or_parts}
use Rattle.std.specs.List.{list_any}
use Rattle.std.specs.Str.{bytes_eq}
use Rattle.el_base.specs.declared.hash.Hash32.{Hash32}
use Rattle.el_tx.specs.declared.types.Outpoint.{Outpoint}
use Rattle.el_tx.specs.declared.types.TxIn.{TxIn}
use Rattle.el_tx.specs.declared.types.TxOut.{TxOut}
use Rattle.el_tx.specs.declared.types.Tx.{Tx}
use Rattle.el_tx.specs.Hashing.{full_encoding, txid, is_coinbase, same_outpoint}
use Rattle.el_chain.specs.declared.coin.Coin.{Coin}
use Rattle.el_chain.specs.Chains.{Chain}
use Rattle.el_chain.specs.Coins.{without, add_coin, coin_made, script_hash_of, spend_inputs, add_outputs, coins_left, coins_after, coins_after_all}
use Rattle.el_chain.specs.CoinLaws.{coins_made}
use Rattle.el_chain.specs.History.{Position, positions_in, block_positions, first_start, positions_from, funds, has_own, spends}
use Rattle.el_chain.specs.Touches.{replaces, touches, touches_any}
use Rattle.el_chain.proofs.CoinLists.{same_gives}
use Rattle.el_chain.proofs.Histories.{own_without, own_put}

-- 1. Tests that some pass

pub true_false : true ≡ false → ⊥
true_false e = cc

pub any_weaker : {X : Type 0} (f g : X → Bool) → ((x : X) → f x ≡ true → g x ≡ true) → (xs : List X) → list_any f xs ≡ true → list_any g xs ≡ true
any_weaker f g weaker [] h = h
any_weaker f g weaker (x ∷ xs) h = elim (cases_Bool (f x)) [
  | inl e ↦ or_left (g x) (list_any g xs) (weaker x e)
  | inr e ↦ let rest = rw e at h in or_right (g x) (list_any g xs) (any_weaker f g weaker xs rest)
]

pub any_joined : {X : Type 0} (f : X → Bool) (xs ys : List X) → list_any f (xs ++ ys) ≡ (list_any f xs || list_any f ys)
any_joined f [] ys = refl
any_joined f (x ∷ xs) ys = elim (cases_Bool (f x)) [
  | inl h ↦ rw h refl
  | inr h ↦ rw h (any_joined f xs ys)
]

or_cases : (a b : Bool) → (a || b) ≡ true → (a ≡ true) ⊎ (b ≡ true)
or_cases true b h = inl refl
or_cases false b h = inr h

and_both : (a b : Bool) → a ≡ true → b ≡ true → (a && b) ≡ true
and_both true b x y = y
and_both false b x y = absurd (true_false (sym x))

same_if : (a b : Bool) → (a ≡ true → b ≡ true) → (b ≡ true → a ≡ true) → a ≡ b
same_if true b f g = sym (f refl)
same_if false true f g = g refl
same_if false false f g = refl

-- 2. A transaction, by other coins

-- each own coin of the ones is an own coin of the others
abbrev pub OwnToo : List ℕ → List Coin → List Coin → Type 0
OwnToo s cs ds = (o : Outpoint) → has_own s cs o ≡ true → has_own s ds o ≡ true

spends_too : (s : List ℕ) (cs ds : List Coin) (t : Tx) → OwnToo s cs ds → spends s cs t ≡ true → spends s ds t ≡ true
spends_too s cs ds t too h = elim (cases_Bool (is_coinbase t)) [
  | inl e ↦ let bad = rw e at h in absurd (true_false (sym bad))
  | inr e ↦ let own = rw e at h in rw e (any_weaker (λ (i : TxIn). has_own s cs i.from) (λ (i : TxIn). has_own s ds i.from) (λ i. too i.from) t.inputs own)
]

replaces_too : (s : List ℕ) (cs ds : List Coin) (t : Tx) → OwnToo s cs ds → replaces s cs t ≡ true → replaces s ds t ≡ true
replaces_too s cs ds t too h =
    any_weaker (λ (c : Coin). has_own s cs c.outpoint) (λ (c : Coin). has_own s ds c.outpoint) (λ c. too c.outpoint) (coins_made (txid t) 0 0 t.outputs) h

touches_too : (s : List ℕ) (cs ds : List Coin) (t : Tx) → OwnToo s cs ds → touches s cs t ≡ true → touches s ds t ≡ true
touches_too s cs ds t too h = elim (or_cases (funds s t) (spends s cs t || replaces s cs t) h) [
  | inl f ↦ or_left (funds s t) (spends s ds t || replaces s ds t) f
  | inr rest ↦ or_right (funds s t) (spends s ds t || replaces s ds t) (elim (or_cases (spends s cs t) (replaces s cs t) rest) [
    | inl p ↦ or_left (spends s ds t) (replaces s ds t) (spends_too s cs ds t too p)
    | inr r ↦ or_right (spends s ds t) (replaces s ds t) (replaces_too s cs ds t too r)
  ])
]

-- 3. Own coins after a transaction

-- one of them was there before, or the transaction funds the script hash
after_inputs : (s : List ℕ) (is : List TxIn) (cs : List Coin) → OwnToo s (spend_inputs is cs) cs
after_inputs s [] cs o h = h
after_inputs s (i ∷ is) cs o h =
    let rest = own_without s i.from cs o in
    let here : has_own s (without i.from cs) o ≡ true = after_inputs s is (without i.from cs) o h in
    elim (cases_Bool (same_outpoint i.from o)) [
      | inl e ↦ let bad : false ≡ true = sym (rest ∙ rw e refl) ∙ here in absurd (true_false (sym bad))
      | inr e ↦ sym (rest ∙ rw e refl) ∙ here
    ]

after_left : (s : List ℕ) (t : Tx) (cs : List Coin) → OwnToo s (coins_left t cs) cs
after_left s t cs o h = elim (cases_Bool (is_coinbase t)) [
  | inl e ↦ let same = rw e at h in same
  | inr e ↦ after_inputs s t.inputs cs o (rw e at h)
]

after_outputs : (s : List ℕ) (id : Hash32) (height n : ℕ) (os : List TxOut) (cs : List Coin) (o : Outpoint) → has_own s (add_outputs id height n os cs) o ≡ true
    → (list_any (λ (x : TxOut). bytes_eq (script_hash_of x) s) os ≡ true) ⊎ (has_own s cs o ≡ true)
after_outputs s id height n [] cs o h = inr h
after_outputs s id height n (x ∷ xs) cs o h = elim (after_outputs s id height (n + 1) xs (add_coin c cs) o h) [
  | inl funded ↦ inl (or_right (bytes_eq (script_hash_of x) s) (list_any (λ (y : TxOut). bytes_eq (script_hash_of y) s) xs) funded)
  | inr there ↦ elim (cases_Bool (same_outpoint c.outpoint o)) [
    | inl e ↦ inl (or_left (bytes_eq (script_hash_of x) s) (list_any (λ (y : TxOut). bytes_eq (script_hash_of y) s) xs) (sym (own_put s c cs o ∙ rw e refl) ∙ there))
    | inr e ↦ inr (sym (own_put s c cs o ∙ rw e refl) ∙ there)
  ]
]
  where
    c : Coin
    c = coin_made id height n x

pub after_from : (s : List ℕ) (height : ℕ) (t : Tx) (cs : List Coin) (o : Outpoint) → has_own s (coins_after height t cs) o ≡ true → (funds s t ≡ true) ⊎ (has_own s cs o ≡ true)
after_from s height t cs o h = elim (after_outputs s (txid t) height 0 t.outputs (coins_left t cs) o h) [
  | inl f ↦ inl f
  | inr there ↦ inr (after_left s t cs o there)
]

-- one that was there stays, or the transaction takes it or makes one in its place
kept_inputs : (s : List ℕ) (is : List TxIn) (cs : List Coin) (o : Outpoint) → has_own s cs o ≡ true
    → (list_any (λ (i : TxIn). has_own s cs i.from) is ≡ true) ⊎ (has_own s (spend_inputs is cs) o ≡ true)
kept_inputs s is cs o h = go is cs (λ p e. e) h
  where
    go : (js : List TxIn) (ds : List Coin) → OwnToo s ds cs → has_own s ds o ≡ true
        → (list_any (λ (i : TxIn). has_own s cs i.from) js ≡ true) ⊎ (has_own s (spend_inputs js ds) o ≡ true)
    go [] ds too own = inr own
    go (j ∷ js) ds too own = elim (cases_Bool (same_outpoint j.from o)) [
      | inl e ↦
          let is_o = same_gives j.from o e in
          inl (or_left (has_own s cs j.from) (list_any (λ (i : TxIn). has_own s cs i.from) js) (ap (has_own s cs) is_o ∙ h))
      | inr e ↦
          let left : has_own s (without j.from ds) o ≡ true = own_without s j.from ds o ∙ rw e own in
          elim (go js (without j.from ds) (λ p q. too p (after_inputs s (j ∷ []) ds p q)) left) [
            | inl found ↦ inl (or_right (has_own s cs j.from) (list_any (λ (i : TxIn). has_own s cs i.from) js) found)
            | inr stays ↦ inr stays
          ]
    ]

kept_left : (s : List ℕ) (t : Tx) (cs : List Coin) (o : Outpoint) → has_own s cs o ≡ true → (spends s cs t ≡ true) ⊎ (has_own s (coins_left t cs) o ≡ true)
kept_left s t cs o h = elim (cases_Bool (is_coinbase t)) [
  | inl e ↦ inr (rw e h)
  | inr e ↦ elim (kept_inputs s t.inputs cs o h) [
    | inl found ↦ inl (rw e found)
    | inr stays ↦ inr (rw e stays)
  ]
]

kept_outputs : (s : List ℕ) (id : Hash32) (height n : ℕ) (os : List TxOut) (cs ds : List Coin) (o : Outpoint) → has_own s cs o ≡ true → has_own s ds o ≡ true
    → (list_any (λ (c : Coin). has_own s cs c.outpoint) (coins_made id 0 n os) ≡ true) ⊎ (has_own s (add_outputs id height n os ds) o ≡ true)
kept_outputs s id height n [] cs ds o h own = inr own
kept_outputs s id height n (x ∷ xs) cs ds o h own = elim (cases_Bool (same_outpoint (coin_made id height n x).outpoint o)) [
  | inl e ↦
      let is_o = same_gives (coin_made id height n x).outpoint o e in
      inl (or_left (has_own s cs (coin_made id 0 n x).outpoint) (list_any (λ (c : Coin). has_own s cs c.outpoint) (coins_made id 0 (n + 1) xs)) (ap (has_own s cs) is_o ∙ h))
  | inr e ↦
      let put : has_own s (add_coin (coin_made id height n x) ds) o ≡ true = own_put s (coin_made id height n x) ds o ∙ rw e own in
      elim (kept_outputs s id height (n + 1) xs cs (add_coin (coin_made id height n x) ds) o h put) [
        | inl found ↦ inl (or_right (has_own s cs (coin_made id 0 n x).outpoint) (list_any (λ (c : Coin). has_own s cs c.outpoint) (coins_made id 0 (n + 1) xs)) found)
        | inr stays ↦ inr stays
      ]
]

pub after_keeps : (s : List ℕ) (height : ℕ) (t : Tx) (cs : List Coin) (o : Outpoint) → has_own s cs o ≡ true
    → (touches s cs t ≡ true) ⊎ (has_own s (coins_after height t cs) o ≡ true)
after_keeps s height t cs o h = elim (kept_left s t cs o h) [
  | inl spent ↦ inl (or_right (funds s t) (spends s cs t || replaces s cs t) (or_left (spends s cs t) (replaces s cs t) spent))
  | inr left ↦ elim (kept_outputs s (txid t) height 0 t.outputs cs (coins_left t cs) o h left) [
    | inl made ↦ inl (or_right (funds s t) (spends s cs t || replaces s cs t) (or_right (spends s cs t) (replaces s cs t) made))
    | inr stays ↦ inr stays
  ]
]

-- 4. Positions one after the other

-- before the first stand these coins, and before each other one those that the transaction before it leaves
abbrev pub Follow : List Coin → List Position → Type 0
Follow cs [] = Unit {0}
Follow cs (p ∷ ps) = (p.before ≡ cs) × Follow (coins_after p.height p.tx cs) ps

-- by the coins before each, and by coins before all
abbrev pub touched_each : List ℕ → List Position → Bool
touched_each s ps = list_any (λ (p : Position). touches s p.before p.tx) ps

abbrev pub touched_by : List ℕ → List Coin → List Position → Bool
touched_by s cs ps = list_any (λ (p : Position). touches s cs p.tx) ps

each_by : (s : List ℕ) (cs ds : List Coin) (ps : List Position) → Follow ds ps → OwnToo s ds cs → touched_each s ps ≡ true → touched_by s cs ps ≡ true
each_by s cs ds [] follow too h = h
each_by s cs ds (p ∷ ps) follow too h =
    let here = follow.0 in
    elim (cases_Bool (touches s cs p.tx)) [
      | inl e ↦ or_left (touches s cs p.tx) (touched_by s cs ps) e
      | inr e ↦
          let unfunded = (or_parts (funds s p.tx) (spends s cs p.tx || replaces s cs p.tx) e).0 in
          elim (or_cases (touches s p.before p.tx) (touched_each s ps) h) [
            | inl t ↦ or_left (touches s cs p.tx) (touched_by s cs ps) (touches_too s ds cs p.tx too (ap (λ (l : List Coin). touches s l p.tx) (sym here) ∙ t))
            | inr rest ↦ or_right (touches s cs p.tx) (touched_by s cs ps)
                (each_by s cs (coins_after p.height p.tx ds) ps follow.1
                (λ o own. elim (after_from s p.height p.tx ds o own) [
                  | inl f ↦ absurd (true_false (sym f ∙ unfunded))
                  | inr old ↦ too o old
                ]) rest)
          ]
    ]

by_each : (s : List ℕ) (cs ds : List Coin) (ps : List Position) → Follow ds ps → OwnToo s cs ds → touched_by s cs ps ≡ true → touched_each s ps ≡ true
by_each s cs ds [] follow too h = h
by_each s cs ds (p ∷ ps) follow too h =
    let here = follow.0 in
    elim (cases_Bool (touches s ds p.tx)) [
      | inl e ↦ or_left (touches s p.before p.tx) (touched_each s ps) (ap (λ (l : List Coin). touches s l p.tx) here ∙ e)
      | inr e ↦ elim (or_cases (touches s cs p.tx) (touched_by s cs ps) h) [
        | inl t ↦ absurd (true_false (sym (touches_too s cs ds p.tx too t) ∙ e))
        | inr rest ↦ or_right (touches s p.before p.tx) (touched_each s ps)
            (by_each s cs (coins_after p.height p.tx ds) ps follow.1
            (λ o own. elim (after_keeps s p.height p.tx ds o (too o own)) [
              | inl t ↦ absurd (true_false (sym t ∙ e))
              | inr stays ↦ stays
            ]) rest)
      ]
    ]

pub each_is : (s : List ℕ) (cs : List Coin) (ps : List Position) → Follow cs ps → touched_by s cs ps ≡ touched_each s ps
each_is s cs ps follow =
    same_if (touched_by s cs ps) (touched_each s ps) (by_each s cs cs ps follow (λ o h. h)) (each_by s cs cs ps follow (λ o h. h))

-- 5. Blocks

follow_block : (height pos start : ℕ) (ts : List Tx) (cs : List Coin) (ps : List Position) → Follow (coins_after_all height ts cs) ps
    → Follow cs (positions_in height pos start ts cs ++ ps)
follow_block height pos start [] cs ps rest = rest
follow_block height pos start (t ∷ ts) cs ps rest =
    (refl, follow_block height (pos + 1) (start + length (full_encoding t)) ts (coins_after height t cs) ps rest)

pub follow_chain : (height : ℕ) (bs : Chain) (cs : List Coin) → Follow cs (positions_from height bs cs)
follow_chain height [] cs = tt
follow_chain height (b ∷ bs) cs =
    follow_block height 0 (first_start b.block.txs) b.block.txs cs (positions_from (height + 1) bs (coins_after_all height b.block.txs cs))
    (follow_chain (height + 1) bs (coins_after_all height b.block.txs cs))

in_block : (s : List ℕ) (base cs : List Coin) (height pos start : ℕ) (ts : List Tx) → touched_by s base (positions_in height pos start ts cs) ≡ list_any (touches s base) ts
in_block s base cs height pos start [] = refl
in_block s base cs height pos start (t ∷ ts) =
    ap (λ (b : Bool). touches s base t || b) (in_block s base (coins_after height t cs) height (pos + 1) (start + length (full_encoding t)) ts)

in_chain : (s : List ℕ) (base cs : List Coin) (height : ℕ) (bs : Chain) → touched_by s base (positions_from height bs cs) ≡ touches_any s base bs
in_chain s base cs height [] = refl
in_chain s base cs height (b ∷ bs) =
    let next = coins_after_all height b.block.txs cs in
    any_joined (λ (p : Position). touches s base p.tx) (block_positions height b.block.txs cs) (positions_from (height + 1) bs next)
    ∙ ap (λ (x : Bool). x || touched_by s base (positions_from (height + 1) bs next)) (in_block s base cs height 0 (first_start b.block.txs) b.block.txs)
    ∙ ap (λ (x : Bool). list_any (touches s base) b.block.txs || x) (in_chain s base next (height + 1) bs)

-- what blocks touch, transaction by transaction
pub law : (s : List ℕ) (cs : List Coin) (height : ℕ) (bs : Chain) → touches_any s cs bs ≡ touched_each s (positions_from height bs cs)
law s cs height bs = sym (in_chain s cs cs height bs) ∙ each_is s cs (positions_from height bs cs) (follow_chain height bs cs)
