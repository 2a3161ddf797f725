-- The unspent outputs of transactions are the coins after them, in one order.
use Rattle.std.proofs.Common.{◌≡◌, inl, inr, ℕ, ◌+◌, Bool, true, false, cond, not, ◌&&◌, ◌||◌, List, [], ◌∷◌, ◌++◌, length, map, filter, refl, ap, sym, subst, ◌∙◌, append_assoc, append-nil, arith}
use Rattle.std.proofs.lemmas.Bool.{cases_Bool}
use Rattle.std.proofs.lemmas.List.{map-append}
use Rattle.std.proofs.lemmas.List.Elements.{filter-append}
use Rattle.std.specs.List.{list_any}
use Rattle.el_base.specs.declared.hash.Hash32.{Hash32}
use Rattle.el_tx.specs.declared.types.Outpoint.{Outpoint}
use Rattle.el_tx.specs.declared.types.TxIn.{TxIn}
use Rattle.el_tx.specs.declared.types.TxOut.{TxOut}
use Rattle.el_tx.specs.declared.types.Tx.{Tx}
use Rattle.el_tx.specs.Hashing.{txid, same_outpoint, is_coinbase}
use Rattle.el_chain.specs.declared.coin.Coin.{Coin}
use Rattle.el_chain.specs.Chains.{Chain}
use Rattle.el_chain.specs.Coins.{is_coin_of, without, add_coin, coin_made, spend_inputs, add_outputs, coins_left, coins_after, coins}
use Rattle.el_chain.specs.CoinLaws.{coins_made, takes, makes}
use Rattle.el_chain.proofs.CoinLists.{outpoints_equal}
use Rattle.el_chain.proofs.CoinOrigins.{later_apart, after, after_joined, after_chain}
use Rattle.el_tables.specs.Lists.{State, is_unspent}
use Rattle.el_tables.specs.Lists.State.{Unspent, Spent, Buried}
use Rattle.el_chain.specs.History.{Position, positions}
use Rattle.el_tables.specs.ChainLists.{Output, state_after, makes_outpoint, output, outputs_from, outputs}

-- 1. One transaction more after an output

-- what becomes of it then
abbrev pub moved_on : Bool → Bool → ℕ → State → State
moved_on taken made m Unspent = cond taken (Spent m) (cond made (Buried m) Unspent)
moved_on taken made m (Spent k) = Spent k
moved_on taken made m (Buried k) = Buried k

abbrev pub moved : Outpoint → ℕ → Position → State → State
moved o m p s = moved_on (takes o p.tx) (makes_outpoint o p) m s

abbrev pub moved_out : ℕ → Position → Output → Output
moved_out m p x = record { tx = x.tx; coin = x.coin; state = moved x.coin.outpoint m p x.state }

pub fate_more : (o : Outpoint) (n m : ℕ) (ps : List Position) (p : Position) → m ≡ n + length ps → state_after o n (ps ++ p ∷ []) ≡ moved o m p (state_after o n ps)
fate_more o n m [] p at = let e : m ≡ n = omega arith in rw e refl
fate_more o n m (q ∷ qs) p at = elim (cases_Bool (takes o q.tx)) [
  | inl h ↦ rw h refl
  | inr h ↦ elim (cases_Bool (makes_outpoint o q)) [
    | inl k ↦ rw (h, k) refl
    | inr k ↦ rw (h, k) (fate_more o (n + 1) m qs p (omega arith))
  ]
]

made_more : (n m : ℕ) (qs : List Position) (p : Position) (cs : List Coin) → m ≡ n + 1 + length qs
    → map (output n (qs ++ p ∷ [])) cs ≡ map (moved_out m p) (map (output n qs) cs)
made_more n m qs p [] at = refl
made_more n m qs p (c ∷ cs) at =
    let first = fate_more c.outpoint (n + 1) m qs p at in
    let rest = made_more n m qs p cs at in
    rw (first, rest) refl

pub outputs_more : (n m : ℕ) (ps : List Position) (p : Position) → m ≡ n + length ps
    → outputs_from n (ps ++ p ∷ []) ≡ map (moved_out m p) (outputs_from n ps) ++ map (output m []) (makes p)
outputs_more n m [] p at = let e : n ≡ m = omega arith in append-nil (map (output n []) (makes p)) ∙ rw e refl
outputs_more n m (q ∷ qs) p at =
    let first = made_more n m qs p (makes q) (omega arith) in
    let rest = outputs_more (n + 1) m qs p (omega arith) in
    rw (first, rest) (
    sym (append_assoc (map (moved_out m p) (map (output n qs) (makes q))) (map (moved_out m p) (outputs_from (n + 1) qs)) (map (output m []) (makes p)))
    ∙ ap (λ (l : List Output). l ++ map (output m []) (makes p)) (sym (map-append (moved_out m p) (map (output n qs) (makes q)) (outputs_from (n + 1) qs)))
    )

-- 2. The coins among outputs

abbrev pub is_there : Output → Bool
is_there x = is_unspent x.state

abbrev pub coin_of : Output → Coin
coin_of x = x.coin

abbrev pub coins_of : List Output → List Coin
coins_of xs = map coin_of (filter is_there xs)

pub coins_joined : (xs ys : List Output) → coins_of (xs ++ ys) ≡ coins_of xs ++ coins_of ys
coins_joined xs ys = ap (map coin_of) (filter-append is_there xs ys) ∙ map-append coin_of (filter is_there xs) (filter is_there ys)

-- new outputs are all there
pub coins_new : (m : ℕ) (cs : List Coin) → coins_of (map (output m []) cs) ≡ cs
coins_new m [] = refl
coins_new m (c ∷ cs) = ap (λ (l : List Coin). c ∷ l) (coins_new m cs)

-- the coins that a transaction's inputs, and then its outputs, leave
abbrev pub untaken : Tx → List Coin → List Coin
untaken t cs = filter (λ (c : Coin). not (takes c.outpoint t)) cs

abbrev pub unmade : List Coin → List Coin → List Coin
unmade made cs = filter (λ (c : Coin). not (list_any (is_coin_of c.outpoint) made)) cs

coins_moved_one : (m : ℕ) (p : Position) (n : ℕ) (c : Coin) (s : State) (xs : List Output)
    → coins_of (map (moved_out m p) xs) ≡ unmade (makes p) (untaken p.tx (coins_of xs))
    → coins_of (map (moved_out m p) (record { tx = n; coin = c; state = s } ∷ xs))
    ≡ unmade (makes p) (untaken p.tx (coins_of (record { tx = n; coin = c; state = s } ∷ xs)))
coins_moved_one m p n c Unspent xs rest = elim (cases_Bool (takes c.outpoint p.tx)) [
  | inl h ↦ rw h rest
  | inr h ↦ elim (cases_Bool (makes_outpoint c.outpoint p)) [
    | inl k ↦ rw (h, k) rest
    | inr k ↦ rw (h, k) (ap (λ (l : List Coin). c ∷ l) rest)
  ]
]
coins_moved_one m p n c (Spent k) xs rest = rest
coins_moved_one m p n c (Buried k) xs rest = rest

pub coins_moved : (m : ℕ) (p : Position) (xs : List Output) → coins_of (map (moved_out m p) xs) ≡ unmade (makes p) (untaken p.tx (coins_of xs))
coins_moved m p [] = refl
coins_moved m p (x ∷ xs) = coins_moved_one m p x.tx x.coin x.state xs (coins_moved m p xs)

-- 3. Taking and putting as filters

filter_true : {X : Type 0} (test : X → Bool) → ((x : X) → test x ≡ true) → (xs : List X) → filter test xs ≡ xs
filter_true test all [] = refl
filter_true test all (x ∷ xs) = let h = all x in let rest = filter_true test all xs in rw h (ap (λ l. x ∷ l) rest)

filter_twice : {X : Type 0} (p q r : X → Bool) → ((x : X) → r x ≡ (q x && p x)) → (xs : List X) → filter p (filter q xs) ≡ filter r xs
filter_twice p q r is [] = refl
filter_twice p q r is (x ∷ xs) =
    let here = is x in
    let rest = filter_twice p q r is xs in
    elim (cases_Bool (q x)) [
      | inl h ↦ elim (cases_Bool (p x)) [
        | inl k ↦ let e : r x ≡ true = here ∙ rw (h, k) refl in rw (h, e, k) (ap (λ l. x ∷ l) rest)
        | inr k ↦ let e : r x ≡ false = here ∙ rw (h, k) refl in rw (h, e, k) rest
      ]
      | inr h ↦ let e : r x ≡ false = here ∙ rw h refl in rw (h, e) rest
    ]

not_or : (a b : Bool) → not (a || b) ≡ (not a && not b)
not_or true b = refl
not_or false b = refl

pub inputs_are : (is : List TxIn) (cs : List Coin) → spend_inputs is cs ≡ filter (λ (c : Coin). not (list_any (λ (i : TxIn). same_outpoint c.outpoint i.from) is)) cs
inputs_are [] cs = sym (filter_true (λ (c : Coin). true) (λ c. refl) cs)
inputs_are (i ∷ is) cs =
    inputs_are is (without i.from cs)
    ∙ filter_twice (λ (c : Coin). not (list_any (λ (j : TxIn). same_outpoint c.outpoint j.from) is)) (λ (c : Coin). not (is_coin_of i.from c))
    (λ (c : Coin). not (list_any (λ (j : TxIn). same_outpoint c.outpoint j.from) (i ∷ is)))
    (λ c. not_or (same_outpoint c.outpoint i.from) (list_any (λ (j : TxIn). same_outpoint c.outpoint j.from) is)) cs

pub left_is : (t : Tx) (cs : List Coin) → coins_left t cs ≡ untaken t cs
left_is t cs = elim (cases_Bool (is_coinbase t)) [
  | inl h ↦ rw h (sym (filter_true (λ (c : Coin). true) (λ c. refl) cs))
  | inr h ↦ rw h (inputs_are t.inputs cs)
]

pub turned : (a b : Outpoint) → same_outpoint a b ≡ same_outpoint b a
turned a b = outpoints_equal.symm a b

pub outputs_are : (id : Hash32) (height n : ℕ) (os : List TxOut) (cs : List Coin)
    → add_outputs id height n os cs ≡ unmade (coins_made id height n os) cs ++ coins_made id height n os
outputs_are id height n [] cs = sym (append-nil _ ∙ filter_true (λ (c : Coin). true) (λ c. refl) cs)
outputs_are id height n (o ∷ os) cs =
    let d = coin_made id height n o in
    let later = coins_made id height (n + 1) os in
    let rest = outputs_are id height (n + 1) os (add_coin d cs) in
    let apart = later_apart d.outpoint id height (n + 1) os (omega arith) in
    let joined = filter-append (λ (c : Coin). not (list_any (is_coin_of c.outpoint) later)) (without d.outpoint cs) (d ∷ []) in
    let twice = filter_twice (λ (c : Coin). not (list_any (is_coin_of c.outpoint) later)) (λ (c : Coin). not (is_coin_of d.outpoint c))
    (λ (c : Coin). not (list_any (is_coin_of c.outpoint) (d ∷ later)))
    (λ c. not_or (is_coin_of c.outpoint d) (list_any (is_coin_of c.outpoint) later)
    ∙ ap (λ (b : Bool). not b && not (list_any (is_coin_of c.outpoint) later)) (turned d.outpoint c.outpoint)) cs in
    let one : filter (λ (c : Coin). not (list_any (is_coin_of c.outpoint) later)) (d ∷ []) ≡ d ∷ [] = rw apart refl in
    rest ∙ ap (λ (l : List Coin). l ++ later) (joined ∙ rw (twice, one) refl) ∙ append_assoc (unmade (d ∷ later) cs) (d ∷ []) later

-- 4. One transaction more

pub after_is : (p : Position) (cs : List Coin) → coins_after p.height p.tx cs ≡ unmade (makes p) (untaken p.tx cs) ++ makes p
after_is p cs = outputs_are (txid p.tx) p.height 0 p.tx.outputs (coins_left p.tx cs) ∙ ap (λ (l : List Coin). unmade (makes p) l ++ makes p) (left_is p.tx cs)

pub coins_step : (ps : List Position) (p : Position) → coins_of (outputs (ps ++ p ∷ [])) ≡ coins_after p.height p.tx (coins_of (outputs ps))
coins_step ps p =
    ap coins_of (outputs_more 0 (length ps) ps p (omega arith))
    ∙ coins_joined (map (moved_out (length ps) p) (outputs ps)) (map (output (length ps) []) (makes p))
    ∙ rw (coins_moved (length ps) p (outputs ps), coins_new (length ps) (makes p)) (sym (after_is p (coins_of (outputs ps))))

-- 5. All transactions

-- what holds of none, and goes on with one more after, holds of all
pub from_front : {X : Type 0} (P : List X → Type 0) → P [] → ((xs : List X) (x : X) → P xs → P (xs ++ x ∷ [])) → (xs : List X) → P xs
from_front {X} P none more xs = go [] xs none
  where
    go : (front back : List X) → P front → P (front ++ back)
    go front [] h = subst P (sym (append-nil front)) h
    go front (x ∷ back) h = subst P (append_assoc front (x ∷ []) back) (go (front ++ x ∷ []) back (more front x h))

pub coins_are : (ps : List Position) → coins_of (outputs ps) ≡ after ps []
coins_are ps = from_front (λ (qs : List Position). coins_of (outputs qs) ≡ after qs []) refl more ps
  where
    more : (qs : List Position) (q : Position) → coins_of (outputs qs) ≡ after qs [] → coins_of (outputs (qs ++ q ∷ [])) ≡ after (qs ++ q ∷ []) []
    more qs q h = coins_step qs q ∙ ap (coins_after q.height q.tx) h ∙ sym (after_joined qs (q ∷ []) [])

-- the coins of a chain are its unspent outputs, in the order of their numbers
pub chain_coins : (chain : Chain) → coins chain ≡ coins_of (outputs (positions chain))
chain_coins chain = sym (coins_are (positions chain) ∙ after_chain 0 chain [])
