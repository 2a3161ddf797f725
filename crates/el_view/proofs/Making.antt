-- The coins that kept transactions make beside those of the chain: what their outpoints name, and that none has two.
use Rattle.std.proofs.Common.{◌≡◌, inl, inr, ℕ, zero, suc, ◌+◌, ◌≤◌, Bool, true, false, ◌&&◌, List, [], ◌∷◌, ◌++◌, Option, None, Some, refl, ap, sym, ◌∙◌, append_assoc, append-nil, arith}
use Rattle.std.proofs.lemmas.Bool.{cases_Bool, true≢false, false_from_ne_true}
use Rattle.std.specs.List.{AllByRecursion, flat_map}
use Rattle.std.specs.Prelude.{nat_eq, slice_get, option_map}
use Rattle.std.specs.Option.{option_or}
use Rattle.el_base.specs.declared.hash.Hash32.{Hash32}
use Rattle.el_tx.specs.declared.types.Outpoint.{Outpoint}
use Rattle.el_tx.specs.declared.types.TxOut.{TxOut}
use Rattle.el_tx.specs.declared.types.Tx.{Tx}
use Rattle.el_tx.specs.Hashing.{txid, same_outpoint}
use Rattle.el_chain.specs.declared.coin.Coin.{Coin}
use Rattle.el_chain.specs.Chains.{Chain}
use Rattle.el_chain.specs.Coins.{coin_made, coins}
use Rattle.el_chain.specs.CoinLaws.{coins_made}
use Rattle.el_chain.specs.Headers.{same_hash}
use Rattle.el_chain.specs.CoinLists.{coin_in, AreOnce}
use Rattle.el_chain.proofs.CoinLists.{same_gives, in_more, once_more}
use Rattle.el_mempool.specs.Sift.{coin_held, coin_named, output_held, output_of, output_among, named, is_confirmed}
use Rattle.el_mempool.specs.Unconfirmed.{made}
use Rattle.el_mempool.proofs.Confirmed.{unconfirmed_none}
use Rattle.el_mempool.proofs.Picked.{KeysApart}
use Rattle.el_mempool.proofs.Sifted.{AreFresh}
use Rattle.el_mempool.proofs.Worth.{mapped_or}

-- ---- none that a kept one makes

-- none of the coins is an output of a transaction with that txid
abbrev pub HasNoneOf : Hash32 → List Coin → Type 0
HasNoneOf id cs = (o : Outpoint) → o.txid ≡ id → coin_in cs o ≡ None

abbrev pub HasNoneFrom : Hash32 → ℕ → List Coin → Type 0
HasNoneFrom id n cs = (k : ℕ) → n ≤ k → coin_in cs (record { txid = id; index = k }) ≡ None

other_index : (id : Hash32) (n k : ℕ) → n + 1 ≤ k → same_outpoint (record { txid = id; index = n }) (record { txid = id; index = k }) ≡ false
other_index id n k less = false_from_ne_true (same_outpoint (record { txid = id; index = n }) (record { txid = id; index = k }))
    (λ e. let is : n ≡ k = ap (λ (o : Outpoint). o.index) (same_gives (record { txid = id; index = n }) (record { txid = id; index = k }) e) in absurd (omega (arith, is, less)))

added_none : (cs : List Coin) (c : Coin) (o : Outpoint) → coin_in cs o ≡ None → same_outpoint c.outpoint o ≡ false → coin_in (cs ++ c ∷ []) o ≡ None
added_none cs c o none apart = in_more cs c o ∙ rw (none, apart) refl

pub once_made : (id : Hash32) (n : ℕ) (os : List TxOut) (cs : List Coin) → AreOnce cs → HasNoneFrom id n cs → AreOnce (cs ++ coins_made id 0 n os)
once_made id n [] cs once none = rw (append-nil cs) once
once_made id n (o ∷ os) cs once none =
    let more = once_made id (n + 1) os (cs ++ coin_made id 0 n o ∷ []) (once_more cs (coin_made id 0 n o) once (none n (omega arith)))
    (λ k less. added_none cs (coin_made id 0 n o) (record { txid = id; index = k }) (none k (omega (arith, less))) (other_index id n k less)) in
    rw (append_assoc cs (coin_made id 0 n o ∷ []) (coins_made id 0 (n + 1) os)) at more

none_made : (id other : Hash32) (n : ℕ) (os : List TxOut) (cs : List Coin) → (id ≡ other → ⊥) → HasNoneOf other cs → HasNoneOf other (cs ++ coins_made id 0 n os)
none_made id other n [] cs apart none = rw (append-nil cs) none
none_made id other n (o ∷ os) cs apart none =
    let more = none_made id other (n + 1) os (cs ++ coin_made id 0 n o ∷ []) apart
    (λ x is. added_none cs (coin_made id 0 n o) x (none x is)
    (false_from_ne_true (same_outpoint (record { txid = id; index = n }) x) (λ e. apart (ap (λ (y : Outpoint). y.txid) (same_gives (record { txid = id; index = n }) x e) ∙ is)))) in
    rw (append_assoc cs (coin_made id 0 n o ∷ []) (coins_made id 0 (n + 1) os)) at more

abbrev pub HasNoneOfAll : List Tx → List Coin → Type 0
HasNoneOfAll ts cs = AllByRecursion (λ (t : Tx). HasNoneOf (txid t) cs) ts

none_after : (t : Tx) (us : List Tx) (cs : List Coin) → AllByRecursion (λ (u : Tx). txid t ≡ txid u → ⊥) us → HasNoneOfAll us cs → HasNoneOfAll us (cs ++ made t)
none_after t [] cs apart none = tt
none_after t (u ∷ us) cs apart none = (none_made (txid t) (txid u) 0 t.outputs cs apart.0 none.0, none_after t us cs apart.1 none.1)

pub once_with_made : (ts : List Tx) (cs : List Coin) → KeysApart txid ts → AreOnce cs → HasNoneOfAll ts cs → AreOnce (cs ++ flat_map made ts)
once_with_made [] cs apart once none = rw (append-nil cs) once
once_with_made (t ∷ ts) cs apart once none =
    let more = once_with_made ts (cs ++ made t) apart.1 (once_made (txid t) 0 t.outputs cs once (λ k less. none.0 (record { txid = txid t; index = k }) refl)) (none_after t ts cs apart.0 none.1) in
    rw (append_assoc cs (made t) (flat_map made ts)) at more

unmapped : (x : Option Coin) → option_map coin_held x ≡ None → x ≡ None
unmapped None e = refl
unmapped (Some c) e = absurd (some_none e)
  where
    some_none : Some (coin_held c) ≡ None → ⊥
    some_none h = cc

pub chain_has_none : (chain : Chain) (ts : List Tx) → AreFresh chain ts → HasNoneOfAll ts (coins chain)
chain_has_none chain [] fresh = tt
chain_has_none chain (t ∷ ts) fresh =
    (λ o is. unmapped (coin_in (coins chain) o) (unconfirmed_none chain o (ap (is_confirmed chain) is ∙ fresh.0)), chain_has_none chain ts fresh.1)

-- ---- what an outpoint names

in_append : (xs ys : List Coin) (o : Outpoint) → coin_in (xs ++ ys) o ≡ option_or (coin_in xs o) (coin_in ys o)
in_append [] ys o = refl
in_append (x ∷ xs) ys o = elim (cases_Bool (same_outpoint x.outpoint o)) [
  | inl h ↦ rw h refl
  | inr h ↦ rw h (in_append xs ys o)
]

nat_own : (n : ℕ) → nat_eq n (n + 0) ≡ true
nat_own n = grind arith

nat_other : (n k : ℕ) → nat_eq n (n + suc k) ≡ false
nat_other n k = grind arith

under : (a b : Bool) → a ≡ true → (a && b) ≡ b
under true b e = refl
under false b e = absurd (true≢false (sym e))

found_made : (id other : Hash32) (n k : ℕ) (os : List TxOut) → same_hash id other ≡ true
    → option_map coin_held (coin_in (coins_made id 0 n os) (record { txid = other; index = n + k })) ≡ option_map output_held (slice_get os k)
found_made id other n k [] same = refl
found_made id other n zero (x ∷ xs) same =
    let here : same_outpoint (record { txid = id; index = n }) (record { txid = other; index = n + 0 }) ≡ true = under (same_hash id other) (nat_eq n (n + 0)) same ∙ nat_own n in
    rw here refl
found_made id other n (suc k) (x ∷ xs) same =
    let here : same_outpoint (record { txid = id; index = n }) (record { txid = other; index = n + suc k }) ≡ false = under (same_hash id other) (nat_eq n (n + suc k)) same ∙ nat_other n k in
    let moved : n + suc k ≡ n + 1 + k = omega arith in
    rw here (ap (λ i. option_map coin_held (coin_in (coins_made id 0 (n + 1) xs) (record { txid = other; index = i }))) moved ∙ found_made id other (n + 1) k xs same)

not_under : (a b : Bool) → a ≡ false → (a && b) ≡ false
not_under false b e = refl
not_under true b e = absurd (true≢false e)

missing_made : (id : Hash32) (n : ℕ) (os : List TxOut) (o : Outpoint) → same_hash id o.txid ≡ false → coin_in (coins_made id 0 n os) o ≡ None
missing_made id n [] o other = refl
missing_made id n (x ∷ xs) o other =
    let here : same_outpoint (record { txid = id; index = n }) o ≡ false = not_under (same_hash id o.txid) (nat_eq n o.index) other in
    rw here (missing_made id (n + 1) xs o other)

made_is : (t : Tx) (o : Outpoint) → option_map coin_held (coin_in (made t) o) ≡ output_of o t
made_is t o = elim (cases_Bool (same_hash (txid t) o.txid)) [
  | inl h ↦ rw h (ap (λ i. option_map coin_held (coin_in (made t) (record { txid = o.txid; index = i }))) (zero_more o.index) ∙ found_made (txid t) o.txid 0 o.index t.outputs h)
  | inr h ↦ rw h (ap (option_map coin_held) (missing_made (txid t) 0 t.outputs o h))
]
  where
    zero_more : (n : ℕ) → n ≡ 0 + n
    zero_more n = omega arith

among_made : (ts : List Tx) (o : Outpoint) → option_map coin_held (coin_in (flat_map made ts) o) ≡ output_among o ts
among_made [] o = refl
among_made (t ∷ ts) o =
    ap (option_map coin_held) (in_append (made t) (flat_map made ts) o) ∙ mapped_or (coin_in (made t) o) (coin_in (flat_map made ts) o)
    ∙ ap (λ x. option_or x (option_map coin_held (coin_in (flat_map made ts) o))) (made_is t o) ∙ ap (option_or (output_of o t)) (among_made ts o)

pub all_named_in : (chain : Chain) (ts : List Tx) (o : Outpoint) → option_map coin_held (coin_in (coins chain ++ flat_map made ts) o) ≡ named chain ts o
all_named_in chain ts o =
    ap (option_map coin_held) (in_append (coins chain) (flat_map made ts) o) ∙ mapped_or (coin_in (coins chain) o) (coin_in (flat_map made ts) o)
    ∙ ap (option_or (coin_named chain o)) (among_made ts o)
