-- The sums over the entries that clients see of a script hash are those over all kept transactions.
use Rattle.std.proofs.Common.{◌≡◌, ◌≤◌, ◌^◌, ◌⊎◌, inl, inr, ℕ, ◌+◌, ℤ, pos, ◌-ℤ◌, Bool, true, false, cond, List, [], ◌∷◌, ◌++◌, Option, None, Some, refl, ap, ◌∙◌, arith}
use Rattle.std.proofs.lemmas.Bool.{cases_Bool, or_parts}
use Rattle.std.proofs.lemmas.Int.{ints}
use Rattle.std.proofs.lemmas.List.Sums.{sum_by-cons}
use Rattle.std.specs.List.{AllByRecursion, filter, list_any}
use Rattle.std.specs.Prelude.{map, sum_by, option_map, option_to_list, Result, Ok, Err, IfOk, OnErr}
use Rattle.std.specs.Ordering.{is_gt}
use Rattle.std.specs.Str.{bytes_eq}
use Rattle.std.specs.declared.cmp.Ordering.{Ordering}
use Rattle.el_tx.specs.declared.types.TxIn.{TxIn}
use Rattle.el_tx.specs.declared.types.TxOut.{TxOut}
use Rattle.el_tx.specs.declared.types.Tx.{Tx}
use Rattle.el_tx.specs.Hashing.{txid}
use Rattle.el_chain.specs.Chains.{Chain}
use Rattle.el_chain.specs.Coins.{supply, script_hash_of}
use Rattle.el_chain.specs.History.{funds}
use Rattle.el_model.specs.Queries as confirmed
use Rattle.el_mempool.specs.declared.entry.PoolEntry.{PoolEntry}
use Rattle.el_mempool.specs.declared.held.Held.{Held}
use Rattle.el_mempool.specs.declared.held.Source.{Source}
use Rattle.el_mempool.specs.declared.held.KeptTx.{KeptTx}
use Rattle.el_mempool.specs.Sift.{output_held, named, held_by}
use Rattle.el_mempool.specs.Refusals.{kept_with}
use Rattle.el_mempool.specs.Standing.{source_at, sources, kept_tx, KeptStandFor}
use Rattle.el_mempool.specs.Unconfirmed.{has_script, concerns_script, put, in_order, shown_cmp, by_shown, entry, pool_history}
use Rattle.el_mempool.proofs.Ordered.{all_in_order}
use Rattle.el_mempool.proofs.Picked.{KeysApart}
use Rattle.el_mempool.proofs.Changes.{apart_from, own_found}
use Rattle.el_view.specs.Views.{unspent, unconfirmed}
use Rattle.el_view.specs.within.Sums.{value_at, given_at, taken_at, given_in, taken_in, kept_of, given_by, taken_by}
use Rattle.el_view.proofs.Conserved.{tally, gives, takes, conserved}

-- ---- the others have nothing of the script hash

given_none : (s : List ℕ) (os : List TxOut) → list_any (λ (o : TxOut). bytes_eq (script_hash_of o) s) os ≡ false → given_at s (map output_held os) ≡ 0
given_none s [] none = refl
given_none s (o ∷ os) none =
    let parts = or_parts (bytes_eq (script_hash_of o) s) (list_any (λ (x : TxOut). bytes_eq (script_hash_of x) s) os) none in
    let rest = given_none s os parts.1 in
    let nothing : value_at s (output_held o) ≡ 0 = ap (λ b. cond b o.value 0) parts.0 in
    sum_by-cons (λ (h : Held). value_at s h) (output_held o) (map output_held os) ∙ omega (arith, rest, nothing)

taken_none : (chain : Chain) (kept : List Tx) (s : List ℕ) (is : List TxIn) → list_any (has_script s) (held_by chain kept is) ≡ false → taken_at s (sources chain kept is) ≡ 0
taken_none chain kept s [] none = refl
taken_none chain kept s (i ∷ is) none = by (named chain kept i.from) (taken_none chain kept s is) none
  where
    by : (x : Option Held) → (list_any (has_script s) (held_by chain kept is) ≡ false → taken_at s (sources chain kept is) ≡ 0)
        → list_any (has_script s) (option_to_list x ++ held_by chain kept is) ≡ false
        → taken_at s (option_to_list (option_map (source_at i) x) ++ sources chain kept is) ≡ 0
    by None rest h = rest h
    by (Some v) rest h =
        let parts = or_parts (has_script s v) (list_any (has_script s) (held_by chain kept is)) h in
        let more = rest parts.1 in
        let nothing : value_at s v ≡ 0 = ap (λ b. cond b v.value 0) parts.0 in
        sum_by-cons (λ (x : Source). value_at s x.held) (source_at i v) (sources chain kept is) ∙ omega (arith, more, nothing)

-- ---- sums over entries

module _ (chain : Chain) (kept : List Tx) (f : Option KeptTx → ℕ) where
  listed : (p : Tx → Bool) → ((t : Tx) → p t ≡ false → f (Some (kept_tx chain kept t)) ≡ 0) → (ts : List Tx) → AllByRecursion (λ (t : Tx). kept_with (txid t) kept ≡ Some t) ts
      → sum_by (λ (e : PoolEntry). f (kept_of chain kept e)) (map (entry chain kept) (filter p ts)) ≡ tally (λ t. f (Some (kept_tx chain kept t))) ts
  listed p others [] found = refl
  listed p others (t ∷ ts) found = elim (cases_Bool (p t)) [
    | inl h ↦
        let rest = listed p others ts found.1 in
        let here : f (kept_of chain kept (entry chain kept t)) ≡ f (Some (kept_tx chain kept t)) = ap (λ x. f (option_map (kept_tx chain kept) x)) found.0 in
        rw h (sum_by-cons (λ (e : PoolEntry). f (kept_of chain kept e)) (entry chain kept t) (map (entry chain kept) (filter p ts)) ∙ omega (arith, rest, here))
    | inr h ↦
        let rest = listed p others ts found.1 in
        let nothing = others t h in
        rw h (omega (arith, rest, nothing))
  ]

tally_put : (R : Tx → Tx → Ordering) (f : Tx → ℕ) (t : Tx) (us : List Tx) → tally f (put R t us) ≡ f t + tally f us
tally_put R f t [] = refl
tally_put R f t (u ∷ us) = by (is_gt (R t u)) (tally_put R f t us)
  where
    by : (b : Bool) → tally f (put R t us) ≡ f t + tally f us → tally f (cond b (u ∷ put R t us) (t ∷ u ∷ us)) ≡ f t + (f u + tally f us)
    by true e = omega (arith, e)
    by false e = refl

tally_in_order : (R : Tx → Tx → Ordering) (f : Tx → ℕ) (ts : List Tx) → tally f (in_order R ts) ≡ tally f ts
tally_in_order R f [] = refl
tally_in_order R f (t ∷ ts) = tally_put R f t (in_order R ts) ∙ ap (λ n. f t + n) (tally_in_order R f ts)

found_in_order : (kept : List Tx) → KeysApart txid kept → AllByRecursion (λ (t : Tx). kept_with (txid t) kept ≡ Some t) (by_shown kept)
found_in_order kept apart = all_in_order shown_cmp (λ (t : Tx). kept_with (txid t) kept ≡ Some t) kept (own_found kept apart)

given_is : (chain : Chain) (kept : List Tx) (s : List ℕ) → KeysApart txid kept → given_by chain kept s (pool_history chain kept s) ≡ tally (gives s) kept
given_is chain kept s apart =
    listed chain kept (given_in s) (concerns_script chain kept s)
    (λ t h. given_none s t.outputs (or_parts (funds s t) (list_any (has_script s) (held_by chain kept t.inputs)) h).0) (by_shown kept) (found_in_order kept apart)
    ∙ tally_in_order shown_cmp (gives s) kept

taken_is : (chain : Chain) (kept : List Tx) (s : List ℕ) → KeysApart txid kept → taken_by chain kept s (pool_history chain kept s) ≡ tally (takes chain kept s) kept
taken_is chain kept s apart =
    listed chain kept (taken_in s) (concerns_script chain kept s)
    (λ t h. taken_none chain kept s t.inputs (or_parts (funds s t) (list_any (has_script s) (held_by chain kept t.inputs)) h).1) (by_shown kept) (found_in_order kept apart)
    ∙ tally_in_order shown_cmp (takes chain kept s) kept

-- ---- the difference

moved : (a b c d : ℕ) → a + d ≡ b + c → pos c -ℤ pos d ≡ pos a -ℤ pos b
moved a b c d h = omega (arith, ints, h)

pub change_is : (entries : List KeptTx) (chain : Chain) (kept : List Tx) (s : List ℕ) → KeptStandFor entries chain kept → (given taken : ℕ)
    → given ≡ given_by chain kept s (pool_history chain kept s) → taken ≡ taken_by chain kept s (pool_history chain kept s)
    → pos given -ℤ pos taken ≡ unconfirmed chain kept s
change_is entries chain kept s stands given taken gave took =
    let apart = apart_from kept stands.once in
    let whole = conserved chain kept s stands.sifted apart in
    let g = gave ∙ given_is chain kept s apart in
    let t = took ∙ taken_is chain kept s apart in
    moved (supply (unspent chain kept s)) (confirmed.balance chain s) given taken (omega (arith, whole, g, t))

pub ok_same : {E : Type 0} (r : Result ℤ E) (a b : ℤ) → a ≡ b → IfOk r (λ x. x ≡ a) → IfOk r (λ x. x ≡ b)
ok_same (Ok x) a b same is = is ∙ same
ok_same (Err e) a b same is = is

-- where a sum so far passes 128 bits, that of all does
pub one_is_wide : (given taken more_given more_taken all_given all_taken : ℕ)
    → ((2 ^ 128 ≤ given + more_given) ⊎ (2 ^ 128 ≤ taken + more_taken))
    → given + more_given ≤ all_given → taken + more_taken ≤ all_taken
    → (2 ^ 128 ≤ all_given) ⊎ (2 ^ 128 ≤ all_taken)
one_is_wide given taken more_given more_taken all_given all_taken (inl h) g t = inl (omega (arith, h, g))
one_is_wide given taken more_given more_taken all_given all_taken (inr h) g t = inr (omega (arith, h, t))

-- what holds anyhow holds where there is an error
pub on_any : {T E P : Type 0} (r : Result T E) → P → OnErr r P
on_any (Ok t) p = tt
on_any (Err e) p = p
