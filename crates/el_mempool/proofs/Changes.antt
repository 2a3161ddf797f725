-- Which script hashes a change of the kept ones changes. All transactions stand in one list with no txid twice; before the change
-- and after it those are kept whose txid isn't gone.
use Rattle.std.proofs.Common.{◌≡◌, inl, inr, ℕ, true, false, Bool, cond, not, List, [], ◌∷◌, Option, None, Some, refl, ap, sym, ◌∙◌, is_some, ◌||◌}
use Rattle.std.proofs.lemmas.Bool.{cases_Bool, false_from_ne_true}
use Rattle.std.specs.List.{AllByRecursion, filter}
use Rattle.std.specs.Prelude.{map, IfSome, option_map}
use Rattle.std.specs.Ordering.{is_gt}
use Rattle.std.specs.Cmp.{IsTotalOrder}
use Rattle.std.proofs.lemmas.Cmp.{on_total, nat_list_cmp_total}
use Rattle.el_base.specs.Shown.{shown}
use Rattle.el_base.specs.declared.hash.Hash32.{Hash32}
use Rattle.el_base.proofs.Lists.{all_both}
use Rattle.el_tx.specs.declared.types.Tx.{Tx}
use Rattle.el_tx.specs.Hashing.{txid}
use Rattle.el_tx.specs.declared.types.Outpoint.{Outpoint}
use Rattle.el_block.specs.Blocks.{AllDiffer}
use Rattle.el_chain.specs.Chains.{Chain}
use Rattle.el_chain.specs.Headers.{same_hash}
use Rattle.el_mempool.specs.declared.entry.PoolEntry.{PoolEntry}
use Rattle.el_mempool.specs.Unconfirmed.{put, shown_cmp, by_shown, concerns_script, entry, pool_history}
use Rattle.el_mempool.specs.Refusals.{kept_with, spender_of}
use Rattle.el_mempool.specs.Sift.{any_takes, is_taken}
use Rattle.el_mempool.proofs.Dropping.{rest}
use Rattle.el_mempool.proofs.Ordered.{all_put, all_in_order, all_in_order_back, filter_in_order}
use Rattle.el_mempool.proofs.Picked.{picked, where_both, picked_is, Agree, picked_same, KeysApart, picked_agree}
use Rattle.el_mempool.proofs.Confirmed.{hash_self, hash_same}

pub shown_total : IsTotalOrder shown_cmp
shown_total = on_total (λ (t : Tx). shown (txid t).0) nat_list_cmp_total

-- what a client sees of a transaction at a script hash: nothing where it is gone or doesn't concern it
abbrev pub seen : Chain → (Hash32 → Bool) → List Tx → List ℕ → Tx → Option PoolEntry
seen chain gone all s =
    where_both (λ (t : Tx). not (gone (txid t))) (concerns_script chain (rest gone all) s) (entry chain (rest gone all))

history_is : (chain : Chain) (gone : Hash32 → Bool) (all : List Tx) (s : List ℕ) → pool_history chain (rest gone all) s ≡ picked (seen chain gone all s) (by_shown all)
history_is chain gone all s =
    ap (λ l. map (entry chain (rest gone all)) (filter (concerns_script chain (rest gone all) s) l)) (filter_in_order shown_cmp shown_total (λ (t : Tx). not (gone (txid t))) all)
    ∙ picked_is (λ (t : Tx). not (gone (txid t))) (concerns_script chain (rest gone all) s) (entry chain (rest gone all)) (by_shown all)

-- where the same is seen of each transaction, the histories are the same
pub history_same : (one two : Chain) (g h : Hash32 → Bool) (all : List Tx) (s : List ℕ) → Agree (seen one g all s) (seen two h all s) all
    → pool_history one (rest g all) s ≡ pool_history two (rest h all) s
history_same one two g h all s same =
    history_is one g all s
    ∙ picked_same (seen one g all s) (seen two h all s) (by_shown all) (all_in_order shown_cmp (λ (t : Tx). seen one g all s t ≡ seen two h all s t) all same)
    ∙ sym (history_is two h all s)

keys_put : (t : Tx) (us : List Tx) → AllByRecursion (λ (u : Tx). txid t ≡ txid u → ⊥) us → KeysApart txid us → KeysApart txid (put shown_cmp t us)
keys_put t [] all apart = (tt, tt)
keys_put t (u ∷ us) all apart = elim (cases_Bool (is_gt (shown_cmp t u))) [
  | inl g ↦ rw g (all_put shown_cmp (λ (v : Tx). txid u ≡ txid v → ⊥) t us (λ e. all.0 (sym e)) apart.0, keys_put t us all.1 apart.1)
  | inr g ↦ rw g (all, apart)
]

pub keys_in_order : (ts : List Tx) → KeysApart txid ts → KeysApart txid (by_shown ts)
keys_in_order [] apart = tt
keys_in_order (t ∷ ts) apart = keys_put t (by_shown ts) (all_in_order shown_cmp (λ (u : Tx). txid t ≡ txid u → ⊥) ts apart.0) (keys_in_order ts apart.1)

all_mapped : (id : Hash32) (ts : List Tx) → AllByRecursion (λ (x : Hash32). id ≡ x → ⊥) (map txid ts) → AllByRecursion (λ (t : Tx). id ≡ txid t → ⊥) ts
all_mapped id [] h = tt
all_mapped id (t ∷ ts) h = (h.0, all_mapped id ts h.1)

pub apart_from : (ts : List Tx) → AllDiffer (map txid ts) → KeysApart txid ts
apart_from [] h = tt
apart_from (t ∷ ts) h = (all_mapped (txid t) ts h.0, apart_from ts h.1)

seen_keyed : (chain : Chain) (gone : Hash32 → Bool) (all : List Tx) (s : List ℕ) (t : Tx) → IfSome (seen chain gone all s t) (λ e. e.txid ≡ txid t)
seen_keyed chain gone all s t = by (not (gone (txid t))) (concerns_script chain (rest gone all) s t)
  where
    by : (a b : Bool) → IfSome (cond a (cond b (Some (entry chain (rest gone all) t)) None) None) (λ e. e.txid ≡ txid t)
    by true true = refl
    by true false = tt
    by false b = tt

-- where the histories are the same, the same is seen of each transaction
pub history_agrees : (one two : Chain) (g h : Hash32 → Bool) (all : List Tx) (s : List ℕ) → KeysApart txid all
    → pool_history one (rest g all) s ≡ pool_history two (rest h all) s → Agree (seen one g all s) (seen two h all s) all
history_agrees one two g h all s apart same =
    all_in_order_back shown_cmp (λ (t : Tx). seen one g all s t ≡ seen two h all s t) all
    (picked_agree txid (λ (e : PoolEntry). e.txid) (seen one g all s) (seen two h all s) (seen_keyed one g all s) (seen_keyed two h all s) (by_shown all) (keys_in_order all apart)
    (sym (history_is one g all s) ∙ same ∙ history_is two h all s))

-- ---- each kept transaction is found by its txid

pub own_found : (ts : List Tx) → KeysApart txid ts → AllByRecursion (λ (t : Tx). kept_with (txid t) ts ≡ Some t) ts
own_found [] apart = tt
own_found (t ∷ ts) apart = (
  ap (λ b. cond b (Some t) (kept_with (txid t) ts)) (hash_self (txid t) (txid t) refl),
  all_both (λ (u : Tx). txid t ≡ txid u → ⊥) (λ (u : Tx). kept_with (txid u) ts ≡ Some u) (λ (u : Tx). kept_with (txid u) (t ∷ ts) ≡ Some u) ts
      (λ u off is. ap (λ b. cond b (Some t) (kept_with (txid u) ts)) (false_from_ne_true (same_hash (txid u) (txid t)) (λ e. off (sym (hash_same (txid u) (txid t) e)))) ∙ is)
      apart.0 (own_found ts apart.1),
)

-- ---- an outpoint has a taker where one is found

pub spender_taken : (o : Outpoint) (ts : List Tx) → is_some (option_map txid (spender_of o ts)) ≡ is_taken o ts
spender_taken o [] = refl
spender_taken o (t ∷ ts) = by (any_takes o t.inputs) (spender_taken o ts)
  where
    by : (b : Bool) → is_some (option_map txid (spender_of o ts)) ≡ is_taken o ts → is_some (option_map txid (cond b (Some t) (spender_of o ts))) ≡ (b || is_taken o ts)
    by true e = refl
    by false e = e
