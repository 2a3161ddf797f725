-- Which script hashes change where the kept ones are sifted over another chain.
use Rattle.std.proofs.Common.{◌≡◌, inl, inr, true, false, Bool, cond, not, ◌||◌, List, [], ◌∷◌, ◌++◌, refl, ap, sym, subst, ◌∙◌}
use Rattle.std.proofs.lemmas.Bool.{cases_Bool, or_from, true≢false, false_from_ne_true}
use Rattle.std.specs.List.{AllByRecursion, list_any}
use Rattle.el_base.specs.declared.hash.Hash32.{Hash32}
use Rattle.el_tx.specs.declared.types.Tx.{Tx}
use Rattle.el_tx.specs.Hashing.{txid}
use Rattle.el_block.specs.Blocks.{AllDiffer}
use Rattle.el_chain.specs.Chains.{Chain}
use Rattle.el_chain.specs.Headers.{same_hash}
use Rattle.el_mempool.specs.Sift.{is_confirmed, may_join, sift}
use Rattle.el_mempool.specs.Refusals.{is_kept}
use Rattle.el_mempool.specs.declared.held.KeptTx.{KeptTx}
use Rattle.el_mempool.specs.Standing.{HaveDifferentTxids, KeptStandFor, AreChanged}
use Rattle.el_mempool.proofs.Sifting.{stay, folds, all_join, joins_of}
use Rattle.el_mempool.proofs.Confirmed.{hash_same, hash_self}
use Rattle.el_mempool.proofs.Dropping.{rest}
use Rattle.el_mempool.proofs.Picked.{KeysApart}
use Rattle.el_mempool.proofs.Changes.{apart_from}
use Rattle.el_mempool.proofs.Unspent.{AreOver}
use Rattle.el_mempool.proofs.Changed.{Tells, changes_are}
use Rattle.el_mempool.proofs.Arrivals.{nothing, all_stay, fresh_from, over_all}

-- the txids of none of these
abbrev pub not_among : List Tx → Hash32 → Bool
not_among ts id = not (is_kept id ts)

rest_same : (g h : Hash32 → Bool) (ts : List Tx) → AllByRecursion (λ (t : Tx). g (txid t) ≡ h (txid t)) ts → rest g ts ≡ rest h ts
rest_same g h [] e = refl
rest_same g h (t ∷ ts) e = let here = e.0 in rw here (by (h (txid t)) (rest_same g h ts e.1))
  where
    by : (b : Bool) → rest g ts ≡ rest h ts → cond (not b) (t ∷ rest g ts) (rest g ts) ≡ cond (not b) (t ∷ rest h ts) (rest h ts)
    by true more = more
    by false more = ap (λ l. t ∷ l) more

pub absent_in : (id : Hash32) (p : List Tx → Tx → Bool) (before ts : List Tx) → AllByRecursion (λ (u : Tx). id ≡ txid u → ⊥) ts → is_kept id (stay p before ts) ≡ false
absent_in id p before [] h = refl
absent_in id p before (t ∷ ts) h = elim (cases_Bool (p before t)) [
  | inl g ↦
      let apart : same_hash (txid t) id ≡ false = false_from_ne_true (same_hash (txid t) id) (λ e. h.0 (sym (hash_same (txid t) id e))) in
      rw g (or_from (same_hash (txid t) id) (is_kept id (stay p (before ++ t ∷ []) ts)) apart (absent_in id p (before ++ t ∷ []) ts h.1))
  | inr g ↦ rw g (absent_in id p before ts h.1)
]

with_first : (t : Tx) (us kept : List Tx) → AllByRecursion (λ (u : Tx). txid t ≡ txid u → ⊥) us → AllByRecursion (λ (u : Tx). not_among (t ∷ kept) (txid u) ≡ not_among kept (txid u)) us
with_first t [] kept h = tt
with_first t (u ∷ us) kept h =
    let apart : same_hash (txid t) (txid u) ≡ false = false_from_ne_true (same_hash (txid t) (txid u)) (λ e. h.0 (hash_same (txid t) (txid u) e)) in
    (ap (λ b. not (b || is_kept (txid u) kept)) apart, with_first t us kept h.1)

-- what is kept is what is left where those are gone that aren't kept
stayed_is : (p : List Tx → Tx → Bool) (before ts : List Tx) → KeysApart txid ts → stay p before ts ≡ rest (not_among (stay p before ts)) ts
stayed_is p before [] h = refl
stayed_is p before (t ∷ ts) h = by (p before t) (stayed_is p (before ++ t ∷ []) ts h.1) (stayed_is p before ts h.1)
  where
    by : (b : Bool) → stay p (before ++ t ∷ []) ts ≡ rest (not_among (stay p (before ++ t ∷ []) ts)) ts → stay p before ts ≡ rest (not_among (stay p before ts)) ts
        → cond b (t ∷ stay p (before ++ t ∷ []) ts) (stay p before ts) ≡ rest (not_among (cond b (t ∷ stay p (before ++ t ∷ []) ts) (stay p before ts))) (t ∷ ts)
    by true kept none =
        let own = hash_self (txid t) (txid t) refl in
        rw own (ap (λ l. t ∷ l) (kept ∙ sym (rest_same (not_among (t ∷ stay p (before ++ t ∷ []) ts)) (not_among (stay p (before ++ t ∷ []) ts)) ts (with_first t ts (stay p (before ++ t ∷ []) ts) h.0))))
    by false kept none =
        let absent = absent_in (txid t) p before ts h.0 in
        rw absent none

pub sifted_is : (chain : Chain) (kept : List Tx) → HaveDifferentTxids kept → sift chain kept ≡ rest (not_among (sift chain kept)) kept
sifted_is chain kept once =
    subst (λ (l : List Tx). l ≡ rest (not_among l) kept) (sym (folds (may_join chain) [] kept)) (stayed_is (may_join chain) [] kept (apart_from kept once))

over_rest : (chain : Chain) (g : Hash32 → Bool) (ts : List Tx) → AllByRecursion (λ (t : Tx). is_confirmed chain (txid t) ≡ false) (rest g ts) → AreOver chain g ts
over_rest chain g [] h = tt
over_rest chain g (t ∷ ts) h = elim (cases_Bool (g (txid t))) [
  | inl e ↦ let said = rw e at h in ((λ stays. absurd (true≢false (sym e ∙ stays))), over_rest chain g ts said)
  | inr e ↦ let said = rw e at h in ((λ _. said.0), over_rest chain g ts said.1)
]

-- A move changes the script hashes at which what is seen of some transaction differs: of one that is kept no more, those that it
-- concerned; of one that stays, those at which its entry is another now, as where its flag changed.
pub move_changes : (before chain : Chain) (entries : List KeptTx) (kept : List Tx) (differs : Hash32 → Tx → Bool) (scripts : List Hash32) → KeptStandFor entries before kept
    → Tells before chain nothing (not_among (sift chain kept)) kept differs → AllDiffer scripts → ((s : Hash32) → list_any (same_hash s) scripts ≡ list_any (differs s) kept)
    → AreChanged before kept chain (sift chain kept) scripts
move_changes before chain entries kept differs scripts h tells once are =
    let old = fresh_from before [] kept (joins_of (may_join before) kept h.sifted) in
    let is = sifted_is chain kept h.once in
    let joined = folds (may_join chain) [] kept in
    let new : AllByRecursion (λ (t : Tx). is_confirmed chain (txid t) ≡ false) (sift chain kept) = rw joined (fresh_from chain [] (stay (may_join chain) [] kept) (all_join (may_join chain) [] kept)) in
    let left : AllByRecursion (λ (t : Tx). is_confirmed chain (txid t) ≡ false) (rest (not_among (sift chain kept)) kept) = subst (λ (l : List Tx). AllByRecursion (λ (t : Tx). is_confirmed chain (txid t) ≡ false) l) is new in
    let changed = changes_are before chain nothing (not_among (sift chain kept)) kept differs scripts (apart_from kept h.once) (over_all before nothing kept old)
    (over_rest chain (not_among (sift chain kept)) kept left) tells once are in
    let all = all_stay kept in
    subst (λ (l : List Tx). AreChanged before kept chain l scripts) (sym is) (subst (λ (l : List Tx). AreChanged before l chain (rest (not_among (sift chain kept)) kept) scripts) all changed)
