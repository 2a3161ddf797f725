-- What changes of the fees where one more comes, where some go, and along a sift.
use Rattle.std.proofs.Common.{◌≡◌, ℕ, ◌+◌, ◌*◌, ◌/◌, ◌≤◌, true, false, Bool, not, List, [], ◌∷◌, ◌++◌, append_assoc, append-nil, inl, inr, refl, ap, sym, subst, ◌∙◌, eq-eqb, length, arith}
use Rattle.std.proofs.lemmas.Bool.{cases_Bool, true≢false, false_from_ne_true}
use Rattle.std.proofs.lemmas.List.Sums.{sum_by-cons}
use Rattle.std.proofs.lemmas.List.Sorted.{IsPermutation-refl}
use Rattle.std.specs.List.{AllByRecursion}
use Rattle.std.specs.List.Sorted.{IsPermutation}
use Rattle.std.specs.Prelude.{map, filter, nat_eq, sum_by}
use Rattle.el_base.specs.declared.hash.Hash32.{Hash32}
use Rattle.el_tx.specs.declared.types.Tx.{Tx}
use Rattle.el_tx.specs.Hashing.{vsize, full_encoding}
use Rattle.el_block.proofs.BlockRules.{not_longer}
use Rattle.el_chain.specs.Chains.{Chain}
use Rattle.el_chain.specs.Headers.{same_hash}
use Rattle.el_mempool.specs.Standing.{kept_tx}
use Rattle.el_mempool.specs.declared.held.KeptTx.{KeptTx}
use Rattle.el_mempool.specs.declared.fees.FeeChange.{FeeChange}
use Rattle.el_mempool.specs.Fees.{fee_change, stay_changes, fee_changes, AreFeeChanges}
use Rattle.el_mempool.proofs.Confirmed.{hash_self, hash_same}

-- in the order of the definition
pub changes_are : (old new : List KeptTx) (list : List FeeChange) → list ≡ fee_changes old new → AreFeeChanges old new list
changes_are old new list is = subst (λ (l : List FeeChange). IsPermutation (fee_changes old new) l) (sym is) (IsPermutation-refl (fee_changes old new))

self_eq : (n : ℕ) → nat_eq n n ≡ true
self_eq n = eq-eqb n n refl

-- one that stays as it is
pub stays_same : (k : KeptTx) → stay_changes k k ≡ []
stays_same k = let fee = self_eq k.fee in let size = self_eq k.vsize in rw (fee, size) refl

own : (k : KeptTx) → same_hash k.txid k.txid ≡ true
own k = hash_self k.txid k.txid refl

-- ---- one more

pub one_more : (old : List KeptTx) (l : KeptTx) → fee_changes old (old ++ l ∷ []) ≡ fee_change true l ∷ []
one_more [] l = refl
one_more (k ∷ old) l =
    let self = own k in
    rw self (ap (λ (cs : List FeeChange). cs ++ fee_changes old (old ++ l ∷ [])) (stays_same k) ∙ one_more old l)

pub none_more : (ks : List KeptTx) → fee_changes ks ks ≡ []
none_more [] = refl
none_more (k ∷ ks) =
    let self = own k in
    rw self (ap (λ (cs : List FeeChange). cs ++ fee_changes ks ks) (stays_same k) ∙ none_more ks)

-- ---- some go

-- it went: none of the others is it
pub went : (k : KeptTx) (old new : List KeptTx) → AllByRecursion (λ (l : KeptTx). same_hash k.txid l.txid ≡ false) new
    → fee_changes (k ∷ old) new ≡ fee_change false k ∷ fee_changes old new
went k old [] h = refl
went k old (l ∷ new) h = let other = h.0 in rw other refl

-- those with these txids go, which a test tells
others : (gone : Hash32 → Bool) (k : KeptTx) (ks : List KeptTx) → gone k.txid ≡ true
    → AllByRecursion (λ (l : KeptTx). same_hash k.txid l.txid ≡ false) (filter (λ (l : KeptTx). not (gone l.txid)) ks)
others gone k [] h = tt
others gone k (l ∷ ks) h = elim (cases_Bool (gone l.txid)) [
  | inl g ↦ rw g (others gone k ks h)
  | inr g ↦
      let apart : same_hash k.txid l.txid ≡ false =
      false_from_ne_true (same_hash k.txid l.txid) (λ e. true≢false (sym h ∙ ap gone (hash_same k.txid l.txid e) ∙ g)) in
      rw g (apart, others gone k ks h)
]

pub some_go : (gone : Hash32 → Bool) (ks : List KeptTx)
    → fee_changes ks (filter (λ (k : KeptTx). not (gone k.txid)) ks) ≡ map (fee_change false) (filter (λ (k : KeptTx). gone k.txid) ks)
some_go gone [] = refl
some_go gone (k ∷ ks) = elim (cases_Bool (gone k.txid)) [
  | inl g ↦
      rw g (went k ks (filter (λ (l : KeptTx). not (gone l.txid)) ks) (others gone k ks g)
      ∙ ap (λ (cs : List FeeChange). fee_change false k ∷ cs) (some_go gone ks))
  | inr g ↦
      let self = own k in
      rw (g, self) (ap (λ (cs : List FeeChange). cs ++ fee_changes ks (filter (λ (l : KeptTx). not (gone l.txid)) ks)) (stays_same k) ∙ some_go gone ks)
]

-- ---- one after the other

-- the one or the other
abbrev pub choice : Bool → Type 0 → Type 0 → Type 0
choice true P Q = P
choice false P Q = Q

-- Each of the new ones is one of the old ones, in their order.
abbrev pub Matched : List KeptTx → List KeptTx → Type 0
Matched [] [] = Unit {0}
Matched [] (l ∷ new) = ⊥
Matched (k ∷ old) [] = Unit {0}
Matched (k ∷ old) (l ∷ new) = choice (same_hash k.txid l.txid) (Matched old new) (Matched old (l ∷ new))

none_matched : (old : List KeptTx) → Matched old []
none_matched [] = tt
none_matched (k ∷ old) = tt

-- one more of the old ones, which went
pub matched_went : (old new : List KeptTx) (k : KeptTx) → Matched old new
    → Matched (old ++ k ∷ []) new × (fee_changes (old ++ k ∷ []) new ≡ fee_changes old new ++ fee_change false k ∷ [])
matched_went [] [] k h = (tt, refl)
matched_went [] (l ∷ new) k h = absurd h
matched_went (a ∷ old) [] k h =
    let more = matched_went old [] k (none_matched old) in
    (tt, ap (λ (cs : List FeeChange). fee_change false a ∷ cs) more.1)
matched_went (a ∷ old) (l ∷ new) k h = elim (cases_Bool (same_hash a.txid l.txid)) [
  | inl e ↦
      let said = rw e at h in
      let more = matched_went old new k said in
      rw e (more.0, ap (λ (cs : List FeeChange). stay_changes a l ++ cs) more.1 ∙ sym (append_assoc (stay_changes a l) (fee_changes old new) (fee_change false k ∷ [])))
  | inr e ↦
      let said = rw e at h in
      let more = matched_went old (l ∷ new) k said in
      rw e (more.0, ap (λ (cs : List FeeChange). fee_change false a ∷ cs) more.1)
]

-- one more of both, which stays
pub matched_stays : (old new : List KeptTx) (k l : KeptTx) → Matched old new → same_hash k.txid l.txid ≡ true
    → AllByRecursion (λ (a : KeptTx). same_hash a.txid l.txid ≡ false) old
    → Matched (old ++ k ∷ []) (new ++ l ∷ []) × (fee_changes (old ++ k ∷ []) (new ++ l ∷ []) ≡ fee_changes old new ++ stay_changes k l)
matched_stays [] [] k l h same apart = rw same (tt, append-nil (stay_changes k l))
matched_stays [] (m ∷ new) k l h same apart = absurd h
matched_stays (a ∷ old) [] k l h same apart =
    let other = apart.0 in
    let more = matched_stays old [] k l (none_matched old) same apart.1 in
    rw other (more.0, ap (λ (cs : List FeeChange). fee_change false a ∷ cs) more.1)
matched_stays (a ∷ old) (m ∷ new) k l h same apart = elim (cases_Bool (same_hash a.txid m.txid)) [
  | inl e ↦
      let said = rw e at h in
      let more = matched_stays old new k l said same apart.1 in
      rw e (more.0, ap (λ (cs : List FeeChange). stay_changes a m ++ cs) more.1 ∙ sym (append_assoc (stay_changes a m) (fee_changes old new) (stay_changes k l)))
  | inr e ↦
      let said = rw e at h in
      let more = matched_stays old (m ∷ new) k l said same apart.1 in
      rw e (more.0, ap (λ (cs : List FeeChange). fee_change false a ∷ cs) more.1)
]

-- ---- sizes

-- no transaction has more virtual bytes than bytes
size_le : (t : Tx) → vsize t ≤ length (full_encoding t)
size_le t = let le = not_longer t in omega (arith, le)

pub sizes_le : (chain : Chain) (all ts : List Tx)
    → sum_by (λ (k : KeptTx). k.vsize) (map (kept_tx chain all) ts) ≤ sum_by (λ (k : KeptTx). length k.bytes) (map (kept_tx chain all) ts)
sizes_le chain all [] = omega arith
sizes_le chain all (t ∷ ts) =
    let one = size_le t in
    let more = sizes_le chain all ts in
    let a = sum_by-cons (λ (k : KeptTx). k.vsize) (kept_tx chain all t) (map (kept_tx chain all) ts) in
    let b = sum_by-cons (λ (k : KeptTx). length k.bytes) (kept_tx chain all t) (map (kept_tx chain all) ts) in
    omega (arith, one, more, a, b)
