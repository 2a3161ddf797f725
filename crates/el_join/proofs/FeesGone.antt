-- What changes of the fees where transactions are dropped.
use Rattle.std.proofs.Common.{◌≡◌, true, false, Bool, not, ◌&&◌, ◌||◌, List, [], ◌∷◌, ◌++◌, Option, None, Some, inl, inr, refl, ap, sym, subst, ◌∙◌}
use Rattle.std.proofs.lemmas.Bool.{cases_Bool, or_cases, true≢false, false_from_ne_true}
use Rattle.std.proofs.lemmas.List.{map-append}
use Rattle.std.proofs.lemmas.List.Sorted.{IsPermutation-refl, IsPermutation-trans, IsPermutation-sym, IsPermutation-cons, IsPermutation-middle, IsPermutation-append_left, IsPermutation-append_right, IsPermutation-map}
use Rattle.std.specs.List.{AllByRecursion, list_any}
use Rattle.std.specs.List.Sorted.{IsPermutation}
use Rattle.std.specs.Prelude.{map, filter, flat_map, option_to_list}
use Rattle.el_base.specs.declared.hash.Hash32.{Hash32}
use Rattle.el_tx.specs.declared.types.Tx.{Tx}
use Rattle.el_tx.specs.Hashing.{txid}
use Rattle.el_block.specs.Blocks.{AllDiffer}
use Rattle.el_chain.specs.Chains.{Chain}
use Rattle.el_chain.specs.Headers.{same_hash}
use Rattle.el_mempool.specs.declared.held.KeptTx.{KeptTx}
use Rattle.el_mempool.specs.declared.fees.FeeChange.{FeeChange}
use Rattle.el_mempool.specs.Standing.{kept_tx, KeptStandFor}
use Rattle.el_mempool.specs.Fees.{fee_change, fee_changes, AreFeeChanges}
use Rattle.el_mempool.proofs.Confirmed.{hash_same, hash_turned}
use Rattle.el_mempool.proofs.Picked.{KeysApart}
use Rattle.el_mempool.proofs.Changes.{apart_from}
use Rattle.el_mempool.proofs.FeeChanges.{changes_are, none_more, some_go}
use Rattle.el_kept.specs.declared.table.Table.{Table}
use Rattle.el_kept.specs.Tables.{undropped, by_txid, has, without_txids, slot, HasEntries}
use Rattle.el_kept.proofs.Entries.{found_standing}
use Rattle.el_join.specs.within.Going.{gone_change}

-- ---- one of them

abbrev Apart : List KeptTx → Type 0
Apart ks = KeysApart (λ (k : KeptTx). k.txid) ks

none_else : (id : Hash32) (k : KeptTx) (ks : List KeptTx) → same_hash k.txid id ≡ true → AllByRecursion (λ (l : KeptTx). k.txid ≡ l.txid → ⊥) ks
    → filter (λ (l : KeptTx). same_hash l.txid id) ks ≡ []
none_else id k [] own apart = refl
none_else id k (l ∷ ks) own apart =
    let other : same_hash l.txid id ≡ false =
    false_from_ne_true (same_hash l.txid id) (λ e. apart.0 (hash_same k.txid id own ∙ sym (hash_same l.txid id e))) in
    rw other (none_else id k ks own apart.1)

-- the entry with a txid, which has no other
alone : (id : Hash32) (ks : List KeptTx) → Apart ks → filter (λ (k : KeptTx). same_hash k.txid id) ks ≡ option_to_list (by_txid id ks)
alone id [] apart = refl
alone id (k ∷ ks) apart = elim (cases_Bool (same_hash k.txid id)) [
  | inl h ↦
      let turned : same_hash id k.txid ≡ true = hash_turned id k.txid ∙ h in
      rw (h, turned) (ap (λ (l : List KeptTx). k ∷ l) (none_else id k ks h apart.0))
  | inr h ↦
      let turned : same_hash id k.txid ≡ false = hash_turned id k.txid ∙ h in
      rw (h, turned) (alone id ks apart.1)
]

-- ---- all of them

-- those of either kind, where none is of both
either : (p q : KeptTx → Bool) (ks : List KeptTx) → ((k : KeptTx) → p k ≡ true → q k ≡ false)
    → IsPermutation (filter (λ (k : KeptTx). p k || q k) ks) (filter p ks ++ filter q ks)
either p q [] apart = IsPermutation-refl []
either p q (k ∷ ks) apart = elim (cases_Bool (p k)) [
  | inl a ↦ let b = apart k a in rw (a, b) (IsPermutation-cons k _ _ (either p q ks apart))
  | inr a ↦ elim (cases_Bool (q k)) [
    | inl b ↦
        rw (a, b) (IsPermutation-trans _ _ _ (IsPermutation-cons k _ _ (either p q ks apart))
        (IsPermutation-sym _ _ (IsPermutation-middle (filter p ks) k (filter q ks))))
    | inr b ↦ rw (a, b) (either p q ks apart)
  ]
]

not_has : (id : Hash32) (ids : List Hash32) → AllByRecursion (λ y. id ≡ y → ⊥) ids → has ids id ≡ false
not_has id [] apart = refl
not_has id (x ∷ ids) apart =
    let other : same_hash id x ≡ false = false_from_ne_true (same_hash id x) (λ e. apart.0 (hash_same id x e)) in
    rw other (not_has id ids apart.1)

none_of_none : (ks : List KeptTx) → filter (λ (k : KeptTx). has [] k.txid) ks ≡ []
none_of_none [] = refl
none_of_none (k ∷ ks) = none_of_none ks

-- those with these txids are those that are found under them, in some order
found_all : (ks : List KeptTx) (ids : List Hash32) → AllDiffer ids → Apart ks
    → IsPermutation (filter (λ (k : KeptTx). has ids k.txid) ks) (flat_map (λ (id : Hash32). option_to_list (by_txid id ks)) ids)
found_all ks [] differ apart = subst (λ (l : List KeptTx). IsPermutation l []) (sym (none_of_none ks)) (IsPermutation-refl [])
found_all ks (id ∷ ids) differ apart =
    let both = either (λ (k : KeptTx). same_hash k.txid id) (λ (k : KeptTx). has ids k.txid) ks
    (λ k e. ap (has ids) (hash_same k.txid id e) ∙ not_has id ids differ.0) in
    subst (λ (l : List KeptTx). IsPermutation (filter (λ (k : KeptTx). has (id ∷ ids) k.txid) ks) (l ++ flat_map (λ (x : Hash32). option_to_list (by_txid x ks)) ids)) (alone id ks apart)
    (IsPermutation-trans _ _ _ both (IsPermutation-append_right (filter (λ (k : KeptTx). same_hash k.txid id) ks) _ _ (found_all ks ids differ.1 apart)))

change_of : (o : Option KeptTx) → map (fee_change false) (option_to_list o) ≡ gone_change o
change_of None = refl
change_of (Some k) = refl

changes_found : (ks : List KeptTx) (ids : List Hash32)
    → map (fee_change false) (flat_map (λ (id : Hash32). option_to_list (by_txid id ks)) ids) ≡ flat_map (λ (id : Hash32). gone_change (by_txid id ks)) ids
changes_found ks [] = refl
changes_found ks (id ∷ ids) =
    map-append (fee_change false) (option_to_list (by_txid id ks)) (flat_map (λ (x : Hash32). option_to_list (by_txid x ks)) ids)
    ∙ ap (λ (l : List FeeChange). l ++ map (fee_change false) (flat_map (λ (x : Hash32). option_to_list (by_txid x ks)) ids)) (change_of (by_txid id ks))
    ∙ ap (λ (l : List FeeChange). gone_change (by_txid id ks) ++ l) (changes_found ks ids)

found_in : (table : Table) (ids : List Hash32) → HasEntries table (undropped table.kept.entries)
    → flat_map (λ (id : Hash32). gone_change (slot table id)) ids ≡ flat_map (λ (id : Hash32). gone_change (by_txid id (undropped table.kept.entries))) ids
found_in table [] h = refl
found_in table (id ∷ ids) h =
    ap (λ (o : Option KeptTx). gone_change o ++ flat_map (λ (x : Hash32). gone_change (slot table x)) ids)
    (found_standing id table.kept.entries h.right h.once)
    ∙ ap (λ (l : List FeeChange). gone_change (by_txid id (undropped table.kept.entries)) ++ l) (found_in table ids h)

-- ---- of kept transactions

mapped : (chain : Chain) (all : List Tx) (t : Tx) (ts : List Tx) → AllByRecursion (λ (u : Tx). txid t ≡ txid u → ⊥) ts
    → AllByRecursion (λ (k : KeptTx). (kept_tx chain all t).txid ≡ k.txid → ⊥) (map (kept_tx chain all) ts)
mapped chain all t [] h = tt
mapped chain all t (u ∷ ts) h = (h.0, mapped chain all t ts h.1)

entries_apart : (chain : Chain) (all ts : List Tx) → KeysApart txid ts → Apart (map (kept_tx chain all) ts)
entries_apart chain all [] h = tt
entries_apart chain all (t ∷ ts) h = (mapped chain all t ts h.0, entries_apart chain all ts h.1)

pub changes_gone : (table : Table) (chain : Chain) (kept : List Tx) (ids : List Hash32) (new : List KeptTx) (changes : List FeeChange)
    → HasEntries table (undropped table.kept.entries) → KeptStandFor (undropped table.kept.entries) chain kept → AllDiffer ids
    → new ≡ without_txids ids (undropped table.kept.entries) → changes ≡ flat_map (λ (id : Hash32). gone_change (slot table id)) ids
    → AreFeeChanges (undropped table.kept.entries) new changes
changes_gone table chain kept ids new changes h stands differ are told =
    let ks = undropped table.kept.entries in
    let apart : Apart ks = subst Apart (sym stands.are) (entries_apart chain kept kept (apart_from kept stands.once)) in
    let gone = IsPermutation-map (fee_change false) _ _ (found_all ks ids differ apart) in
    let here : IsPermutation (fee_changes ks (without_txids ids ks)) (map (fee_change false) (flat_map (λ (id : Hash32). option_to_list (by_txid id ks)) ids)) =
    subst (λ (l : List FeeChange). IsPermutation l (map (fee_change false) (flat_map (λ (id : Hash32). option_to_list (by_txid id ks)) ids))) (sym (some_go (has ids) ks)) gone in
    subst (λ (l : List KeptTx). IsPermutation (fee_changes ks l) changes) (sym are)
    (subst (λ (l : List FeeChange). IsPermutation (fee_changes ks (without_txids ids ks)) l)
    (changes_found ks ids ∙ sym (told ∙ found_in table ids h)) here)

pub changes_none : (ks : List KeptTx) (changes : List FeeChange) → changes ≡ [] → AreFeeChanges ks ks changes
changes_none ks changes none =
    changes_are ks ks changes (none ∙ sym (none_more ks))
