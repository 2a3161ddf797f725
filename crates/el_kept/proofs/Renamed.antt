-- A slot whose transaction was dropped goes by another name, or goes.
use Rattle.std.proofs.Common.{◌≡◌, inl, inr, ℕ, suc, ◌+◌, ◌-◌, ◌<◌, ◌≤◌, true, false, Bool, cond, List, [], ◌∷◌, ◌++◌, length, take, get_or, set, Option, None, Some, Result, Ok, refl, ap, sym, ◌∙◌, arith, length-append, nat_lt, lt-ltb}
use Rattle.std.proofs.lemmas.Bool.{cases_Bool, true≢false}
use Rattle.std.proofs.lemmas.List.{set-append_left, length-set}
use Rattle.std.proofs.lemmas.Map.Entries.{length-keys_of}
use Rattle.std.proofs.Math.Seq.{get_or-append_seam, take-append_seam}
use Rattle.std.specs.List.{position_or_len, swap_remove}
use Rattle.std.specs.Option.{is_some}
use Rattle.std.specs.Result.{OnOk}
use Rattle.std.specs.Map.{keys_of, remove_entry, lookup}
use Rattle.indexmap.specs.IndexMap.{IndexMap, get, insert_entry, swap_remove_entry}
use Rattle.indexmap.proofs.CallerLemmas.{insert_entry-new}
use Rattle.el_base.specs.declared.hash.Hash32.{Hash32}
use Rattle.el_chain.specs.Headers.{same_hash}
use Rattle.el_mempool.specs.declared.held.KeptTx.{KeptTx}
use Rattle.el_kept.specs.Tables.{undropped, StandUnderTxids, by_txid}
use Rattle.el_kept.proofs.Slots.{Slot}

-- ---- the last slot takes the place of the first with a key that passes the test

-- the slots with another in the place of that one
abbrev pub put_at : (Hash32 → Bool) → Slot → List Slot → List Slot
put_at test l [] = []
put_at test l (e ∷ es) = cond (test e.0) (l ∷ es) (e ∷ put_at test l es)

-- the place of that one
abbrev place : (Hash32 → Bool) → Slot → List Slot → ℕ
place test l es = position_or_len test (keys_of (es ++ l ∷ []))

within : (test : Hash32 → Bool) (l : Slot) (es : List Slot) → is_some (lookup test es) ≡ true → place test l es < length es
within test l [] some = absurd (true≢false (sym some))
within test l (e ∷ es) some = elim (cases_Bool (test e.0)) [
  | inl h ↦ rw h (omega arith)
  | inr h ↦ let said = rw h at some in let more = within test l es said in rw h (omega (arith, more))
]

set_there : (test : Hash32 → Bool) (l : Slot) (es : List Slot) → set es (place test l es) l ≡ put_at test l es
set_there test l [] = refl
set_there test l (e ∷ es) = elim (cases_Bool (test e.0)) [
  | inl h ↦ rw h refl
  | inr h ↦ rw h (ap (λ n. set (e ∷ es) n l) (next (place test l es)) ∙ ap (λ xs. e ∷ xs) (set_there test l es))
]
  where
    next : (n : ℕ) → 1 + n ≡ suc n
    next n = omega arith

swap_last : (es : List Slot) (l d : Slot) (i : ℕ) → i < length es → swap_remove (es ++ l ∷ []) i d ≡ set es i l
swap_last es l d i lt =
    let len : length (es ++ l ∷ []) - 1 ≡ length es = omega (arith, length-append es (l ∷ [])) in
    ap (λ n. take n (set (es ++ l ∷ []) i (get_or (es ++ l ∷ []) n d))) len
    ∙ ap (λ x. take (length es) (set (es ++ l ∷ []) i x)) (get_or-append_seam es l [] d)
    ∙ ap (take (length es)) (set-append_left es (l ∷ []) i l lt)
    ∙ ap (λ n. take n (set es i l ++ l ∷ [])) (sym (length-set es i l))
    ∙ take-append_seam (set es i l) (l ∷ [])

last_moved : (test : Hash32 → Bool) (l : Slot) (es : List Slot) → is_some (lookup test es) ≡ true → swap_remove_entry test (es ++ l ∷ []) ≡ put_at test l es
last_moved test l [] some = absurd (true≢false (sym some))
last_moved test l (e ∷ es) some =
    let lt = within test l (e ∷ es) some in
    let keys = length-keys_of (e ∷ es ++ l ∷ []) in
    let all = length-append es (l ∷ []) in
    let here : nat_lt (place test l (e ∷ es)) (length (keys_of (e ∷ es ++ l ∷ []))) ≡ true = lt-ltb (place test l (e ∷ es)) (length (keys_of (e ∷ es ++ l ∷ []))) (omega (arith, lt, keys, all)) in
    rw here (swap_last (e ∷ es) l e (place test l (e ∷ es)) lt ∙ set_there test l (e ∷ es))

-- ---- what stands is the same

put_standing : (id name : Hash32) (es : List Slot) → StandUnderTxids es → by_txid id (undropped es) ≡ None → undropped (put_at (same_hash id) (name, None) es) ≡ undropped es
put_standing id name [] right none = refl
put_standing id name ((k, None) ∷ es) right none = elim (cases_Bool (same_hash id k)) [
  | inl h ↦ rw h refl
  | inr h ↦ rw h (put_standing id name es right.1 none)
]
put_standing id name ((k, Some e) ∷ es) right none = elim (cases_Bool (same_hash id k)) [
  | inl h ↦ let own : same_hash id e.txid ≡ true = ap (same_hash id) right.0 ∙ h in let said = rw own at none in absurd (cc)
  | inr h ↦
      let other : same_hash id e.txid ≡ false = ap (same_hash id) right.0 ∙ h in
      let more = rw other at none in
      rw h (ap (λ l. e ∷ l) (put_standing id name es right.1 more))
]

put_right : (id name : Hash32) (es : List Slot) → StandUnderTxids es → StandUnderTxids (put_at (same_hash id) (name, None) es)
put_right id name [] right = tt
put_right id name (e ∷ es) right = elim (cases_Bool (same_hash id e.0)) [
  | inl h ↦ rw h (tt, right.1)
  | inr h ↦ rw h (right.0, put_right id name es right.1)
]

pub removed_standing : (id : Hash32) (es : List Slot) → StandUnderTxids es → by_txid id (undropped es) ≡ None → undropped (remove_entry (same_hash id) es) ≡ undropped es
removed_standing id [] right none = refl
removed_standing id ((k, None) ∷ es) right none = elim (cases_Bool (same_hash id k)) [
  | inl h ↦ rw h refl
  | inr h ↦ rw h (removed_standing id es right.1 none)
]
removed_standing id ((k, Some e) ∷ es) right none = elim (cases_Bool (same_hash id k)) [
  | inl h ↦ let own : same_hash id e.txid ≡ true = ap (same_hash id) right.0 ∙ h in let said = rw own at none in absurd (cc)
  | inr h ↦
      let other : same_hash id e.txid ≡ false = ap (same_hash id) right.0 ∙ h in
      let more = rw other at none in
      rw h (ap (λ l. e ∷ l) (removed_standing id es right.1 more))
]

pub removed_right : (id : Hash32) (es : List Slot) → StandUnderTxids es → StandUnderTxids (remove_entry (same_hash id) es)
removed_right id [] right = tt
removed_right id (e ∷ es) right = elim (cases_Bool (same_hash id e.0)) [
  | inl h ↦ rw h right.1
  | inr h ↦ rw h (right.0, removed_right id es right.1)
]

-- ---- by the two steps

pub when_ok : {A E P : Type 0} (r : Result A E) (x : A) → r ≡ Ok x → OnOk r P → P
when_ok r x is h = rw is at h

moved : {S : Type 0} (old : IndexMap Hash32 (Option KeptTx) S) (mid new : List Slot) (id name : Hash32)
    → is_some (get same_hash old id) ≡ true → get same_hash old name ≡ None
    → mid ≡ insert_entry same_hash old.entries name None → new ≡ swap_remove_entry (same_hash id) mid
    → new ≡ put_at (same_hash id) (name, None) old.entries
moved old mid new id name there free put cut =
    cut ∙ ap (swap_remove_entry (same_hash id)) (put ∙ insert_entry-new same_hash old name None free)
    ∙ last_moved (same_hash id) (name, None) old.entries there

pub renamed_standing : {S : Type 0} (old : IndexMap Hash32 (Option KeptTx) S) (mid new : List Slot) (id name : Hash32)
    → StandUnderTxids old.entries → by_txid id (undropped old.entries) ≡ None
    → is_some (get same_hash old id) ≡ true → get same_hash old name ≡ None
    → mid ≡ insert_entry same_hash old.entries name None → new ≡ swap_remove_entry (same_hash id) mid
    → undropped new ≡ undropped old.entries
renamed_standing old mid new id name right none there free put cut =
    ap undropped (moved old mid new id name there free put cut) ∙ put_standing id name old.entries right none

pub renamed_right : {S : Type 0} (old : IndexMap Hash32 (Option KeptTx) S) (mid new : List Slot) (id name : Hash32)
    → StandUnderTxids old.entries → is_some (get same_hash old id) ≡ true → get same_hash old name ≡ None
    → mid ≡ insert_entry same_hash old.entries name None → new ≡ swap_remove_entry (same_hash id) mid → StandUnderTxids new
renamed_right old mid new id name right there free put cut =
    let is = moved old mid new id name there free put cut in
    rw is (put_right id name old.entries right)

-- ---- each slot has its transaction

-- no more stand than there are slots
pub standing_few : (es : List Slot) → length (undropped es) ≤ length es
standing_few [] = omega arith
standing_few ((q, None) ∷ es) = let few = standing_few es in omega (arith, few)
standing_few ((q, Some k) ∷ es) = let few = standing_few es in omega (arith, few)

-- where as many stand as there are slots, a txid that isn't kept has none
pub all_stand : (id : Hash32) (es : List Slot) → StandUnderTxids es → length es ≡ length (undropped es) → by_txid id (undropped es) ≡ None → lookup (same_hash id) es ≡ None
all_stand id [] right all none = refl
all_stand id ((q, None) ∷ es) right all none = let few = standing_few es in absurd (omega (arith, few, all))
all_stand id ((q, Some k) ∷ es) right all none = elim (cases_Bool (same_hash id q)) [
  | inl h ↦ absurd (bad (sym (found h) ∙ none))
  | inr h ↦ rw h (all_stand id es right.1 (omega (arith, all)) (sym (later h) ∙ none))
]
  where
    own : same_hash id k.txid ≡ same_hash id q
    own = ap (same_hash id) right.0

    bad : Some k ≡ None → ⊥
    bad x = cc

    found : same_hash id q ≡ true → by_txid id (k ∷ undropped es) ≡ Some k
    found h = let is = own ∙ h in rw is refl

    later : same_hash id q ≡ false → by_txid id (k ∷ undropped es) ≡ by_txid id (undropped es)
    later h = let is = own ∙ h in rw is refl
