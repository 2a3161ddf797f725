-- What the entries of a set say of the transactions that they are of.
use Rattle.std.proofs.Common.{◌≡◌, inl, inr, true, false, Bool, cond, ◌||◌, List, [], ◌∷◌, ◌++◌, Option, None, Some, Bor, refl, ap, sym, ◌∙◌}
use Rattle.std.proofs.lemmas.Bool.{cases_Bool, true≢false, false_from_ne_true}
use Rattle.std.proofs.lemmas.Option.{slice_get-map}
use Rattle.std.specs.List.{AllByRecursion, list_any, find, IsDistinct}
use Rattle.std.specs.Prelude.{map, option_to_list, slice_get, option_map, option_copied}
use Rattle.std.specs.Option.{option_or, option_flatten, is_some}
use Rattle.std.specs.Map.{keys_of, lookup}
use Rattle.el_base.specs.declared.hash.Hash32.{Hash32}
use Rattle.el_tx.specs.declared.types.Outpoint.{Outpoint}
use Rattle.el_tx.specs.declared.types.TxIn.{TxIn}
use Rattle.el_tx.specs.declared.types.Tx.{Tx}
use Rattle.el_tx.specs.Hashing.{txid, same_outpoint}
use Rattle.el_chain.specs.Chains.{Chain}
use Rattle.el_chain.specs.Headers.{same_hash}
use Rattle.el_mempool.specs.declared.held.Held.{Held}
use Rattle.el_mempool.specs.declared.held.Source.{Source}
use Rattle.el_mempool.specs.declared.held.KeptTx.{KeptTx}
use Rattle.el_mempool.specs.Sift.{output_held, output_among, named, any_takes}
use Rattle.el_mempool.specs.Refusals.{is_kept, kept_with, spender_of}
use Rattle.el_mempool.specs.Standing.{source_at, sources, kept_tx, KeptStandFor}
use Rattle.el_kept.specs.declared.table.Table.{Table}
use Rattle.el_kept.specs.Tables.{undropped, StandUnderTxids, by_txid, takes_from, held_among, slot, HasEntries}
use Rattle.el_mempool.proofs.Confirmed.{hash_same, hash_turned}
use Rattle.el_mempool.proofs.Named.{AreNamed, AllNamed}
use Rattle.el_mempool.proofs.Dropping.{output_apart}
use Rattle.el_mempool.proofs.Picked.{KeysApart}

-- ---- a table's entries

none_standing : (id k : Hash32) (es : List (Hash32 × Option KeptTx)) → id ≡ k → StandUnderTxids es → AllByRecursion (λ q. same_hash k q ≡ false) (keys_of es) → by_txid id (undropped es) ≡ None
none_standing id k [] is right apart = refl
none_standing id k ((q, None) ∷ es) is right apart = none_standing id k es is right.1 apart.1
none_standing id k ((q, Some e) ∷ es) is right apart =
    let other : same_hash id e.txid ≡ false = ap (λ x. same_hash x e.txid) is ∙ ap (same_hash k) right.0 ∙ apart.0 in
    rw other (none_standing id k es is right.1 apart.1)

-- what is found under a txid
pub found_standing : (id : Hash32) (es : List (Hash32 × Option KeptTx)) → StandUnderTxids es → IsDistinct same_hash (keys_of es) → option_flatten (lookup (same_hash id) es) ≡ by_txid id (undropped es)
unfolding IsDistinct
found_standing id [] right once = refl
found_standing id ((k, None) ∷ es) right once = elim (cases_Bool (same_hash id k)) [
  | inl h ↦ rw h (sym (none_standing id k es (hash_same id k h) right.1 once.0))
  | inr h ↦ rw h (found_standing id es right.1 once.1)
]
found_standing id ((k, Some e) ∷ es) right once = elim (cases_Bool (same_hash id k)) [
  | inl h ↦ let own : same_hash id e.txid ≡ true = ap (same_hash id) right.0 ∙ h in rw (h, own) refl
  | inr h ↦ let other : same_hash id e.txid ≡ false = ap (same_hash id) right.0 ∙ h in rw (h, other) (found_standing id es right.1 once.1)
]

-- ---- entries of transactions

pub entry_found : (id : Hash32) (chain : Chain) (all ts : List Tx) → is_some (by_txid id (map (kept_tx chain all) ts)) ≡ is_kept id ts
entry_found id chain all [] = refl
entry_found id chain all (t ∷ ts) = elim (cases_Bool (same_hash id (txid t))) [
  | inl h ↦ let turned : same_hash (txid t) id ≡ true = hash_turned (txid t) id ∙ h in rw (h, turned) refl
  | inr h ↦ let turned : same_hash (txid t) id ≡ false = hash_turned (txid t) id ∙ h in rw (h, turned) (entry_found id chain all ts)
]

none_other : (o : Outpoint) (t : Tx) (ts : List Tx) → same_hash (txid t) o.txid ≡ true → AllByRecursion (λ (u : Tx). txid t ≡ txid u → ⊥) ts → output_among o ts ≡ None
none_other o t [] is apart = refl
none_other o t (u ∷ us) is apart =
    let other : same_hash (txid u) o.txid ≡ false = false_from_ne_true (same_hash (txid u) o.txid) (λ e. apart.0 (hash_same (txid t) o.txid is ∙ sym (hash_same (txid u) o.txid e))) in
    ap (λ x. option_or x (output_among o us)) (output_apart o u other) ∙ none_other o t us is apart.1

-- what an outpoint names among the entries
pub held_is : (o : Outpoint) (chain : Chain) (all ts : List Tx) → KeysApart txid ts → held_among o (map (kept_tx chain all) ts) ≡ output_among o ts
held_is o chain all [] apart = refl
held_is o chain all (t ∷ ts) apart = elim (cases_Bool (same_hash o.txid (txid t))) [
  | inl h ↦
      let turned : same_hash (txid t) o.txid ≡ true = hash_turned (txid t) o.txid ∙ h in
      rw (h, turned) (slice_get-map output_held t.outputs o.index ∙ by (option_map output_held (slice_get t.outputs o.index)) (output_among o ts) (none_other o t ts turned apart.0))
  | inr h ↦ let turned : same_hash (txid t) o.txid ≡ false = hash_turned (txid t) o.txid ∙ h in rw (h, turned) (held_is o chain all ts apart.1)
]
  where
    by : (a b : Option Held) → b ≡ None → a ≡ option_or a b
    by None b e = sym e
    by (Some v) b e = refl

-- entries take what their transactions take
pub any_sources : (o : Outpoint) (chain : Chain) (all : List Tx) (is : List TxIn) → AreNamed chain all is → list_any (λ (s : Source). same_outpoint o s.from) (sources chain all is) ≡ any_takes o is
any_sources o chain all [] h = refl
any_sources o chain all (i ∷ is) h = by (named chain all i.from) h.0 (any_sources o chain all is h.1)
  where
    by : (x : Option Held) → is_some x ≡ true → list_any (λ (s : Source). same_outpoint o s.from) (sources chain all is) ≡ any_takes o is
        → list_any (λ (s : Source). same_outpoint o s.from) (option_to_list (option_map (source_at i) x) ++ sources chain all is) ≡ (same_outpoint o i.from || any_takes o is)
    by None none more = absurd (true≢false (sym none))
    by (Some v) some more = ap (λ b. same_outpoint o i.from || b) more

pub taker_is : (o : Outpoint) (chain : Chain) (all ts : List Tx) → AllNamed chain all ts → option_map (λ (k : KeptTx). k.txid) (find (takes_from o) (map (kept_tx chain all) ts)) ≡ option_map txid (spender_of o ts)
taker_is o chain all [] h = refl
taker_is o chain all (t ∷ ts) h =
    let here = any_sources o chain all t.inputs h.0 in
    rw here (by (any_takes o t.inputs) (taker_is o chain all ts h.1))
  where
    by : (b : Bool) → option_map (λ (k : KeptTx). k.txid) (find (takes_from o) (map (kept_tx chain all) ts)) ≡ option_map txid (spender_of o ts)
        → option_map (λ (k : KeptTx). k.txid) (cond b (Some (kept_tx chain all t)) (find (takes_from o) (map (kept_tx chain all) ts))) ≡ option_map txid (cond b (Some t) (spender_of o ts))
    by true more = refl
    by false more = more

-- ---- look-ups

pub copied_some : {T : Type 0} (x : Option (Bor T)) → is_some (option_copied x) ≡ is_some x
copied_some None = refl
copied_some (Some b) = refl

pub entry_with : (id : Hash32) (chain : Chain) (all ts : List Tx) → by_txid id (map (kept_tx chain all) ts) ≡ option_map (kept_tx chain all) (kept_with id ts)
entry_with id chain all [] = refl
entry_with id chain all (t ∷ ts) = by (same_hash id (txid t)) (entry_with id chain all ts)
  where
    by : (b : Bool) → by_txid id (map (kept_tx chain all) ts) ≡ option_map (kept_tx chain all) (kept_with id ts)
        → cond b (Some (kept_tx chain all t)) (by_txid id (map (kept_tx chain all) ts)) ≡ option_map (kept_tx chain all) (cond b (Some t) (kept_with id ts))
    by true e = refl
    by false e = e

-- what is found under a txid
pub found_is : (table : Table) (chain : Chain) (kept : List Tx) (id : Hash32) → HasEntries table (undropped table.kept.entries) → KeptStandFor (undropped table.kept.entries) chain kept
    → slot table id ≡ option_map (kept_tx chain kept) (kept_with id kept)
found_is table chain kept id t h = found_standing id table.kept.entries t.right t.once ∙ ap (by_txid id) h.are ∙ entry_with id chain kept kept

pub found_for : (table : Table) (entries : List KeptTx) (id : Hash32) (x : Option KeptTx) → HasEntries table (undropped table.kept.entries) → undropped table.kept.entries ≡ entries → x ≡ slot table id
    → (chain : Chain) (kept : List Tx) → KeptStandFor entries chain kept → x ≡ option_map (kept_tx chain kept) (kept_with id kept)
found_for table entries id x t same is chain kept h = is ∙ found_is table chain kept id t (rw (← same) at h)
