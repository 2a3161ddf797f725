-- An entry of the tables takes other coins by the same outpoints.
use Rattle.std.proofs.Common.{◌≡◌, inl, inr, ℕ, ◌+◌, ◌<◌, true, false, Bool, cond, not, ◌&&◌, ◌||◌, List, [], ◌∷◌, ◌++◌, length, suc, take, drop, get_or, Option, None, Some, refl, ap, sym, ◌∙◌}
use Rattle.std.proofs.lemmas.Bool.{cases_Bool, and_parts, and_right, true≢false}
use Rattle.std.proofs.lemmas.List.{drop_more, take_more, length-map}
use Rattle.std.proofs.lemmas.List.Sums.{sum_by-cons}
use Rattle.std.specs.List.{AllByRecursion, list_any, find, sum_by, IsDistinct}
use Rattle.std.specs.Prelude.{map, option_map}
use Rattle.std.specs.Option.{option_flatten, is_some}
use Rattle.std.specs.Map.{keys_of, lookup}
use Rattle.indexmap.specs.IndexMap.{get, insert_entry, IsUnique}
use Rattle.el_base.specs.declared.hash.Hash32.{Hash32}
use Rattle.el_tx.specs.declared.types.Outpoint.{Outpoint}
use Rattle.el_tx.specs.Hashing.{same_outpoint}
use Rattle.el_chain.proofs.CoinLists.{same_gives}
use Rattle.el_chain.specs.Headers.{same_hash}
use Rattle.el_mempool.specs.declared.held.Source.{Source}
use Rattle.el_mempool.specs.declared.held.KeptTx.{KeptTx}
use Rattle.el_mempool.proofs.Confirmed.{hash_self, hash_same, hash_turned}
use Rattle.el_kept.specs.declared.table.Table.{Table}
use Rattle.el_kept.specs.declared.retaking.Takes.{Takes}
use Rattle.el_kept.specs.Tables.{undropped, StandUnderTxids, by_txid, takes_from, slot, with_takes, same_froms, is_of, retaken, HasEntries}
use Rattle.el_kept.proofs.Entries.{found_standing}
use Rattle.el_kept.proofs.Slots.{Slot}
use Rattle.el_kept.proofs.Cleared.{some_same, none_some, none_with, only_one}

-- ---- the same outpoints

pub froms_apart : (xs ys : List Source) → (length xs ≡ length ys → ⊥) → false ≡ same_froms xs ys
froms_apart [] [] h = absurd (h refl)
froms_apart [] (y ∷ ys) h = refl
froms_apart (x ∷ xs) [] h = refl
froms_apart (x ∷ xs) (y ∷ ys) h = sym (and_right (same_outpoint x.from y.from) (same_froms xs ys) (sym (froms_apart xs ys (λ e. h (ap suc e)))))

froms_at : (xs ys : List Source) (n : ℕ) (d e : Source) → n < length xs → n < length ys
    → same_froms (drop n xs) (drop n ys) ≡ (same_outpoint (get_or xs n d).from (get_or ys n e).from && same_froms (drop (n + 1) xs) (drop (n + 1) ys))
froms_at xs ys n d e lt lt2 = let one = drop_more xs n d lt in let two = drop_more ys n e lt2 in rw (one, two) refl

pub froms_more : (xs ys : List Source) (n : ℕ) (d e : Source) → n < length xs → n < length ys → same_outpoint (get_or xs n d).from (get_or ys n e).from ≡ true
    → same_froms xs ys ≡ same_froms (drop n xs) (drop n ys) → same_froms xs ys ≡ same_froms (drop (n + 1) xs) (drop (n + 1) ys)
froms_more xs ys n d e lt lt2 same before = before ∙ froms_at xs ys n d e lt lt2 ∙ ap (λ b. b && same_froms (drop (n + 1) xs) (drop (n + 1) ys)) same

pub froms_stop : (xs ys : List Source) (n : ℕ) (d e : Source) → n < length xs → n < length ys → same_outpoint (get_or xs n d).from (get_or ys n e).from ≡ false
    → same_froms xs ys ≡ same_froms (drop n xs) (drop n ys) → false ≡ same_froms xs ys
froms_stop xs ys n d e lt lt2 off before = sym (before ∙ froms_at xs ys n d e lt lt2 ∙ ap (λ b. b && same_froms (drop (n + 1) xs) (drop (n + 1) ys)) off)

pub when_not : (b r : Bool) → r ≡ not b → r ≡ false → b ≡ true
when_not true r e h = refl
when_not false r e h = sym h ∙ e

pub when_so : (b r : Bool) → r ≡ not b → r ≡ true → b ≡ false
when_so false r e h = refl
when_so true r e h = sym h ∙ e

taken_same : (o : Outpoint) (xs ys : List Source) → same_froms xs ys ≡ true → list_any (λ (s : Source). same_outpoint o s.from) ys ≡ list_any (λ (s : Source). same_outpoint o s.from) xs
taken_same o [] [] h = refl
taken_same o [] (y ∷ ys) h = absurd (true≢false (sym h))
taken_same o (x ∷ xs) [] h = absurd (true≢false (sym h))
taken_same o (x ∷ xs) (y ∷ ys) h =
    let parts = and_parts (same_outpoint x.from y.from) (same_froms xs ys) h in
    ap (λ p. same_outpoint o p || list_any (λ (s : Source). same_outpoint o s.from) ys) (sym (same_gives x.from y.from parts.0))
    ∙ ap (λ b. same_outpoint o x.from || b) (taken_same o xs ys parts.1)

-- one input more that takes the same
pub same_more : (xs ys : List Source) (n : ℕ) (d e : Source) → n < length xs → n < length ys → take n xs ≡ take n ys → get_or xs n d ≡ get_or ys n e → take (n + 1) xs ≡ take (n + 1) ys
same_more xs ys n d e lt lt2 before here =
    take_more xs n d lt ∙ ap (λ l. l ++ get_or xs n d ∷ []) before ∙ ap (λ x. take n ys ++ x ∷ []) here ∙ sym (take_more ys n e lt2)

-- ---- one entry that is told of

abbrev pub Off : Takes → List KeptTx → Type 0
Off c ks = AllByRecursion (λ (k : KeptTx). same_hash c.txid k.txid ≡ true → same_froms k.inputs c.inputs ≡ false) ks

pub off_one : (c : Takes) (k : KeptTx) → (same_hash c.txid k.txid ≡ true → same_froms k.inputs c.inputs ≡ false) → retaken c k ≡ k
off_one c k h = by (same_hash c.txid k.txid) (same_froms k.inputs c.inputs) h
  where
    by : (a b : Bool) → (a ≡ true → b ≡ false) → cond (a && b) (with_takes k c.flag c.fee c.inputs) k ≡ k
    by true true f = absurd (true≢false (f refl))
    by true false f = refl
    by false b f = refl

off_all : (c : Takes) (ks : List KeptTx) → Off c ks → map (retaken c) ks ≡ ks
off_all c [] h = refl
off_all c (k ∷ ks) h = ap (λ x. x ∷ map (retaken c) ks) (off_one c k h.0) ∙ ap (λ l. k ∷ l) (off_all c ks h.1)

off_with : (c : Takes) (ks : List KeptTx) → AllByRecursion (λ (k : KeptTx). same_hash k.txid c.txid ≡ false) ks → Off c ks
off_with c [] h = tt
off_with c (k ∷ ks) h = ((λ e. absurd (true≢false (sym e ∙ hash_turned c.txid k.txid ∙ h.0))), off_with c ks h.1)

off_none : (c : Takes) (ks : List KeptTx) → by_txid c.txid ks ≡ None → Off c ks
off_none c [] h = tt
off_none c (k ∷ ks) h = by (same_hash c.txid k.txid) refl h (off_none c ks)
  where
    by : (b : Bool) → same_hash c.txid k.txid ≡ b → cond b (Some k) (by_txid c.txid ks) ≡ None → (by_txid c.txid ks ≡ None → Off c ks) → Off c (k ∷ ks)
    by true e none more = absurd (cc)
    by false e none more = ((λ so. absurd (true≢false (sym so ∙ e))), more none)

off_only : (c : Takes) (ks : List KeptTx) (e : KeptTx) → same_froms e.inputs c.inputs ≡ false → AllByRecursion (λ (k : KeptTx). same_hash k.txid c.txid ≡ true → k ≡ e) ks → Off c ks
off_only c [] e h one = tt
off_only c (k ∷ ks) e h one = (
  (λ so. ap (λ (x : KeptTx). same_froms x.inputs c.inputs) (one.0 (hash_turned k.txid c.txid ∙ so)) ∙ h),
  off_only c ks e h one.1,
)

-- it is told of none
pub untold : (t : Table) (c : Takes) → HasEntries t (undropped t.kept.entries) → is_of c (slot t c.txid) ≡ false → map (retaken c) (undropped t.kept.entries) ≡ undropped t.kept.entries
untold t c h off = off_all c (undropped t.kept.entries) (by (slot t c.txid) refl off)
  where
    by : (x : Option KeptTx) → slot t c.txid ≡ x → is_of c x ≡ false → Off c (undropped t.kept.entries)
    by None e none = off_none c (undropped t.kept.entries) (sym (found_standing c.txid t.kept.entries h.right h.once) ∙ e)
    by (Some k) e none = off_only c (undropped t.kept.entries) k none (only_one c.txid t.kept.entries k h.right h.once e)

pub not_told : (t : Table) (c : Takes) → HasEntries t (undropped t.kept.entries) → is_of c (slot t c.txid) ≡ false → HasEntries t (map (retaken c) (undropped t.kept.entries))
not_told t c h off = let is = untold t c h off in rw is h

-- ---- the slot is filled again

abbrev pub filled : Hash32 → KeptTx → List Slot → List Slot
filled id e es = insert_entry same_hash (insert_entry same_hash es id None) id (Some e)

pub told_one : (c : Takes) (k : KeptTx) → same_hash c.txid k.txid ≡ true → same_froms k.inputs c.inputs ≡ true → retaken c k ≡ with_takes k c.flag c.fee c.inputs
told_one c k e f = rw (e, f) refl

filled_standing : (c : Takes) (e d : KeptTx) (es : List Slot) → StandUnderTxids es → IsDistinct same_hash (keys_of es) → option_flatten (lookup (same_hash c.txid) es) ≡ Some e
    → same_froms e.inputs c.inputs ≡ true → d ≡ with_takes e c.flag c.fee c.inputs → undropped (filled c.txid d es) ≡ map (retaken c) (undropped es)
unfolding IsDistinct
filled_standing c e d [] right once is froms new = absurd (none_some e is)
filled_standing c e d ((k, None) ∷ es) right once is froms new = elim (cases_Bool (same_hash c.txid k)) [
  | inl h ↦ let said = rw h at is in absurd (none_some e said)
  | inr h ↦ let said = rw h at is in rw h (rw h (filled_standing c e d es right.1 once.1 said froms new))
]
filled_standing c e d ((k, Some x) ∷ es) right once is froms new = elim (cases_Bool (same_hash c.txid k)) [
  | inl h ↦
      let said = rw h at is in
      let same : x ≡ e = some_same x e said in
      let own : same_hash c.txid x.txid ≡ true = ap (same_hash c.txid) right.0 ∙ h in
      let first : retaken c x ≡ d = told_one c x own (ap (λ (y : KeptTx). same_froms y.inputs c.inputs) same ∙ froms) ∙ ap (λ (y : KeptTx). with_takes y c.flag c.fee c.inputs) same ∙ sym new in
      let others = off_all c (undropped es) (off_with c (undropped es) (none_with c.txid k es (hash_same c.txid k h) right.1 once.0)) in
      rw h (rw h (sym (ap (λ y. y ∷ map (retaken c) (undropped es)) first ∙ ap (λ l. d ∷ l) others)))
  | inr h ↦
      let said = rw h at is in
      let other : same_hash c.txid x.txid ≡ false = ap (same_hash c.txid) right.0 ∙ h in
      let first : retaken c x ≡ x = off_one c x (λ so. absurd (true≢false (sym so ∙ other))) in
      rw h (rw h (ap (λ l. x ∷ l) (filled_standing c e d es right.1 once.1 said froms new) ∙ sym (ap (λ y. y ∷ map (retaken c) (undropped es)) first)))
]

filled_right : (id : Hash32) (d : KeptTx) (es : List Slot) → d.txid ≡ id → StandUnderTxids es → StandUnderTxids (filled id d es)
filled_right id d [] is right = by (same_hash id id) refl
  where
    by : (b : Bool) → same_hash id id ≡ b → StandUnderTxids (cond b ((id, Some d) ∷ []) ((id, None) ∷ insert_entry same_hash [] id (Some d)))
    by true e = (is, tt)
    by false e = (tt, (is, tt))
filled_right id d ((k, v) ∷ es) is right = elim (cases_Bool (same_hash id k)) [
  | inl h ↦ rw h (rw h (is ∙ hash_same id k h, right.1))
  | inr h ↦ rw h (rw h (right.0, filled_right id d es is right.1))
]

-- ---- takers, sizes

takes_same : (o : Outpoint) (c : Takes) (k : KeptTx) → takes_from o (retaken c k) ≡ takes_from o k
takes_same o c k = by (same_hash c.txid k.txid) (same_froms k.inputs c.inputs) refl
  where
    by : (a b : Bool) → same_froms k.inputs c.inputs ≡ b → takes_from o (cond (a && b) (with_takes k c.flag c.fee c.inputs) k) ≡ takes_from o k
    by true true e = taken_same o k.inputs c.inputs e
    by true false e = refl
    by false b e = refl

pub id_same : (c : Takes) (k : KeptTx) → (retaken c k).txid ≡ k.txid
id_same c k = by (same_hash c.txid k.txid && same_froms k.inputs c.inputs)
  where
    by : (b : Bool) → (cond b (with_takes k c.flag c.fee c.inputs) k).txid ≡ k.txid
    by true = refl
    by false = refl

bytes_same : (c : Takes) (k : KeptTx) → length (retaken c k).bytes ≡ length k.bytes
bytes_same c k = by (same_hash c.txid k.txid && same_froms k.inputs c.inputs)
  where
    by : (b : Bool) → length (cond b (with_takes k c.flag c.fee c.inputs) k).bytes ≡ length k.bytes
    by true = refl
    by false = refl

takers_same : (o : Outpoint) (c : Takes) (ks : List KeptTx)
    → option_map (λ (k : KeptTx). k.txid) (find (takes_from o) (map (retaken c) ks)) ≡ option_map (λ (k : KeptTx). k.txid) (find (takes_from o) ks)
takers_same o c [] = refl
takers_same o c (k ∷ ks) =
    ap (λ b. option_map (λ (x : KeptTx). x.txid) (cond b (Some (retaken c k)) (find (takes_from o) (map (retaken c) ks)))) (takes_same o c k)
    ∙ by (takes_from o k) (takers_same o c ks)
  where
    Rest : Type 0
    Rest = option_map (λ (x : KeptTx). x.txid) (find (takes_from o) (map (retaken c) ks)) ≡ option_map (λ (x : KeptTx). x.txid) (find (takes_from o) ks)

    by : (b : Bool) → Rest → option_map (λ (x : KeptTx). x.txid) (cond b (Some (retaken c k)) (find (takes_from o) (map (retaken c) ks)))
        ≡ option_map (λ (x : KeptTx). x.txid) (cond b (Some k) (find (takes_from o) ks))
    by true more = ap Some (id_same c k)
    by false more = more

alone_same : (o : Outpoint) (c : Takes) (taker : Option Hash32) (ks : List KeptTx) → AllByRecursion (λ (k : KeptTx). takes_from o k ≡ true → taker ≡ Some k.txid) ks
    → AllByRecursion (λ (k : KeptTx). takes_from o k ≡ true → taker ≡ Some k.txid) (map (retaken c) ks)
alone_same o c taker [] h = tt
alone_same o c taker (k ∷ ks) h = ((λ t. h.0 (sym (takes_same o c k) ∙ t) ∙ ap Some (sym (id_same c k))), alone_same o c taker ks h.1)

size_same : (c : Takes) (ks : List KeptTx) → sum_by (λ (k : KeptTx). length k.bytes) (map (retaken c) ks) ≡ sum_by (λ (k : KeptTx). length k.bytes) ks
size_same c [] = refl
size_same c (k ∷ ks) =
    sum_by-cons (λ (x : KeptTx). length x.bytes) (retaken c k) (map (retaken c) ks)
    ∙ ap (λ n. n + sum_by (λ (x : KeptTx). length x.bytes) (map (retaken c) ks)) (bytes_same c k)
    ∙ ap (λ n. length k.bytes + n) (size_same c ks)
    ∙ sym (sum_by-cons (λ (x : KeptTx). length x.bytes) k ks)

-- ---- together

named : (id : Hash32) (e : KeptTx) (ks : List KeptTx) → by_txid id ks ≡ Some e → e.txid ≡ id
named id e [] h = absurd (none_some e h)
named id e (k ∷ ks) h = by (same_hash id k.txid) refl h (named id e ks)
  where
    by : (b : Bool) → same_hash id k.txid ≡ b → cond b (Some k) (by_txid id ks) ≡ Some e → (by_txid id ks ≡ Some e → e.txid ≡ id) → e.txid ≡ id
    by true x y more = ap (λ (z : KeptTx). z.txid) (sym (some_same k e y)) ∙ sym (hash_same id k.txid x)
    by false x y more = more y

pub there : (id : Hash32) (v : Option KeptTx) (es : List Slot) → is_some (lookup (same_hash id) (insert_entry same_hash es id v)) ≡ true
there id v [] = let own = hash_self id id refl in rw own refl
there id v ((k, w) ∷ es) = elim (cases_Bool (same_hash id k)) [
  | inl h ↦ rw h (rw h refl)
  | inr h ↦ rw h (rw h (there id v es))
]

pub told : (old new : Table) (c : Takes) (e d : KeptTx) (mid : List Slot) → HasEntries old (undropped old.kept.entries) → slot old c.txid ≡ Some e → is_of c (slot old c.txid) ≡ true
    → d ≡ with_takes e c.flag c.fee c.inputs → mid ≡ insert_entry same_hash old.kept.entries c.txid None → new.kept.entries ≡ insert_entry same_hash mid c.txid (Some d) → IsUnique same_hash new.kept
    → new.spenders ≡ old.spenders → new.count ≡ old.count → new.bytes ≡ old.bytes → HasEntries new (map (retaken c) (undropped old.kept.entries))
told old new c e d mid t here of is first second once spenders count bytes =
    let froms : same_froms e.inputs c.inputs ≡ true = sym (ap (is_of c) here) ∙ of in
    let put : new.kept.entries ≡ filled c.txid d old.kept.entries = second ∙ ap (λ es. insert_entry same_hash es c.txid (Some d)) first in
    let own : d.txid ≡ c.txid = ap (λ (x : KeptTx). x.txid) is ∙ named c.txid e (undropped old.kept.entries) (sym (found_standing c.txid old.kept.entries t.right t.once) ∙ here) in
    record {
      are = ap undropped put ∙ filled_standing c e d old.kept.entries t.right t.once here froms is;
      right = rw put (filled_right c.txid d old.kept.entries own t.right);
      once = once;
      takers = λ o. ap (λ m. get same_outpoint m o) spenders ∙ t.takers o ∙ sym (takers_same o c (undropped old.kept.entries));
      alone = λ o. let sp = spenders in rw sp (alone_same o c (get same_outpoint old.spenders o) (undropped old.kept.entries) (t.alone o));
      count = count ∙ t.count ∙ sym (length-map (undropped old.kept.entries) (retaken c));
      bytes = bytes ∙ t.bytes ∙ sym (size_same c (undropped old.kept.entries));
    }
