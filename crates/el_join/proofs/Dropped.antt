-- What a set stands for once a transaction was dropped with all that spend it, and which script hashes changed.
use Rattle.std.proofs.Common.{◌≡◌, ◌⊎◌, inl, inr, ℕ, ◌<◌, ◌≤◌, true, false, Bool, cond, ◌||◌, List, [], ◌∷◌, ◌++◌, length, get_or, Option, None, Some, refl, ap, sym, subst, ◌∙◌, append_assoc}
use Rattle.std.proofs.lemmas.Bool.{or_cases, or_left, or_right, or_from, and_parts, and_from, true≢false, false_from_ne_true}
use Rattle.std.proofs.lemmas.List.Folds.{list_any-append}
use Rattle.std.proofs.lemmas.Option.{slice_get_cases}
use Rattle.std.specs.List.{AllByRecursion, list_any}
use Rattle.std.specs.Prelude.{map, option_map, option_and_then, slice_get}
use Rattle.std.specs.Option.{option_or, is_some}
use Rattle.indexmap.specs.IndexMap.{get}
use Rattle.el_base.specs.declared.hash.Hash32.{Hash32}
use Rattle.el_tx.specs.declared.types.Outpoint.{Outpoint}
use Rattle.el_tx.specs.declared.types.TxIn.{TxIn}
use Rattle.el_tx.specs.declared.types.Tx.{Tx}
use Rattle.el_tx.specs.Hashing.{txid, same_outpoint}
use Rattle.el_block.specs.Blocks.{AllDiffer}
use Rattle.el_chain.specs.Chains.{Chain}
use Rattle.el_chain.specs.Headers.{same_hash}
use Rattle.el_chain.proofs.CoinLists.{same_gives, same_from}
use Rattle.el_mempool.specs.declared.held.Held.{Held}
use Rattle.el_mempool.specs.declared.held.KeptTx.{KeptTx}
use Rattle.el_kept.specs.declared.table.Table.{Table}
use Rattle.el_mempool.specs.Sift.{output_among, named, any_takes, is_confirmed, may_join, sift, other_than}
use Rattle.el_mempool.specs.Unconfirmed.{concerns_script}
use Rattle.el_mempool.specs.Refusals.{is_kept, spender_of}
use Rattle.el_mempool.specs.Standing.{kept_tx, has_entry, KeptStandFor, AreChanged}
use Rattle.el_kept.specs.Tables.{undropped, by_txid, takes_from, HasEntries}
use Rattle.el_kept.specs.Named.{IsTableOver}
use Rattle.el_kept.specs.Tables.{has, slot, slot_at_script, without_txids}
use Rattle.el_join.specs.within.Going.{size, AreThere, Gathers}
use Rattle.el_mempool.proofs.Sifting.{joins_of}
use Rattle.el_mempool.proofs.Confirmed.{hash_self, hash_same, unconfirmed_none}
use Rattle.el_mempool.proofs.Named.{AreNamed, AllNamed, all_named}
use Rattle.el_mempool.proofs.Dropping.{names_gone, IsDropped}
use Rattle.el_mempool.proofs.Picked.{KeysApart}
use Rattle.el_mempool.proofs.Changes.{apart_from}
use Rattle.el_kept.proofs.Entries.{found_standing, entry_found, any_sources}
use Rattle.el_kept.proofs.Lookups.{output_is, takers_are, is_over}
use Rattle.el_mempool.proofs.Arrivals.{entry_at, fresh_from}
use Rattle.el_mempool.proofs.Departures.{is_gone_at, stands_rest, drop_changes}

-- ---- lists

all_both : {X : Type 0} (P Q R : X → Type 0) (xs : List X) → ((x : X) → P x → Q x → R x) → AllByRecursion P xs → AllByRecursion Q xs → AllByRecursion R xs
all_both P Q R [] f p q = tt
all_both P Q R (x ∷ xs) f p q = (f x p.0 q.0, all_both P Q R xs f p.1 q.1)

some_hash : (x y : Hash32) → Some x ≡ Some y → x ≡ y
some_hash x y h = cc

none_hash : (x : Hash32) → None ≡ Some x → ⊥
none_hash x h = cc

pub both_ways : (a b : Bool) → (a ≡ true → b ≡ true) → (b ≡ true → a ≡ true) → a ≡ b
both_ways true b f g = sym (f refl)
both_ways false true f g = g refl
both_ways false false f g = refl

-- what holds of one that is there
any_of : (f : Hash32 → Bool) (ids : List Hash32) (x : Hash32) → has ids x ≡ true → f x ≡ true → list_any f ids ≡ true
any_of f [] x h fx = absurd (true≢false (sym h))
any_of f (y ∷ ys) x h fx = by (or_cases (same_hash x y) (has ys x) h) (λ later. any_of f ys x later fx)
  where
    by : (same_hash x y ≡ true) ⊎ (has ys x ≡ true) → (has ys x ≡ true → list_any f ys ≡ true) → (f y || list_any f ys) ≡ true
    by (inl e) more = or_left (f y) (list_any f ys) (ap f (sym (hash_same x y e)) ∙ fx)
    by (inr e) more = or_right (f y) (list_any f ys) (more e)

all_there : (front ids : List Hash32) → AllByRecursion (λ x. has (front ++ ids) x ≡ true) ids
all_there front [] = tt
all_there front (x ∷ ids) = (
  list_any-append (same_hash x) front (x ∷ ids) ∙ or_right (has front x) (same_hash x x || has ids x) (or_left (same_hash x x) (has ids x) (hash_self x x refl)),
  subst (λ (l : List Hash32). AllByRecursion (λ y. has l y ≡ true) ids) (append_assoc front (x ∷ []) ids) (all_there (front ++ x ∷ []) ids),
)

pub entry_there : (id : Hash32) (ks : List KeptTx) → has_entry id ks ≡ is_some (by_txid id ks)
entry_there id [] = refl
entry_there id (k ∷ ks) = by (same_hash id k.txid) (entry_there id ks)
  where
    by : (b : Bool) → has_entry id ks ≡ is_some (by_txid id ks) → (b || has_entry id ks) ≡ is_some (cond b (Some k) (by_txid id ks))
    by true e = refl
    by false e = e

-- ---- who takes an output

spender_kept : (o : Outpoint) (ts : List Tx) (x : Hash32) → option_map txid (spender_of o ts) ≡ Some x → is_kept x ts ≡ true
spender_kept o [] x h = absurd (none_hash x h)
spender_kept o (t ∷ ts) x h = by (any_takes o t.inputs) h (spender_kept o ts x)
  where
    by : (b : Bool) → option_map txid (cond b (Some t) (spender_of o ts)) ≡ Some x → (option_map txid (spender_of o ts) ≡ Some x → is_kept x ts ≡ true) → (same_hash (txid t) x || is_kept x ts) ≡ true
    by true e more = or_left (same_hash (txid t) x) (is_kept x ts) (hash_self (txid t) x (some_hash (txid t) x e))
    by false e more = or_right (same_hash (txid t) x) (is_kept x ts) (more e)

pub apart_kept : (t : Tx) (us : List Tx) → AllByRecursion (λ (u : Tx). txid t ≡ txid u → ⊥) us → is_kept (txid t) us ≡ false
apart_kept t [] h = refl
apart_kept t (u ∷ us) h =
    or_from (same_hash (txid u) (txid t)) (is_kept (txid t) us) (false_from_ne_true (same_hash (txid u) (txid t)) (λ e. h.0 (sym (hash_same (txid u) (txid t) e)))) (apart_kept t us h.1)

-- the one whose txid the taker has takes it
spends_own : (o : Outpoint) (ts : List Tx) → KeysApart txid ts → AllByRecursion (λ (t : Tx). option_map txid (spender_of o ts) ≡ Some (txid t) → any_takes o t.inputs ≡ true) ts
spends_own o [] apart = tt
spends_own o (t ∷ us) apart = (
  first (any_takes o t.inputs) refl,
  all_both (λ (u : Tx). txid t ≡ txid u → ⊥) (λ (u : Tx). option_map txid (spender_of o us) ≡ Some (txid u) → any_takes o u.inputs ≡ true)
      (λ (u : Tx). option_map txid (spender_of o (t ∷ us)) ≡ Some (txid u) → any_takes o u.inputs ≡ true) us (λ u other own. later u (any_takes o t.inputs) other own) apart.0 (spends_own o us apart.1),
)
  where
    first : (b : Bool) → any_takes o t.inputs ≡ b → option_map txid (cond (any_takes o t.inputs) (Some t) (spender_of o us)) ≡ Some (txid t) → any_takes o t.inputs ≡ true
    first true h is = h
    first false h is =
        absurd (true≢false (sym (spender_kept o us (txid t) (sym (ap (λ b. option_map txid (cond b (Some t) (spender_of o us))) h) ∙ is)) ∙ apart_kept t us apart.0))

    later : (u : Tx) (b : Bool) → (txid t ≡ txid u → ⊥) → (option_map txid (spender_of o us) ≡ Some (txid u) → any_takes o u.inputs ≡ true)
        → option_map txid (cond b (Some t) (spender_of o us)) ≡ Some (txid u) → any_takes o u.inputs ≡ true
    later u true other own is = absurd (other (some_hash (txid t) (txid u) is))
    later u false other own is = own is

-- each of these has what its inputs take
pub IsOwner : Table → Tx → Type 0
IsOwner table t = (o : Outpoint) → any_takes o t.inputs ≡ true → get same_outpoint table.spenders o ≡ Some (txid t)

owners_from : (table : Table) (chain : Chain) (all ts : List Tx) → AllNamed chain all ts
    → ((o : Outpoint) → AllByRecursion (λ (k : KeptTx). takes_from o k ≡ true → get same_outpoint table.spenders o ≡ Some k.txid) (map (kept_tx chain all) ts))
    → AllByRecursion (λ (t : Tx). (o : Outpoint) → any_takes o t.inputs ≡ true → get same_outpoint table.spenders o ≡ Some (txid t)) ts
owners_from table chain all [] named alone = tt
owners_from table chain all (t ∷ ts) named alone =
    ((λ o takes. (alone o).0 (any_sources o chain all t.inputs named.0 ∙ takes)), owners_from table chain all ts named.1 (λ o. (alone o).1))

-- ---- who goes

kept_fresh : (chain : Chain) (x : Hash32) (ts : List Tx) → AllByRecursion (λ (t : Tx). is_confirmed chain (txid t) ≡ false) ts → is_kept x ts ≡ true → is_confirmed chain x ≡ false
kept_fresh chain x [] all h = absurd (true≢false (sym h))
kept_fresh chain x (t ∷ ts) all h = by (or_cases (same_hash (txid t) x) (is_kept x ts) h) (kept_fresh chain x ts all.1)
  where
    by : (same_hash (txid t) x ≡ true) ⊎ (is_kept x ts ≡ true) → (is_kept x ts ≡ true → is_confirmed chain x ≡ false) → is_confirmed chain x ≡ false
    by (inl e) more = ap (is_confirmed chain) (sym (hash_same (txid t) x e)) ∙ all.0
    by (inr e) more = more e

names_taken : (gone : Hash32 → Bool) (o : Outpoint) (is : List TxIn) → any_takes o is ≡ true → gone o.txid ≡ true → names_gone gone is ≡ true
names_taken gone o [] h g = absurd (true≢false (sym h))
names_taken gone o (i ∷ is) h g = by (or_cases (same_outpoint o i.from) (any_takes o is) h) (λ later. names_taken gone o is later g)
  where
    by : (same_outpoint o i.from ≡ true) ⊎ (any_takes o is ≡ true) → (any_takes o is ≡ true → names_gone gone is ≡ true) → (gone i.from.txid || names_gone gone is) ≡ true
    by (inl e) more = or_left (gone i.from.txid) (names_gone gone is) (ap (λ (p : Outpoint). gone p.txid) (sym (same_gives o i.from e)) ∙ g)
    by (inr e) more = or_right (gone i.from.txid) (names_gone gone is) (more e)

-- an input that names one that is gone
taken_named : (chain : Chain) (kept : List Tx) (gone : Hash32 → Bool) (is : List TxIn) → AreNamed chain kept is → names_gone gone is ≡ true
    → (o : Outpoint) × (gone o.txid ≡ true) × (any_takes o is ≡ true) × (is_some (named chain kept o) ≡ true)
taken_named chain kept gone [] all h = absurd (true≢false (sym h))
taken_named chain kept gone (i ∷ is) all h = by (or_cases (gone i.from.txid) (names_gone gone is) h) (taken_named chain kept gone is all.1)
  where
    by : (gone i.from.txid ≡ true) ⊎ (names_gone gone is ≡ true)
        → (names_gone gone is ≡ true → (o : Outpoint) × (gone o.txid ≡ true) × (any_takes o is ≡ true) × (is_some (named chain kept o) ≡ true))
        → (o : Outpoint) × (gone o.txid ≡ true) × (any_takes o (i ∷ is) ≡ true) × (is_some (named chain kept o) ≡ true)
    by (inl e) more = (i.from, e, or_left (same_outpoint i.from i.from) (any_takes i.from is) (same_from i.from i.from refl), all.0)
    by (inr e) more = let m = more e in (m.0, m.1, or_right (same_outpoint m.0 i.from) (any_takes m.0 is) m.2, m.3)

within_size : (x : Option KeptTx) (n : ℕ) → is_some (option_and_then (λ (k : KeptTx). slice_get k.outputs n) x) ≡ true → n < size x
within_size None n h = absurd (true≢false (sym h))
within_size (Some k) n h = by (slice_get_cases k.outputs n).1
  where
    by : ((v : Held) × (n < length k.outputs) × (slice_get k.outputs n ≡ Some v) × (get_or k.outputs n v ≡ v)) ⊎ ((length k.outputs ≤ n) × (slice_get k.outputs n ≡ None)) → n < length k.outputs
    by (inl c) = c.1
    by (inr c) = absurd (true≢false (sym h ∙ ap is_some c.1))

module _ (table : Table) (chain : Chain) (kept : List Tx) (id : Hash32) (ids : List Hash32) (is_table : HasEntries table (undropped table.kept.entries)) (stands : KeptStandFor (undropped table.kept.entries) chain kept)
    (there : is_some (by_txid id (undropped table.kept.entries)) ≡ true) (gathers : Gathers (get same_outpoint table.spenders) (λ x. size (slot table x)) id [] ids) where
  over : IsTableOver table chain kept
  over = is_over table chain kept is_table stands

  fresh : AllByRecursion (λ (t : Tx). is_confirmed chain (txid t) ≡ false) kept
  fresh = fresh_from chain [] kept (joins_of (may_join chain) kept stands.sifted)

  start_kept : is_kept id kept ≡ true
  start_kept = sym (ap (λ l. is_some (by_txid id l)) stands.are ∙ entry_found id chain kept kept) ∙ there

  all_kept : (x : Hash32) → has ids x ≡ true → is_kept x kept ≡ true
  all_kept x h = by (gathers.comes x h)
    where
      by : (x ≡ id) ⊎ ((o : Outpoint) × (has ids o.txid ≡ true) × (get same_outpoint table.spenders o ≡ Some x)) → is_kept x kept ≡ true
      by (inl e) = ap (λ y. is_kept y kept) e ∙ start_kept
      by (inr c) = spender_kept c.0 kept x (sym (takers_are table chain kept c.0 over) ∙ c.2)

  unconfirmed : (x : Hash32) → has ids x ≡ true → is_confirmed chain x ≡ false
  unconfirmed x h = kept_fresh chain x kept fresh (all_kept x h)

  closed : (x : Hash32) → has ids x ≡ true → AreThere (get same_outpoint table.spenders) x (size (slot table x)) ids
  closed x h = by (gathers.there x h)
    where
      by : (false ≡ true) ⊎ AreThere (get same_outpoint table.spenders) x (size (slot table x)) ids → AreThere (get same_outpoint table.spenders) x (size (slot table x)) ids
      by (inl e) = absurd (true≢false (sym e))
      by (inr c) = c

  goes : (t : Tx) → AreNamed chain kept t.inputs → ((o : Outpoint) → any_takes o t.inputs ≡ true → get same_outpoint table.spenders o ≡ Some (txid t))
      → ((o : Outpoint) → option_map txid (spender_of o kept) ≡ Some (txid t) → any_takes o t.inputs ≡ true) → has ids (txid t) ≡ (same_hash (txid t) id || names_gone (has ids) t.inputs)
  goes t all_name owns takes = both_ways (has ids (txid t)) (same_hash (txid t) id || names_gone (has ids) t.inputs) (λ h. to (gathers.comes (txid t) h)) (λ h. from (or_cases (same_hash (txid t) id) (names_gone (has ids) t.inputs) h))
    where
      to : (txid t ≡ id) ⊎ ((o : Outpoint) × (has ids o.txid ≡ true) × (get same_outpoint table.spenders o ≡ Some (txid t))) → (same_hash (txid t) id || names_gone (has ids) t.inputs) ≡ true
      to (inl e) = or_left (same_hash (txid t) id) (names_gone (has ids) t.inputs) (hash_self (txid t) id e)
      to (inr c) =
          or_right (same_hash (txid t) id) (names_gone (has ids) t.inputs) (names_taken (has ids) c.0 t.inputs (takes c.0 (sym (takers_are table chain kept c.0 over) ∙ c.2)) c.1)

      by_input : (o : Outpoint) → has ids o.txid ≡ true → any_takes o t.inputs ≡ true → is_some (named chain kept o) ≡ true → has ids (txid t) ≡ true
      by_input o g a some =
          let none = unconfirmed_none chain o (unconfirmed o.txid g) in
          let output_there : is_some (output_among o kept) ≡ true = sym (ap (λ x. is_some (option_or x (output_among o kept))) none) ∙ some in
          closed o.txid g o.index (within_size (slot table o.txid) o.index (ap is_some (output_is table chain kept o over) ∙ output_there)) (txid t) (owns o a)

      from : (same_hash (txid t) id ≡ true) ⊎ (names_gone (has ids) t.inputs ≡ true) → has ids (txid t) ≡ true
      from (inl e) = ap (has ids) (hash_same (txid t) id e) ∙ gathers.first
      from (inr n) = let c = taken_named chain kept (has ids) t.inputs all_name n in by_input c.0 c.1 c.2 c.3

  go : (ts : List Tx) → AllNamed chain kept ts → AllByRecursion (λ (t : Tx). (o : Outpoint) → any_takes o t.inputs ≡ true → get same_outpoint table.spenders o ≡ Some (txid t)) ts
      → ((o : Outpoint) → AllByRecursion (λ (t : Tx). option_map txid (spender_of o kept) ≡ Some (txid t) → any_takes o t.inputs ≡ true) ts) → IsDropped id (has ids) ts
  go [] named owns takes = tt
  go (t ∷ ts) named owns takes = (goes t named.0 owns.0 (λ o. (takes o).0), go ts named.1 owns.1 (λ o. (takes o).1))

  alone : (o : Outpoint) → AllByRecursion (λ (k : KeptTx). takes_from o k ≡ true → get same_outpoint table.spenders o ≡ Some k.txid) (map (kept_tx chain kept) kept)
  alone o = subst (λ (l : List KeptTx). AllByRecursion (λ (k : KeptTx). takes_from o k ≡ true → get same_outpoint table.spenders o ≡ Some k.txid) l) stands.are (is_table.alone o)

  pub dropped : IsDropped id (has ids) kept
  dropped =
      let named = all_named chain kept stands.sifted in
      go kept named (owners_from table chain kept kept named alone) (λ o. spends_own o kept (apart_from kept stands.once))

  -- ---- which script hashes

  slot_is : (x : Hash32) → slot table x ≡ by_txid x (map (kept_tx chain kept) kept)
  slot_is x = found_standing x table.kept.entries is_table.right is_table.once ∙ ap (by_txid x) stands.are

  at_slot : (s : Hash32) → Hash32 → Bool
  at_slot s x = slot_at_script s.0 (by_txid x (map (kept_tx chain kept) kept))

  to_kept : (s x : Hash32) (ts : List Tx) → has ids x ≡ true → slot_at_script s.0 (by_txid x (map (kept_tx chain kept) ts)) ≡ true → list_any (is_gone_at chain (has ids) kept s) ts ≡ true
  to_kept s x [] h at_s = absurd (true≢false (sym at_s))
  to_kept s x (t ∷ ts) h at_s = by (same_hash x (txid t)) refl at_s (to_kept s x ts h)
    where
      by : (b : Bool) → same_hash x (txid t) ≡ b → slot_at_script s.0 (cond b (Some (kept_tx chain kept t)) (by_txid x (map (kept_tx chain kept) ts))) ≡ true
          → (slot_at_script s.0 (by_txid x (map (kept_tx chain kept) ts)) ≡ true → list_any (is_gone_at chain (has ids) kept s) ts ≡ true)
          → (is_gone_at chain (has ids) kept s t || list_any (is_gone_at chain (has ids) kept s) ts) ≡ true
      by true e is more =
          or_left (is_gone_at chain (has ids) kept s t) (list_any (is_gone_at chain (has ids) kept s) ts)
          (and_from (has ids (txid t)) (concerns_script chain kept s.0 t) (ap (has ids) (sym (hash_same x (txid t) e)) ∙ h) (sym (entry_at chain kept s.0 t) ∙ is))
      by false e is more = or_right (is_gone_at chain (has ids) kept s t) (list_any (is_gone_at chain (has ids) kept s) ts) (more is)

  to_all : (s : Hash32) (xs : List Hash32) → AllByRecursion (λ x. has ids x ≡ true) xs → list_any (λ x. slot_at_script s.0 (slot table x)) xs ≡ true → list_any (is_gone_at chain (has ids) kept s) kept ≡ true
  to_all s [] all h = absurd (true≢false (sym h))
  to_all s (x ∷ xs) all h = by (or_cases (slot_at_script s.0 (slot table x)) (list_any (λ y. slot_at_script s.0 (slot table y)) xs) h) (to_all s xs all.1)
    where
      by : (slot_at_script s.0 (slot table x) ≡ true) ⊎ (list_any (λ y. slot_at_script s.0 (slot table y)) xs ≡ true)
          → (list_any (λ y. slot_at_script s.0 (slot table y)) xs ≡ true → list_any (is_gone_at chain (has ids) kept s) kept ≡ true) → list_any (is_gone_at chain (has ids) kept s) kept ≡ true
      by (inl e) more = to_kept s x kept all.0 (ap (slot_at_script s.0) (sym (slot_is x)) ∙ e)
      by (inr e) more = more e

  found_own : (ts : List Tx) → KeysApart txid ts → AllByRecursion (λ (t : Tx). by_txid (txid t) (map (kept_tx chain kept) ts) ≡ Some (kept_tx chain kept t)) ts
  found_own [] apart = tt
  found_own (t ∷ us) apart = (
    let own = hash_self (txid t) (txid t) refl in rw own refl,
    all_both (λ (u : Tx). txid t ≡ txid u → ⊥) (λ (u : Tx). by_txid (txid u) (map (kept_tx chain kept) us) ≡ Some (kept_tx chain kept u))
        (λ (u : Tx). by_txid (txid u) (map (kept_tx chain kept) (t ∷ us)) ≡ Some (kept_tx chain kept u)) us (λ u other own. later u other own) apart.0 (found_own us apart.1),
  )
    where
      later : (u : Tx) → (txid t ≡ txid u → ⊥) → by_txid (txid u) (map (kept_tx chain kept) us) ≡ Some (kept_tx chain kept u) → by_txid (txid u) (map (kept_tx chain kept) (t ∷ us)) ≡ Some (kept_tx chain kept u)
      later u other own =
          let apart_from_it : same_hash (txid u) (txid t) ≡ false = false_from_ne_true (same_hash (txid u) (txid t)) (λ e. other (sym (hash_same (txid u) (txid t) e))) in
          rw apart_from_it own

  from_all : (s : Hash32) (ts : List Tx) → AllByRecursion (λ (t : Tx). by_txid (txid t) (map (kept_tx chain kept) kept) ≡ Some (kept_tx chain kept t)) ts
      → list_any (is_gone_at chain (has ids) kept s) ts ≡ true → list_any (λ x. slot_at_script s.0 (slot table x)) ids ≡ true
  from_all s [] own h = absurd (true≢false (sym h))
  from_all s (t ∷ ts) own h = by (or_cases (is_gone_at chain (has ids) kept s t) (list_any (is_gone_at chain (has ids) kept s) ts) h) (from_all s ts own.1)
    where
      by : (is_gone_at chain (has ids) kept s t ≡ true) ⊎ (list_any (is_gone_at chain (has ids) kept s) ts ≡ true)
          → (list_any (is_gone_at chain (has ids) kept s) ts ≡ true → list_any (λ x. slot_at_script s.0 (slot table x)) ids ≡ true) → list_any (λ x. slot_at_script s.0 (slot table x)) ids ≡ true
      by (inl e) more =
          let parts = and_parts (has ids (txid t)) (concerns_script chain kept s.0 t) e in
          any_of (λ x. slot_at_script s.0 (slot table x)) ids (txid t) parts.0 (ap (slot_at_script s.0) (slot_is (txid t) ∙ own.0) ∙ entry_at chain kept s.0 t ∙ parts.1)
      by (inr e) more = more e

  scripts_are : (s : Hash32) → list_any (λ x. slot_at_script s.0 (slot table x)) ids ≡ list_any (is_gone_at chain (has ids) kept s) kept
  scripts_are s =
      both_ways (list_any (λ x. slot_at_script s.0 (slot table x)) ids) (list_any (is_gone_at chain (has ids) kept s) kept) (to_all s ids (all_there [] ids))
      (from_all s kept (found_own kept (apart_from kept stands.once)))

  pub drop_is : (scripts : List Hash32) (new : List KeptTx) → new ≡ without_txids ids (undropped table.kept.entries) → ((s : Hash32) → list_any (same_hash s) scripts ≡ list_any (λ x. slot_at_script s.0 (slot table x)) ids)
      → AllDiffer scripts → KeptStandFor new chain (sift chain (other_than id kept)) × AreChanged chain kept chain (sift chain (other_than id kept)) scripts
  drop_is scripts new is each once = (
    (rw is (stands_rest (undropped table.kept.entries) chain (has ids) id kept stands unconfirmed dropped)),
    drop_changes (undropped table.kept.entries) chain (has ids) id kept scripts stands unconfirmed dropped once (λ s. each s ∙ scripts_are s),
  )
