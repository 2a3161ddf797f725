-- An entry less in the slots of a table, and in the index of takers.
use Rattle.std.proofs.Common.{◌≡◌, inl, inr, ℕ, ◌+◌, ◌*◌, ◌-◌, ◌<◌, ◌≤◌, true, false, Bool, cond, ◌||◌, List, [], ◌∷◌, ◌++◌, length, take, get_or, Option, None, Some, refl, ap, sym, ◌∙◌, arith}
use Rattle.std.proofs.lemmas.Bool.{cases_Bool, true≢false}
use Rattle.std.proofs.lemmas.List.Folds.{list_any-append, list_any_more}
use Rattle.std.proofs.lemmas.List.Sums.{sum_by-cons}
use Rattle.std.specs.List.{AllByRecursion, list_any, find, filter, sum_by, IsDistinct}
use Rattle.std.specs.Prelude.{option_map}
use Rattle.std.specs.Option.{option_flatten, is_some}
use Rattle.std.specs.Map.{keys_of, lookup}
use Rattle.indexmap.specs.IndexMap.{get, insert_entry, IsUnique}
use Rattle.std.proofs.lemmas.List.{take_more}
use Rattle.el_base.specs.declared.hash.Hash32.{Hash32}
use Rattle.el_tx.specs.declared.types.Outpoint.{Outpoint}
use Rattle.el_tx.specs.Hashing.{same_outpoint}
use Rattle.el_chain.specs.Headers.{same_hash}
use Rattle.el_mempool.specs.declared.held.Source.{Source}
use Rattle.el_mempool.specs.declared.held.KeptTx.{KeptTx}
use Rattle.el_kept.specs.declared.table.Table.{Table}
use Rattle.el_kept.specs.Tables.{undropped, StandUnderTxids, by_txid, takes_from, is_source_of, HasEntries}
use Rattle.el_kept.specs.Tables.{has, slot, without_txids}
use Rattle.el_mempool.proofs.Confirmed.{hash_self, hash_same, hash_turned}
use Rattle.el_kept.proofs.Entries.{found_standing}
use Rattle.std.specs.BTreeSet.{BTreeSet}
use Rattle.el_kept.specs.declared.listing.Listing.{Listing}
use Rattle.el_kept.specs.Listings.{AreListed}
use Rattle.el_kept.proofs.Listed.{listed_as}
use Rattle.el_kept.proofs.Slots.{Slot, not_there, outpoint_turned}

-- ---- the entries without some

pub without_none : (ks : List KeptTx) → without_txids [] ks ≡ ks
without_none [] = refl
without_none (k ∷ ks) = ap (λ l. k ∷ l) (without_none ks)

pub without_more : (ids : List Hash32) (id : Hash32) (ks : List KeptTx) → without_txids (id ∷ []) (without_txids ids ks) ≡ without_txids (ids ++ id ∷ []) ks
without_more ids id [] = refl
without_more ids id (k ∷ ks) = by (has ids k.txid) (same_hash k.txid id) refl refl (list_any-append (same_hash k.txid) ids (id ∷ [])) (without_more ids id ks)
  where
    by : (a b : Bool) → has ids k.txid ≡ a → same_hash k.txid id ≡ b → has (ids ++ id ∷ []) k.txid ≡ (has ids k.txid || (same_hash k.txid id || false))
        → without_txids (id ∷ []) (without_txids ids ks) ≡ without_txids (ids ++ id ∷ []) ks → without_txids (id ∷ []) (without_txids ids (k ∷ ks)) ≡ without_txids (ids ++ id ∷ []) (k ∷ ks)
    by true b x y whole more = let is = rw x at whole in rw (x, is) more
    by false true x y whole more = let is = rw (x, y) at whole in rw (x, is) (rw y more)
    by false false x y whole more = let is = rw (x, y) at whole in rw (x, is) (rw y (ap (λ l. k ∷ l) more))

-- none has that txid
pub none_without : (id : Hash32) (ks : List KeptTx) → by_txid id ks ≡ None → without_txids (id ∷ []) ks ≡ ks
none_without id [] none = refl
none_without id (k ∷ ks) none = by (same_hash id k.txid) refl none (none_without id ks)
  where
    by : (b : Bool) → same_hash id k.txid ≡ b → cond b (Some k) (by_txid id ks) ≡ None → (by_txid id ks ≡ None → without_txids (id ∷ []) ks ≡ ks) → without_txids (id ∷ []) (k ∷ ks) ≡ k ∷ ks
    by true h e more = absurd (cc)
    by false h e more = let other : same_hash k.txid id ≡ false = hash_turned k.txid id ∙ h in rw other (ap (λ l. k ∷ l) (more e))

-- ---- slots

pub none_with : (id k : Hash32) (es : List Slot) → id ≡ k → StandUnderTxids es → AllByRecursion (λ q. same_hash k q ≡ false) (keys_of es) → AllByRecursion (λ (e : KeptTx). same_hash e.txid id ≡ false) (undropped es)
none_with id k [] is right apart = tt
none_with id k ((q, None) ∷ es) is right apart = none_with id k es is right.1 apart.1
none_with id k ((q, Some e) ∷ es) is right apart =
    (hash_turned e.txid id ∙ ap (λ x. same_hash x e.txid) is ∙ ap (same_hash k) right.0 ∙ apart.0, none_with id k es is right.1 apart.1)

all_left : (id : Hash32) (ks : List KeptTx) → AllByRecursion (λ (e : KeptTx). same_hash e.txid id ≡ false) ks → without_txids (id ∷ []) ks ≡ ks
all_left id [] h = refl
all_left id (k ∷ ks) h = let here = h.0 in rw here (ap (λ l. k ∷ l) (all_left id ks h.1))

cleared_standing : (id : Hash32) (es : List Slot) → StandUnderTxids es → IsDistinct same_hash (keys_of es) → is_some (option_flatten (lookup (same_hash id) es)) ≡ true
    → undropped (insert_entry same_hash es id None) ≡ without_txids (id ∷ []) (undropped es)
unfolding IsDistinct
cleared_standing id [] right once some = refl
cleared_standing id ((k, None) ∷ es) right once some = elim (cases_Bool (same_hash id k)) [
  | inl h ↦ let said = rw h at some in absurd (true≢false (sym said))
  | inr h ↦ let said = rw h at some in rw h (cleared_standing id es right.1 once.1 said)
]
cleared_standing id ((k, Some e) ∷ es) right once some = elim (cases_Bool (same_hash id k)) [
  | inl h ↦
      let own : same_hash e.txid id ≡ true = hash_turned e.txid id ∙ ap (same_hash id) right.0 ∙ h in
      rw (h, own) (sym (all_left id (undropped es) (none_with id k es (hash_same id k h) right.1 once.0)))
  | inr h ↦
      let other : same_hash e.txid id ≡ false = hash_turned e.txid id ∙ ap (same_hash id) right.0 ∙ h in
      let said = rw h at some in
      rw (h, other) (ap (λ l. e ∷ l) (cleared_standing id es right.1 once.1 said))
]

cleared_right : (id : Hash32) (es : List Slot) → StandUnderTxids es → StandUnderTxids (insert_entry same_hash es id None)
cleared_right id [] right = (tt, tt)
cleared_right id ((k, v) ∷ es) right = elim (cases_Bool (same_hash id k)) [
  | inl h ↦ rw h (tt, right.1)
  | inr h ↦ rw h (right.0, cleared_right id es right.1)
]

-- how many there were, and how many bytes
abbrev pub Sizes : List KeptTx → List KeptTx → KeptTx → Type 0
Sizes old new e = (length old ≡ length new + 1) × (sum_by (λ (k : KeptTx). length k.bytes) old ≡ sum_by (λ (k : KeptTx). length k.bytes) new + length e.bytes)

pub some_same : (d e : KeptTx) → Some d ≡ Some e → d ≡ e
some_same d e h = cc

pub none_some : (e : KeptTx) → None ≡ Some e → ⊥
none_some e h = cc

cleared_sizes : (id : Hash32) (es : List Slot) (e : KeptTx) → option_flatten (lookup (same_hash id) es) ≡ Some e → Sizes (undropped es) (undropped (insert_entry same_hash es id None)) e
cleared_sizes id [] e is = absurd (none_some e is)
cleared_sizes id ((k, None) ∷ es) e is = elim (cases_Bool (same_hash id k)) [
  | inl h ↦ let said = rw h at is in absurd (none_some e said)
  | inr h ↦ let said = rw h at is in rw h (cleared_sizes id es e said)
]
cleared_sizes id ((k, Some d) ∷ es) e is = elim (cases_Bool (same_hash id k)) [
  | inl h ↦
      let said = rw h at is in
      let same = some_same d e said in
      let first = sum_by-cons (λ (x : KeptTx). length x.bytes) d (undropped es) in
      let bytes : length d.bytes ≡ length e.bytes = ap (λ (x : KeptTx). length x.bytes) same in
      rw h (omega arith, omega (arith, first, bytes))
  | inr h ↦
      let said = rw h at is in
      let more = cleared_sizes id es e said in
      let a = more.0 in
      let b = more.1 in
      let first = sum_by-cons (λ (x : KeptTx). length x.bytes) d (undropped es) in
      let second = sum_by-cons (λ (x : KeptTx). length x.bytes) d (undropped (insert_entry same_hash es id None)) in
      rw h (omega (arith, a), omega (arith, b, first, second))
]

pub only_one : (id : Hash32) (es : List Slot) (e : KeptTx) → StandUnderTxids es → IsDistinct same_hash (keys_of es) → option_flatten (lookup (same_hash id) es) ≡ Some e
    → AllByRecursion (λ (k : KeptTx). same_hash k.txid id ≡ true → k ≡ e) (undropped es)
unfolding IsDistinct
only_one id [] e right once is = tt
only_one id ((k, None) ∷ es) e right once is = elim (cases_Bool (same_hash id k)) [
  | inl h ↦ let said = rw h at is in absurd (none_some e said)
  | inr h ↦ let said = rw h at is in only_one id es e right.1 once.1 said
]
only_one id ((k, Some d) ∷ es) e right once is = elim (cases_Bool (same_hash id k)) [
  | inl h ↦
      let said = rw h at is in
      ((λ _. some_same d e said), never (undropped es) (none_with id k es (hash_same id k h) right.1 once.0))
  | inr h ↦
      let said = rw h at is in
      let other : same_hash d.txid id ≡ false = hash_turned d.txid id ∙ ap (same_hash id) right.0 ∙ h in
      ((λ yes. absurd (true≢false (sym yes ∙ other))), only_one id es e right.1 once.1 said)
]
  where
    never : (ks : List KeptTx) → AllByRecursion (λ (x : KeptTx). same_hash x.txid id ≡ false) ks → AllByRecursion (λ (x : KeptTx). same_hash x.txid id ≡ true → x ≡ e) ks
    never [] h = tt
    never (x ∷ xs) h = ((λ yes. absurd (true≢false (sym yes ∙ h.0))), never xs h.1)

-- ---- takers

abbrev pub IsAlone : Outpoint → Option Hash32 → List KeptTx → Type 0
IsAlone o taker ks = AllByRecursion (λ (k : KeptTx). takes_from o k ≡ true → taker ≡ Some k.txid) ks

some_hash : (x y : Hash32) → Some x ≡ Some y → x ≡ y
some_hash x y h = cc

none_left : (o : Outpoint) (id : Hash32) (taker : Option Hash32) (ks : List KeptTx) → IsAlone o taker ks → taker ≡ Some id → find (takes_from o) (without_txids (id ∷ []) ks) ≡ None
none_left o id taker [] all is = refl
none_left o id taker (k ∷ ks) all is = elim (cases_Bool (same_hash k.txid id)) [
  | inl h ↦ rw h (none_left o id taker ks all.1 is)
  | inr h ↦ elim (cases_Bool (takes_from o k)) [
    | inl t ↦ absurd (true≢false (sym (hash_self k.txid id (some_hash k.txid id (sym (all.0 t) ∙ is))) ∙ h))
    | inr t ↦ rw h (rw t (none_left o id taker ks all.1 is))
  ]
]

same_left : (o : Outpoint) (id : Hash32) (ks : List KeptTx) → AllByRecursion (λ (k : KeptTx). same_hash k.txid id ≡ true → takes_from o k ≡ false) ks
    → find (takes_from o) (without_txids (id ∷ []) ks) ≡ find (takes_from o) ks
same_left o id [] all = refl
same_left o id (k ∷ ks) all = elim (cases_Bool (same_hash k.txid id)) [
  | inl h ↦ let t = all.0 h in rw h (rw t (same_left o id ks all.1))
  | inr h ↦ rw h (ap (λ x. cond (takes_from o k) (Some k) x) (same_left o id ks all.1))
]

still_alone : (o : Outpoint) (id : Hash32) (b : Bool) (old new : Option Hash32) (ks : List KeptTx) → (b ≡ true → old ≡ Some id) → new ≡ cond b None old → IsAlone o old ks → IsAlone o new (without_txids (id ∷ []) ks)
still_alone o id b old new [] own is all = tt
still_alone o id b old new (k ∷ ks) own is all = elim (cases_Bool (same_hash k.txid id)) [
  | inl h ↦ rw h (still_alone o id b old new ks own is all.1)
  | inr h ↦ rw h ((λ t. by b refl h (all.0 t)), still_alone o id b old new ks own is all.1)
]
  where
    by : (c : Bool) → b ≡ c → same_hash k.txid id ≡ false → old ≡ Some k.txid → new ≡ Some k.txid
    by true e apart was = absurd (true≢false (sym (hash_self k.txid id (some_hash k.txid id (sym was ∙ own e))) ∙ apart))
    by false e apart was = is ∙ ap (λ x. cond x None old) e ∙ was

found_has : (P : KeptTx → Type 0) (p : KeptTx → Bool) (ks : List KeptTx) (e : KeptTx) → find p ks ≡ Some e → AllByRecursion P ks → P e
found_has P p [] e is all = absurd (none_some e is)
found_has P p (k ∷ ks) e is all = by (p k) is (λ h. found_has P p ks e h all.1)
  where
    moved : (x y : KeptTx) → x ≡ y → P x → P y
    moved x y e h = rw e at h

    by : (b : Bool) → cond b (Some k) (find p ks) ≡ Some e → (find p ks ≡ Some e → P e) → P e
    by true h more = moved k e (some_same k e h) all.0
    by false h more = more h

pub found_txid : (i : Hash32) (ks : List KeptTx) (d : KeptTx) → by_txid i ks ≡ Some d → same_hash i d.txid ≡ true
found_txid i [] d is = absurd (none_some d is)
found_txid i (k ∷ ks) d is = by (same_hash i k.txid) refl is (found_txid i ks d)
  where
    by : (b : Bool) → same_hash i k.txid ≡ b → cond b (Some k) (by_txid i ks) ≡ Some d → (by_txid i ks ≡ Some d → same_hash i d.txid ≡ true) → same_hash i d.txid ≡ true
    by true x h more = ap (λ (y : KeptTx). same_hash i y.txid) (sym (some_same k d h)) ∙ x
    by false x h more = more h

-- ---- together

pub taken_out : (old new : Table) (e : KeptTx) (id : Hash32) → HasEntries old (undropped old.kept.entries) → slot old id ≡ Some e → new.kept.entries ≡ insert_entry same_hash old.kept.entries id None
    → IsUnique same_hash new.kept → ((o : Outpoint) → get same_outpoint new.spenders o ≡ cond (list_any (is_source_of o) e.inputs) None (get same_outpoint old.spenders o))
    → new.count ≡ old.count - 1 → new.bytes ≡ old.bytes - length e.bytes → HasEntries new (without_txids (id ∷ []) (undropped old.kept.entries))
taken_out old new e id t here put once takers count bytes =
    let found : by_txid id (undropped old.kept.entries) ≡ Some e = sym (found_standing id old.kept.entries t.right t.once) ∙ here in
    let are : undropped new.kept.entries ≡ without_txids (id ∷ []) (undropped old.kept.entries) = ap undropped put ∙ cleared_standing id old.kept.entries t.right t.once (ap is_some here) in
    let one = only_one id old.kept.entries e t.right t.once here in
    let sizes = cleared_sizes id old.kept.entries e here in
    let many = sizes.0 in
    let much = sizes.1 in
    let shape : undropped (insert_entry same_hash old.kept.entries id None) ≡ without_txids (id ∷ []) (undropped old.kept.entries) = ap undropped (sym put) ∙ are in
    let own : e.txid ≡ id = sym (hash_same id e.txid (found_txid id (undropped old.kept.entries) e found)) in
    record {
      are = are;
      right = rw put (cleared_right id old.kept.entries t.right);
      once = once;
      takers = λ o. takers_less o own (takers o) (t.takers o) (t.alone o) found one;
      alone = λ o. still_alone o id (list_any (is_source_of o) e.inputs) (get same_outpoint old.spenders o) (get same_outpoint new.spenders o) (undropped old.kept.entries)
          (λ h. owns o own (t.alone o) found h) (takers o) (t.alone o);
      count = let was = t.count in let now = ap length shape in omega (arith, count, was, now, many);
      bytes = let was = t.bytes in let now = ap (λ l. sum_by (λ (k : KeptTx). length k.bytes) l) shape in omega (arith, bytes, was, now, much);
    }
  where
    owns : (o : Outpoint) → e.txid ≡ id → IsAlone o (get same_outpoint old.spenders o) (undropped old.kept.entries) → by_txid id (undropped old.kept.entries) ≡ Some e → takes_from o e ≡ true
        → get same_outpoint old.spenders o ≡ Some id
    owns o own all found takes =
        found_has (λ (k : KeptTx). takes_from o k ≡ true → get same_outpoint old.spenders o ≡ Some k.txid) (λ (k : KeptTx). same_hash id k.txid) (undropped old.kept.entries) e found all takes ∙ ap Some own

    spared : (o : Outpoint) (ks : List KeptTx) → takes_from o e ≡ false → AllByRecursion (λ (k : KeptTx). same_hash k.txid id ≡ true → k ≡ e) ks
        → AllByRecursion (λ (k : KeptTx). same_hash k.txid id ≡ true → takes_from o k ≡ false) ks
    spared o [] none one = tt
    spared o (k ∷ ks) none one = ((λ h. ap (takes_from o) (one.0 h) ∙ none), spared o ks none one.1)

    takers_less : (o : Outpoint) → e.txid ≡ id → get same_outpoint new.spenders o ≡ cond (list_any (is_source_of o) e.inputs) None (get same_outpoint old.spenders o)
        → get same_outpoint old.spenders o ≡ option_map (λ (k : KeptTx). k.txid) (find (takes_from o) (undropped old.kept.entries)) → IsAlone o (get same_outpoint old.spenders o) (undropped old.kept.entries)
        → by_txid id (undropped old.kept.entries) ≡ Some e → AllByRecursion (λ (k : KeptTx). same_hash k.txid id ≡ true → k ≡ e) (undropped old.kept.entries)
        → get same_outpoint new.spenders o ≡ option_map (λ (k : KeptTx). k.txid) (find (takes_from o) (without_txids (id ∷ []) (undropped old.kept.entries)))
    takers_less o own after before all found one = by (list_any (is_source_of o) e.inputs) refl
      where
        by : (b : Bool) → list_any (is_source_of o) e.inputs ≡ b → get same_outpoint new.spenders o ≡ option_map (λ (k : KeptTx). k.txid) (find (takes_from o) (without_txids (id ∷ []) (undropped old.kept.entries)))
        by true h =
            after ∙ ap (λ b. cond b None (get same_outpoint old.spenders o)) h
            ∙ sym (ap (option_map (λ (k : KeptTx). k.txid)) (none_left o id (get same_outpoint old.spenders o) (undropped old.kept.entries) all (owns o own all found h)))
        by false h =
            after ∙ ap (λ b. cond b None (get same_outpoint old.spenders o)) h ∙ before
            ∙ sym (ap (option_map (λ (k : KeptTx). k.txid)) (same_left o id (undropped old.kept.entries) (spared o (undropped old.kept.entries) h one)))

pub not_out : (t : Table) (id : Hash32) → HasEntries t (undropped t.kept.entries) → is_some (by_txid id (undropped t.kept.entries)) ≡ false → HasEntries t (without_txids (id ∷ []) (undropped t.kept.entries))
not_out t id h none = let is = none_without id (undropped t.kept.entries) (not_there (by_txid id (undropped t.kept.entries)) none) in rw is h

pub out_of_all : (t : Table) (ks : List KeptTx) → HasEntries t ks → HasEntries t (without_txids [] ks)
out_of_all t ks h = let is = without_none ks in rw is h

pub one_more_out : (old new : Table) (ids : List Hash32) (n : ℕ) (d : Hash32) (ks : List KeptTx) → n < length ids → HasEntries old (without_txids (take n ids) ks)
    → HasEntries new (without_txids (get_or ids n d ∷ []) (undropped old.kept.entries)) → HasEntries new (without_txids (take (n + 1) ids) ks)
one_more_out old new ids n d ks lt before after =
    let cut = take_more ids n d lt in
    let is = ap (without_txids (get_or ids n d ∷ [])) before.are ∙ without_more (take n ids) (get_or ids n d) ks ∙ ap (λ l. without_txids l ks) (sym cut) in
    rw is at after

-- one input more is free
pub freed_step : (o : Outpoint) (xs : List Source) (i : ℕ) (d : Source) (now old first : Option Hash32) → i < length xs → now ≡ cond (same_outpoint (get_or xs i d).from o) None old
    → old ≡ cond (list_any (is_source_of o) (take i xs)) None first → now ≡ cond (list_any (is_source_of o) (take (i + 1) xs)) None first
freed_step o xs i d now old first lt is before =
    let more = list_any_more (is_source_of o) xs i d lt in
    is ∙ ap (λ b. cond b None old) (outpoint_turned (get_or xs i d).from o) ∙ ap (cond (same_outpoint o (get_or xs i d).from) None) before
    ∙ by (same_outpoint o (get_or xs i d).from) (list_any (is_source_of o) (take i xs)) ∙ ap (λ b. cond b None first) (sym more)
  where
    by : (a b : Bool) → cond a None (cond b None first) ≡ cond (b || a) None first
    by true true = refl
    by true false = refl
    by false true = refl
    by false false = refl

-- ---- slots without an entry

standing_full : (es : List (Hash32 × Option KeptTx)) → undropped (filter (λ (e : Hash32 × Option KeptTx). is_some e.1) es) ≡ undropped es
standing_full [] = refl
standing_full ((k, None) ∷ es) = standing_full es
standing_full ((k, Some e) ∷ es) = ap (λ l. e ∷ l) (standing_full es)

right_full : (es : List (Hash32 × Option KeptTx)) → StandUnderTxids es → StandUnderTxids (filter (λ (e : Hash32 × Option KeptTx). is_some e.1) es)
right_full [] right = tt
right_full ((k, None) ∷ es) right = right_full es right.1
right_full ((k, Some e) ∷ es) right = (right.0, right_full es right.1)

-- a table without the slots that have no entry
pub tidied : (t u : Table) → HasEntries t (undropped t.kept.entries) → u.kept.entries ≡ filter (λ (e : Hash32 × Option KeptTx). is_some e.1) t.kept.entries → IsUnique same_hash u.kept
    → u.spenders ≡ t.spenders → u.count ≡ t.count → u.bytes ≡ t.bytes → HasEntries u (undropped t.kept.entries)
tidied t u h is once takers count bytes = record {
  are = ap undropped is ∙ standing_full t.kept.entries;
  right = rw is (right_full t.kept.entries h.right);
  once = once;
  takers = λ o. ap (λ m. get same_outpoint m o) takers ∙ h.takers o;
  alone = rw takers h.alone;
  count = count ∙ h.count;
  bytes = bytes ∙ h.bytes;
}

-- the slots that are not empty are as many as the kept ones
length_full : (es : List Slot) → length (filter (λ (e : Hash32 × Option KeptTx). is_some e.1) es) ≡ length (undropped es)
length_full [] = refl
length_full ((q, None) ∷ es) = length_full es
length_full ((q, Some k) ∷ es) = let more = length_full es in omega (arith, more)

pub tidied_few : (es new : List Slot) (count : ℕ) → new ≡ filter (λ (e : Hash32 × Option KeptTx). is_some e.1) es
    → count ≡ length (undropped es) → length new ≤ count * 2 + 1
tidied_few es new count is counts = let size = ap length is in omega (arith, size, length_full es, counts)

-- the listings of one more are gone
pub one_more_unlisted : (t : Table) (new : BTreeSet Listing) (ids : List Hash32) (n : ℕ) (d : Hash32) (ks : List KeptTx)
    → n < length ids → HasEntries t (without_txids (take n ids) ks)
    → AreListed new (without_txids (get_or ids n d ∷ []) (undropped t.kept.entries)) → AreListed new (without_txids (take (n + 1) ids) ks)
one_more_unlisted t new ids n d ks lt before after =
    let cut = take_more ids n d lt in
    listed_as new (without_txids (get_or ids n d ∷ []) (undropped t.kept.entries)) (without_txids (take (n + 1) ids) ks) after
    (sym (ap (without_txids (get_or ids n d ∷ [])) before.are ∙ without_more (take n ids) (get_or ids n d) ks ∙ ap (λ l. without_txids l ks) (sym cut)))
