-- What the listings under a script hash tell is what clients see of the kept transactions.
use Rattle.std.proofs.Common.{◌≡◌, ◌⊎◌, inl, inr, ℕ, zero, suc, ◌+◌, ◌<◌, true, false, Bool, cond, not, ◌&&◌, ◌||◌, List, [], ◌∷◌, ◌++◌, length, Some, refl, ap, sym, subst, ◌∙◌, arith}
use Rattle.std.proofs.lemmas.Bool.{cases_Bool, and_parts, or_cases, or_parts, true≢false, false_from_ne_true}
use Rattle.std.proofs.lemmas.List.{append-nil, reverse-reverse}
use Rattle.std.proofs.lemmas.List.Elements.{filter-append}
use Rattle.std.proofs.lemmas.List.Kept.{IsStrictlySortedBy-filter}
use Rattle.std.specs.Prelude.{reverse, replicate, map, option_map, option_to_list}
use Rattle.std.specs.List.{AllByRecursion, list_any, find, filter, flat_map}
use Rattle.std.specs.List.Sorted.{IsStrictlySortedBy}
use Rattle.std.specs.Option.{is_some}
use Rattle.std.specs.declared.cmp.Ordering.{Ordering}
use Rattle.std.specs.declared.cmp.Ordering.TheVariants.{Less, Equal, Greater}
use Rattle.std.specs.declared.ops.Bound.TheVariants.{Included}
use Rattle.std.specs.Ordering.{is_eq, is_lt, is_gt, is_le, ordering_then, ordering_reverse, nat_cmp}
use Rattle.std.specs.Cmp.{IsTotalOrder, then_total, Equal-is}
use Rattle.std.specs.Cmp.Lexicographic.{slice_cmp, texts_ties}
use Rattle.std.proofs.lemmas.Cmp.{ranked, by_ranked, on_total, nat_list_cmp_total}
use Rattle.std.specs.Str.{bytes_eq}
use Rattle.std.specs.BTreeSet.{BTreeSet, keys}
use Rattle.std.specs.BTreeMap.Range.{range_contains}
use Rattle.indexmap.specs.IndexMap.{get}
use Rattle.el_base.specs.declared.hash.Hash32.{Hash32}
use Rattle.el_base.proofs.Lists.{all_both, all_filter}
use Rattle.el_tx.specs.declared.types.Outpoint.{Outpoint}
use Rattle.el_tx.specs.declared.types.TxOut.{TxOut}
use Rattle.el_tx.specs.declared.types.Tx.{Tx}
use Rattle.el_tx.specs.Hashing.{txid, same_outpoint}
use Rattle.el_chain.specs.Chains.{Chain}
use Rattle.el_chain.specs.CoinLaws.{coins_made}
use Rattle.el_chain.specs.Coins.{coin_made, script_hash_of}
use Rattle.el_chain.specs.Headers.{same_hash}
use Rattle.el_chain.specs.History.{funds}
use Rattle.el_mempool.specs.declared.held.KeptTx.{KeptTx}
use Rattle.el_mempool.specs.Sift.{output_held, is_taken, held_by}
use Rattle.el_mempool.specs.Refusals.{kept_with}
use Rattle.el_mempool.specs.Unconfirmed.{shown_cmp, by_shown, in_order, put, has_script, concerns_script, entry, made, pool_history, pool_unspent}
use Rattle.el_mempool.specs.Standing.{kept_tx, KeptStandFor}
use Rattle.el_mempool.proofs.Confirmed.{hash_self, hash_same}
use Rattle.el_mempool.proofs.Named.{all_named}
use Rattle.el_mempool.proofs.Ordered.{InOrder, ordered, all_in_order}
use Rattle.el_mempool.proofs.Picked.{KeysApart}
use Rattle.el_mempool.proofs.Changes.{shown_total, apart_from, keys_in_order, own_found, spender_taken}
use Rattle.el_mempool.proofs.Arrivals.{entry_at}
use Rattle.el_mempool.proofs.ShownOrder.{AreBytes, reversed_txid, reversed_length, shown_by_bytes}
use Rattle.el_mempool.proofs.Unspent.{is_listed, filter_none, unfunded}
use Rattle.el_kept.specs.declared.listing.Listing.{Listing}
use Rattle.el_kept.specs.declared.table.Table.{Table}
use Rattle.el_kept.specs.Tables.{undropped, by_txid, slot, slot_at_script, takes_from, HasEntries}
use Rattle.el_kept.specs.Listings.{unconfirmed_coin, listing_cmp, txid_of, listing, is_listing_of, is_in, AreListed, least_listing, greatest_listing, listings_under, entries_listed, pool_entry, outs_from}
use Rattle.el_kept.proofs.Entries.{entry_with, found_is, taker_is}
use Rattle.el_kept.proofs.Listed.{listed_is}

-- ---- sorted lists of the same elements are one

listing_total : IsTotalOrder listing_cmp
listing_total =
    then_total (on_total (λ (l : Listing). l.script.0) nat_list_cmp_total) (on_total (λ (l : Listing). l.reversed) nat_list_cmp_total)

abbrev the_listing : List ℕ → List ℕ → Listing
the_listing script reversed = record { script = record { 0 = script }; reversed = reversed }

-- two listings compare equal only where they are one
equal_listings : (a b : Listing) → is_eq (listing_cmp a b) ≡ true → a ≡ b
equal_listings a b h =
    let says : is_listing_of a.script (txid_of a) b ≡ true =
    sym (listed_is a.script (txid_of a) b)
    ∙ ap (λ r. is_eq (listing_cmp (the_listing a.script.0 r) b)) (reverse-reverse a.reversed) ∙ h in
    let parts = and_parts (same_hash a.script b.script) (same_hash (txid_of a) (txid_of b)) says in
    let one = ap (λ (x : Hash32). x.0) (hash_same a.script b.script parts.0) in
    let two = ap (λ (x : Hash32). reverse x.0) (hash_same (txid_of a) (txid_of b) parts.1) in
    ap (λ x. the_listing x a.reversed) one
    ∙ ap (the_listing b.script.0) (sym (reverse-reverse a.reversed) ∙ two ∙ reverse-reverse b.reversed)

abbrev pub is_among : Listing → List Listing → Bool
is_among q ls = list_any (λ l. is_eq (listing_cmp q l)) ls

itself : (a : Listing) → listing_cmp a a ≡ Equal
itself a = by (listing_cmp a a) (listing_total.antisymm a a)
  where
    by : (r : Ordering) → r ≡ ordering_reverse r → r ≡ Equal
    by Less e = absurd (cc)
    by Equal e = refl
    by Greater e = absurd (cc)

below_none : (x : Listing) (ys : List Listing) → AllByRecursion (λ y. listing_cmp x y ≡ Less) ys → is_among x ys ≡ false
below_none x [] h = refl
below_none x (y ∷ ys) h = let here = h.0 in rw here (below_none x ys h.1)

below_more : (x y : Listing) (zs : List Listing) → listing_cmp x y ≡ Less → AllByRecursion (λ z. listing_cmp y z ≡ Less) zs
    → AllByRecursion (λ z. listing_cmp x z ≡ Less) zs
below_more x y [] lt h = tt
below_more x y (z ∷ zs) lt h = (listing_total.trans x y z lt h.0, below_more x y zs lt h.1)

by_order : {P : Type 0} (r : Ordering) → (r ≡ Less → P) → (r ≡ Equal → P) → (r ≡ Greater → P) → P
by_order Less a b c = a refl
by_order Equal a b c = b refl
by_order Greater a b c = c refl

-- the least of the one list is among the other's
never_below : (x y : Listing) (xs ys : List Listing) → AllByRecursion (λ z. listing_cmp y z ≡ Less) ys
    → ((q : Listing) → is_among q (x ∷ xs) ≡ is_among q (y ∷ ys)) → listing_cmp x y ≡ Less → ⊥
never_below x y xs ys below same lt =
    let here : is_among x (x ∷ xs) ≡ true = let self = itself x in rw self refl in
    let there : is_among x (y ∷ ys) ≡ false = let off = below_more x y ys lt below in rw lt (below_none x ys off) in
    true≢false (sym here ∙ same x ∙ there)

tails_same : (x y : Listing) (xs ys : List Listing) → x ≡ y → AllByRecursion (λ z. listing_cmp x z ≡ Less) xs
    → AllByRecursion (λ z. listing_cmp y z ≡ Less) ys → ((q : Listing) → is_among q (x ∷ xs) ≡ is_among q (y ∷ ys))
    → (q : Listing) → is_among q xs ≡ is_among q ys
tails_same x y xs ys e one two same q = by (is_eq (listing_cmp q x)) refl
  where
    by : (b : Bool) → is_eq (listing_cmp q x) ≡ b → is_among q xs ≡ is_among q ys
    by true h =
        let is = equal_listings q x h in
        ap (λ z. is_among z xs) is ∙ below_none x xs one ∙ sym (below_none y ys two)
        ∙ ap (λ z. is_among z ys) (sym (is ∙ e))
    by false h =
        let other : is_eq (listing_cmp q y) ≡ false = ap (λ z. is_eq (listing_cmp q z)) (sym e) ∙ h in
        let all = same q in rw (h, other) at all

sorted_same : (xs ys : List Listing) → IsStrictlySortedBy listing_cmp xs → IsStrictlySortedBy listing_cmp ys
    → ((q : Listing) → is_among q xs ≡ is_among q ys) → xs ≡ ys
unfolding IsStrictlySortedBy
sorted_same [] [] h k same = refl
sorted_same [] (y ∷ ys) h k same = absurd (true≢false (sym (ap (λ r. is_eq r || is_among y ys) (itself y)) ∙ sym (same y)))
sorted_same (x ∷ xs) [] h k same = absurd (true≢false (sym (ap (λ r. is_eq r || is_among x xs) (itself x)) ∙ same x))
sorted_same (x ∷ xs) (y ∷ ys) h k same = by_order (listing_cmp x y)
    (λ lt. absurd (never_below x y xs ys k.0 same lt))
    (λ eq.
    let e = equal_listings x y (ap is_eq eq) in
    ap (λ z. z ∷ xs) e ∙ ap (λ l. y ∷ l) (sorted_same xs ys h.1 k.1 (tails_same x y xs ys e h.0 k.0 same)))
    (λ gt. absurd (never_below y x ys xs h.0 (λ q. sym (same q)) (listing_total.antisymm y x ∙ ap ordering_reverse gt)))

-- ---- what lies between the least and the greatest listing of a script hash

least_below : (n : ℕ) (xs : List ℕ) → length xs ≡ n → is_le (slice_cmp nat_cmp (replicate n 0) xs) ≡ true
least_below zero [] h = refl
least_below zero (x ∷ xs) h = absurd (omega (arith, h))
least_below (suc n) [] h = absurd (omega (arith, h))
least_below (suc n) (x ∷ xs) h =
    by_ranked (0 < x) (0 ≡ x) (x < 0) (nat_cmp 0 x) (ranked 0 x (nat_cmp 0 x) refl)
    (λ e lt. rw e refl) (λ e same. rw e (least_below n xs (omega (arith, h)))) (λ e lt. absurd (omega (arith, lt)))

greatest_above : (n : ℕ) (xs : List ℕ) → length xs ≡ n → AreBytes xs
    → is_lt (slice_cmp nat_cmp (replicate n 255) xs) ≡ false
greatest_above zero [] h k = refl
greatest_above zero (x ∷ xs) h k = absurd (omega (arith, h))
greatest_above (suc n) [] h k = absurd (omega (arith, h))
greatest_above (suc n) (x ∷ xs) h k =
    let byte = k.0 in
    by_ranked (255 < x) (255 ≡ x) (x < 255) (nat_cmp 255 x) (ranked 255 x (nat_cmp 255 x) refl)
    (λ e lt. absurd (omega (arith, lt, byte))) (λ e same. rw e (greatest_above n xs (omega (arith, h)) k.1)) (λ e lt. rw e refl)

scripts_compare : (a b : Hash32) → is_eq (slice_cmp nat_cmp a.0 b.0) ≡ same_hash a b
scripts_compare a b = sym (texts_ties a.0 b.0)

-- the range runs forward
pub least_first : (s : Hash32) → is_gt (listing_cmp (least_listing s) (greatest_listing s)) ≡ false
least_first s = ap (λ c. is_gt (ordering_then c (slice_cmp nat_cmp (replicate 32 0) (replicate 32 255))))
    ((Equal-is (slice_cmp nat_cmp s.0 s.0)).0 (scripts_compare s s ∙ hash_self s s refl))

between_other : (s : Hash32) (q : Listing) → same_hash s q.script ≡ false
    → range_contains listing_cmp (Included (least_listing s)) (Included (greatest_listing s)) q ≡ false
between_other s q off =
    by (slice_cmp nat_cmp s.0 q.script.0) (slice_cmp nat_cmp (replicate 32 0) q.reversed)
    (slice_cmp nat_cmp (replicate 32 255) q.reversed) (scripts_compare s q.script ∙ off)
  where
    by : (c x y : Ordering) → is_eq c ≡ false → (is_le (ordering_then c x) && not (is_lt (ordering_then c y))) ≡ false
    by Less x y e = refl
    by Equal x y e = absurd (true≢false e)
    by Greater x y e = refl

between_own : (s : Hash32) (q : Listing) → same_hash s q.script ≡ true → length q.reversed ≡ 32 → AreBytes q.reversed
    → range_contains listing_cmp (Included (least_listing s)) (Included (greatest_listing s)) q ≡ true
between_own s q own size bytes =
    by (slice_cmp nat_cmp s.0 q.script.0) (slice_cmp nat_cmp (replicate 32 0) q.reversed)
    (slice_cmp nat_cmp (replicate 32 255) q.reversed) (scripts_compare s q.script ∙ own) (least_below 32 q.reversed size)
    (greatest_above 32 q.reversed size bytes)
  where
    by : (c x y : Ordering) → is_eq c ≡ true → is_le x ≡ true → is_lt y ≡ false
        → (is_le (ordering_then c x) && not (is_lt (ordering_then c y))) ≡ true
    by Less x y e h k = absurd (true≢false (sym e))
    by Equal x y e h k = rw (h, k) refl
    by Greater x y e h k = absurd (true≢false (sym e))

-- ---- lists

any_filter : (q : Listing) (r : Listing → Bool) (ls : List Listing) → is_among q (filter r ls) ≡ (r q && is_among q ls)
any_filter q r [] = by (r q)
  where
    by : (b : Bool) → false ≡ (b && false)
    by true = refl
    by false = refl
any_filter q r (l ∷ ls) = by (r l) (is_eq (listing_cmp q l)) refl refl (any_filter q r ls)
  where
    flat : (b c : Bool) → (b && c) ≡ (b && (false || c))
    flat b c = refl

    by : (a b : Bool) → r l ≡ a → is_eq (listing_cmp q l) ≡ b → is_among q (filter r ls) ≡ (r q && is_among q ls)
        → is_among q (cond a (l ∷ filter r ls) (filter r ls)) ≡ (r q && (b || is_among q ls))
    by true true ra eq more =
        let own : r q ≡ true = ap r (equal_listings q l eq) ∙ ra in rw (eq, own) refl
    by true false ra eq more = rw eq more
    by false true ra eq more =
        let own : r q ≡ false = ap r (equal_listings q l eq) ∙ ra in more ∙ rw own refl
    by false false ra eq more = more

any_put : {X : Type 0} (R : X → X → Ordering) (p : X → Bool) (x : X) (ys : List X) → list_any p (put R x ys) ≡ (p x || list_any p ys)
any_put R p x [] = refl
any_put R p x (y ∷ ys) = elim (cases_Bool (is_gt (R x y))) [
  | inl g ↦ rw g (ap (λ b. p y || b) (any_put R p x ys) ∙ turned (p y) (p x) (list_any p ys))
  | inr g ↦ rw g refl
]
  where
    turned : (a b c : Bool) → (a || (b || c)) ≡ (b || (a || c))
    turned true true c = refl
    turned true false c = refl
    turned false true c = refl
    turned false false c = refl

any_in_order : {X : Type 0} (R : X → X → Ordering) (p : X → Bool) (xs : List X) → list_any p (in_order R xs) ≡ list_any p xs
any_in_order R p [] = refl
any_in_order R p (x ∷ xs) = any_put R p x (in_order R xs) ∙ ap (λ b. p x || b) (any_in_order R p xs)

any_mapped : {X : Type 0} (f : X → Listing) (p : X → Bool) (q : Listing) (xs : List X)
    → is_among q (map f (filter p xs)) ≡ list_any (λ x. p x && is_eq (listing_cmp q (f x))) xs
any_mapped f p q [] = refl
any_mapped f p q (x ∷ xs) = by (p x) (any_mapped f p q xs)
  where
    by : (b : Bool) → is_among q (map f (filter p xs)) ≡ list_any (λ y. p y && is_eq (listing_cmp q (f y))) xs
        → is_among q (map f (cond b (x ∷ filter p xs) (filter p xs)))
        ≡ ((b && is_eq (listing_cmp q (f x))) || list_any (λ y. p y && is_eq (listing_cmp q (f y))) xs)
    by true more = ap (λ b. is_eq (listing_cmp q (f x)) || b) more
    by false more = more

any_alike : {X : Type 0} (p q : X → Bool) (xs : List X) → ((x : X) → p x ≡ q x) → list_any p xs ≡ list_any q xs
any_alike p q [] h = refl
any_alike p q (x ∷ xs) h = ap (λ b. b || list_any p xs) (h x) ∙ ap (λ b. q x || b) (any_alike p q xs h)

any_never : {X : Type 0} (p : X → Bool) (xs : List X) → ((x : X) → p x ≡ false) → list_any p xs ≡ false
any_never p [] h = refl
any_never p (x ∷ xs) h = let here = h x in rw here (any_never p xs h)

sorted_mapped : {X : Type 0} (f : X → Listing) (xs : List X) → IsStrictlySortedBy (λ x y. listing_cmp (f x) (f y)) xs
    → IsStrictlySortedBy listing_cmp (map f xs)
unfolding IsStrictlySortedBy
sorted_mapped f [] h = tt
sorted_mapped {X = X} f (x ∷ xs) h = (all_mapped_below xs h.0, sorted_mapped f xs h.1)
  where
    all_mapped_below : (ys : List X) → AllByRecursion (λ y. listing_cmp (f x) (f y) ≡ Less) ys
        → AllByRecursion (λ l. listing_cmp (f x) l ≡ Less) (map f ys)
    all_mapped_below [] k = tt
    all_mapped_below (y ∷ ys) k = (k.0, all_mapped_below ys k.1)

-- ---- kept transactions

-- the transaction under the script hash
abbrev pub key : Hash32 → Tx → Listing
key s t = listing s (txid t)

keys_below : (s : Hash32) (t u : Tx) → is_gt (shown_cmp t u) ≡ false → (txid t ≡ txid u → ⊥) → listing_cmp (key s t) (key s u) ≡ Less
keys_below s t u up apart =
    let same = (Equal-is (slice_cmp nat_cmp s.0 s.0)).0 (scripts_compare s s ∙ hash_self s s refl) in
    let bytes = shown_by_bytes t u in
    let off : is_eq (listing_cmp (key s t) (key s u)) ≡ false =
    false_from_ne_true (is_eq (listing_cmp (key s t) (key s u))) (λ e. apart (txids t u (equal_listings (key s t) (key s u) e))) in
    let whole : listing_cmp (key s t) (key s u) ≡ shown_cmp t u = ap (λ c. ordering_then c (slice_cmp nat_cmp (reverse (txid t).0) (reverse (txid u).0))) same ∙ sym bytes in
    by (listing_cmp (key s t) (key s u)) off (ap is_gt whole ∙ up)
  where
    txids : (t u : Tx) → key s t ≡ key s u → txid t ≡ txid u
    txids t u e =
        let bytes = ap (λ (l : Listing). reverse l.reversed) e in
        hash_same (txid t) (txid u) (ap (λ x. bytes_eq x (txid u).0) (sym (reverse-reverse (txid t).0) ∙ bytes ∙ reverse-reverse (txid u).0) ∙ hash_self (txid u) (txid u) refl)

    by : (r : Ordering) → is_eq r ≡ false → is_gt r ≡ false → r ≡ Less
    by Less e g = refl
    by Equal e g = absurd (true≢false e)
    by Greater e g = absurd (true≢false g)

keys_sorted : (s : Hash32) (ts : List Tx) → InOrder shown_cmp ts → KeysApart txid ts
    → IsStrictlySortedBy (λ t u. listing_cmp (key s t) (key s u)) ts
unfolding IsStrictlySortedBy
keys_sorted s [] h k = tt
keys_sorted s (t ∷ ts) h k = (
  all_both (λ u. is_gt (shown_cmp t u) ≡ false) (λ u. txid t ≡ txid u → ⊥) (λ u. listing_cmp (key s t) (key s u) ≡ Less) ts
      (keys_below s t) h.0 k.0,
  keys_sorted s ts h.1 k.1,
)

apart_off : (p : Tx → Bool) (id : Hash32) (t : Tx) (ts : List Tx) → id ≡ txid t → AllByRecursion (λ (u : Tx). txid t ≡ txid u → ⊥) ts
    → list_any (λ u. p u && same_hash (txid u) id) ts ≡ false
apart_off p id t [] e h = refl
apart_off p id t (u ∷ us) e h =
    let off : same_hash (txid u) id ≡ false = false_from_ne_true (same_hash (txid u) id) (λ same. h.0 (sym (hash_same (txid u) id same ∙ e))) in
    rw off (by (p u) (apart_off p id t us e h.1))
  where
    by : (b : Bool) → list_any (λ v. p v && same_hash (txid v) id) us ≡ false → ((b && false) || list_any (λ v. p v && same_hash (txid v) id) us) ≡ false
    by true more = more
    by false more = more

-- the kept one with a txid concerns a script hash
slot_concerns : (chain : Chain) (all : List Tx) (s : List ℕ) (id : Hash32) (ts : List Tx) → KeysApart txid ts
    → slot_at_script s (option_map (kept_tx chain all) (kept_with id ts)) ≡ list_any (λ t. concerns_script chain all s t && same_hash (txid t) id) ts
slot_concerns chain all s id [] h = refl
slot_concerns chain all s id (t ∷ ts) h = by (same_hash id (txid t)) refl (slot_concerns chain all s id ts h.1)
  where
    last : (a : Bool) → a ≡ ((a && true) || false)
    last true = refl
    last false = refl

    off_last : (a b : Bool) → b ≡ ((a && false) || b)
    off_last true b = refl
    off_last false b = refl

    by : (b : Bool) → same_hash id (txid t) ≡ b
        → slot_at_script s (option_map (kept_tx chain all) (kept_with id ts)) ≡ list_any (λ u. concerns_script chain all s u && same_hash (txid u) id) ts
        → slot_at_script s (option_map (kept_tx chain all) (cond b (Some t) (kept_with id ts)))
        ≡ ((concerns_script chain all s t && same_hash (txid t) id) || list_any (λ u. concerns_script chain all s u && same_hash (txid u) id) ts)
    by true e more =
        let own : same_hash (txid t) id ≡ true = hash_self (txid t) id (sym (hash_same id (txid t) e)) in
        let rest = apart_off (concerns_script chain all s) id t ts (hash_same id (txid t) e) h.0 in
        entry_at chain all s t ∙ last (concerns_script chain all s t)
        ∙ ap (λ b. (concerns_script chain all s t && b) || false) (sym own)
        ∙ ap (λ b. (concerns_script chain all s t && same_hash (txid t) id) || b) (sym rest)
    by false e more =
        let own : same_hash (txid t) id ≡ false = false_from_ne_true (same_hash (txid t) id) (λ x. true≢false (sym (hash_self id (txid t) (sym (hash_same (txid t) id x))) ∙ e)) in
        more ∙ off_last (concerns_script chain all s t) (list_any (λ u. concerns_script chain all s u && same_hash (txid u) id) ts)
        ∙ ap (λ b. (concerns_script chain all s t && b) || list_any (λ u. concerns_script chain all s u && same_hash (txid u) id) ts) (sym own)

-- a listing with the txid of a kept one
bytes_of : (p : Tx → Bool) (q : Listing) (ts : List Tx) → list_any (λ t. p t && same_hash (txid t) (txid_of q)) ts ≡ true
    → (length q.reversed ≡ 32) × AreBytes q.reversed
bytes_of p q [] h = absurd (true≢false (sym h))
bytes_of p q (t ∷ ts) h = by (or_cases (p t && same_hash (txid t) (txid_of q)) (list_any (λ u. p u && same_hash (txid u) (txid_of q)) ts) h) (bytes_of p q ts)
  where
    by : ((p t && same_hash (txid t) (txid_of q)) ≡ true) ⊎ (list_any (λ u. p u && same_hash (txid u) (txid_of q)) ts ≡ true)
        → (list_any (λ u. p u && same_hash (txid u) (txid_of q)) ts ≡ true → (length q.reversed ≡ 32) × AreBytes q.reversed)
        → (length q.reversed ≡ 32) × AreBytes q.reversed
    by (inl e) more =
        let parts = and_parts (p t) (same_hash (txid t) (txid_of q)) e in
        let is : reverse (txid t).0 ≡ q.reversed = ap (λ (x : Hash32). reverse x.0) (hash_same (txid t) (txid_of q) parts.1) ∙ reverse-reverse q.reversed in
        (ap length (sym is) ∙ reversed_length t, subst AreBytes is (reversed_txid t))
    by (inr e) more = more e

-- ---- loops

-- nothing is left
pub at_end : {X : Type 0} (f : List Listing → List X) (found : List X) (left : List Listing) (whole : List X) → left ≡ []
    → f [] ≡ [] → found ++ f left ≡ whole → found ≡ whole
at_end f found left whole none empty before =
    sym (append-nil found) ∙ ap (λ l. found ++ l) (sym empty) ∙ ap (λ l. found ++ f l) (sym none) ∙ before

module _ (t : Table) (ls : BTreeSet Listing) (chain : Chain) (kept : List Tx) (s : Hash32) (is_table : HasEntries t (undropped t.kept.entries))
    (are_listed : AreListed ls (undropped t.kept.entries)) (stands : KeptStandFor (undropped t.kept.entries) chain kept)
    (sorted : IsStrictlySortedBy listing_cmp (keys ls)) where
  apart : KeysApart txid kept
  apart = apart_from kept stands.once

  -- those that concern the script hash, by their shown txids
  abbrev concerned : List Tx
  concerned = filter (concerns_script chain kept s.0) (by_shown kept)

  in_listings : (q : Listing) → is_in ls q ≡ list_any (λ u. concerns_script chain kept q.script.0 u && same_hash (txid u) (txid_of q)) kept
  in_listings q =
      are_listed q ∙ ap (λ ks. slot_at_script q.script.0 (by_txid (txid_of q) ks)) stands.are
      ∙ ap (slot_at_script q.script.0) (entry_with (txid_of q) chain kept kept) ∙ slot_concerns chain kept q.script.0 (txid_of q) kept apart

  turned : (a b : Listing) → is_eq (listing_cmp a b) ≡ is_eq (listing_cmp b a)
  turned a b = ap is_eq (listing_total.antisymm a b) ∙ by (listing_cmp b a)
    where
      by : (r : Ordering) → is_eq (ordering_reverse r) ≡ is_eq r
      by Less = refl
      by Equal = refl
      by Greater = refl

  in_concerned : (q : Listing) → is_among q (map (key s) concerned)
      ≡ list_any (λ u. concerns_script chain kept s.0 u && (same_hash s q.script && same_hash (txid u) (txid_of q))) kept
  in_concerned q =
      any_mapped (key s) (concerns_script chain kept s.0) q (by_shown kept)
      ∙ any_in_order shown_cmp (λ u. concerns_script chain kept s.0 u && is_eq (listing_cmp q (key s u))) kept
      ∙ any_alike (λ u. concerns_script chain kept s.0 u && is_eq (listing_cmp q (key s u)))
      (λ u. concerns_script chain kept s.0 u && (same_hash s q.script && same_hash (txid u) (txid_of q))) kept
      (λ u. ap (λ b. concerns_script chain kept s.0 u && b) (turned q (key s u) ∙ listed_is s (txid u) q))

  same_members : (q : Listing) → is_among q (listings_under s ls) ≡ is_among q (map (key s) concerned)
  same_members q =
      any_filter q (range_contains listing_cmp (Included (least_listing s)) (Included (greatest_listing s))) (keys ls)
      ∙ ap (λ b. range_contains listing_cmp (Included (least_listing s)) (Included (greatest_listing s)) q && b) (in_listings q)
      ∙ by (same_hash s q.script) refl ∙ sym (in_concerned q)
    where
      never : (a b : Bool) → (a && (false && b)) ≡ false
      never true b = refl
      never false b = refl

      by : (b : Bool) → same_hash s q.script ≡ b
          → (range_contains listing_cmp (Included (least_listing s)) (Included (greatest_listing s)) q && list_any (λ u. concerns_script chain kept q.script.0 u && same_hash (txid u) (txid_of q)) kept)
          ≡ list_any (λ u. concerns_script chain kept s.0 u && (same_hash s q.script && same_hash (txid u) (txid_of q))) kept
      by false off =
          ap (λ b. b && list_any (λ u. concerns_script chain kept q.script.0 u && same_hash (txid u) (txid_of q)) kept) (between_other s q off)
          ∙ sym (any_never (λ u. concerns_script chain kept s.0 u && (same_hash s q.script && same_hash (txid u) (txid_of q))) kept
          (λ u. ap (λ b. concerns_script chain kept s.0 u && (b && same_hash (txid u) (txid_of q))) off ∙ never (concerns_script chain kept s.0 u) (same_hash (txid u) (txid_of q))))
      by true own =
          inner (list_any (λ u. concerns_script chain kept q.script.0 u && same_hash (txid u) (txid_of q)) kept) refl
          ∙ ap (λ (x : Hash32). list_any (λ u. concerns_script chain kept x.0 u && same_hash (txid u) (txid_of q)) kept) (sym (hash_same s q.script own))
          ∙ any_alike (λ u. concerns_script chain kept s.0 u && same_hash (txid u) (txid_of q))
          (λ u. concerns_script chain kept s.0 u && (same_hash s q.script && same_hash (txid u) (txid_of q))) kept
          (λ u. ap (λ b. concerns_script chain kept s.0 u && (b && same_hash (txid u) (txid_of q))) (sym own))
        where
          inner : (b : Bool) → list_any (λ u. concerns_script chain kept q.script.0 u && same_hash (txid u) (txid_of q)) kept ≡ b
              → (range_contains listing_cmp (Included (least_listing s)) (Included (greatest_listing s)) q && b) ≡ b
          inner true is =
              let bytes = bytes_of (concerns_script chain kept q.script.0) q kept is in
              ap (λ b. b && true) (between_own s q own bytes.0 bytes.1)
          inner false is = drop_false (range_contains listing_cmp (Included (least_listing s)) (Included (greatest_listing s)) q)
            where
              drop_false : (b : Bool) → (b && false) ≡ false
              drop_false true = refl
              drop_false false = refl

  listings_are : listings_under s ls ≡ map (key s) concerned
  listings_are =
      sorted_same (listings_under s ls) (map (key s) concerned)
      (IsStrictlySortedBy-filter listing_cmp (range_contains listing_cmp (Included (least_listing s)) (Included (greatest_listing s))) (keys ls) sorted)
      (sorted_mapped (key s) concerned
      (IsStrictlySortedBy-filter (λ u v. listing_cmp (key s u) (key s v)) (concerns_script chain kept s.0) (by_shown kept)
      (keys_sorted s (by_shown kept) (ordered shown_cmp shown_total kept) (keys_in_order kept apart))))
      same_members

  entry_here : (u : Tx) → kept_with (txid u) kept ≡ Some u → slot t (txid_of (key s u)) ≡ Some (kept_tx chain kept u)
  entry_here u is =
      ap (λ x. slot t (record { 0 = x })) (reverse-reverse (txid u).0)
      ∙ found_is t chain kept (txid u) is_table stands ∙ ap (option_map (kept_tx chain kept)) is

  all_here : AllByRecursion (λ (u : Tx). kept_with (txid u) kept ≡ Some u) concerned
  all_here = all_filter (λ (u : Tx). kept_with (txid u) kept ≡ Some u) (concerns_script chain kept s.0) (by_shown kept)
      (all_in_order shown_cmp (λ (u : Tx). kept_with (txid u) kept ≡ Some u) kept (own_found kept apart))

  each_here : (us : List Tx) → AllByRecursion (λ (u : Tx). kept_with (txid u) kept ≡ Some u) us → entries_listed t (map (key s) us) ≡ map (kept_tx chain kept) us
  each_here [] h = refl
  each_here (u ∷ us) h =
      ap (λ x. option_to_list x ++ entries_listed t (map (key s) us)) (entry_here u h.0) ∙ ap (λ l. kept_tx chain kept u ∷ l) (each_here us h.1)

  entries_are : entries_listed t (listings_under s ls) ≡ map (kept_tx chain kept) concerned
  entries_are = ap (entries_listed t) listings_are ∙ each_here concerned all_here

  seen_are : (us : List Tx) → map pool_entry (map (kept_tx chain kept) us) ≡ map (entry chain kept) us
  seen_are [] = refl
  seen_are (u ∷ us) = ap (λ l. entry chain kept u ∷ l) (seen_are us)

  pub history_told : map pool_entry (entries_listed t (listings_under s ls)) ≡ pool_history chain kept s.0
  history_told = ap (map pool_entry) entries_are ∙ seen_are concerned

  taken_by : (o : Outpoint) → is_some (get same_outpoint t.spenders o) ≡ is_taken o kept
  taken_by o =
      ap is_some (is_table.takers o ∙ ap (λ ks. option_map (λ (k : KeptTx). k.txid) (find (takes_from o) ks)) stands.are
      ∙ taker_is o chain kept kept (all_named chain kept stands.sifted)) ∙ spender_taken o kept

  outs_are : (id : Hash32) (n : ℕ) (os : List TxOut) → outs_from t s id n (map output_held os) ≡ filter (is_listed kept s.0) (coins_made id 0 n os)
  outs_are id n [] = refl
  outs_are id n (o ∷ os) =
      let here = taken_by (record { txid = id; index = n }) in
      rw here (by (bytes_eq (script_hash_of o) s.0 && not (is_taken (record { txid = id; index = n }) kept)) (outs_are id (n + 1) os))
    where
      by : (b : Bool) → outs_from t s id (n + 1) (map output_held os) ≡ filter (is_listed kept s.0) (coins_made id 0 (n + 1) os)
          → cond b (unconfirmed_coin (record { txid = id; index = n }) (output_held o) ∷ outs_from t s id (n + 1) (map output_held os)) (outs_from t s id (n + 1) (map output_held os))
          ≡ cond b (coin_made id 0 n o ∷ filter (is_listed kept s.0) (coins_made id 0 (n + 1) os)) (filter (is_listed kept s.0) (coins_made id 0 (n + 1) os))
      by true more = ap (λ l. coin_made id 0 n o ∷ l) more
      by false more = more

  each_outs : (us : List Tx) → flat_map (λ (k : KeptTx). outs_from t s k.txid 0 k.outputs) (map (kept_tx chain kept) (filter (concerns_script chain kept s.0) us))
      ≡ filter (is_listed kept s.0) (flat_map made us)
  each_outs [] = refl
  each_outs (u ∷ us) = by (concerns_script chain kept s.0 u) refl (each_outs us) ∙ sym (filter-append (is_listed kept s.0) (made u) (flat_map made us))
    where
      by : (b : Bool) → concerns_script chain kept s.0 u ≡ b
          → flat_map (λ (k : KeptTx). outs_from t s k.txid 0 k.outputs) (map (kept_tx chain kept) (filter (concerns_script chain kept s.0) us)) ≡ filter (is_listed kept s.0) (flat_map made us)
          → flat_map (λ (k : KeptTx). outs_from t s k.txid 0 k.outputs) (map (kept_tx chain kept) (cond b (u ∷ filter (concerns_script chain kept s.0) us) (filter (concerns_script chain kept s.0) us)))
          ≡ filter (is_listed kept s.0) (made u) ++ filter (is_listed kept s.0) (flat_map made us)
      by true e more =
          ap (λ l. l ++ flat_map (λ (k : KeptTx). outs_from t s k.txid 0 k.outputs) (map (kept_tx chain kept) (filter (concerns_script chain kept s.0) us))) (outs_are (txid u) 0 u.outputs)
          ∙ ap (λ l. filter (is_listed kept s.0) (made u) ++ l) more
      by false e more =
          let unfounded = (or_parts (funds s.0 u) (list_any (has_script s.0) (held_by chain kept u.inputs)) e).0 in
          let none = filter_none (is_listed kept s.0) (made u) (unfunded kept s.0 (txid u) 0 u.outputs unfounded) in
          more ∙ ap (λ l. l ++ filter (is_listed kept s.0) (flat_map made us)) (sym none)

  pub unspent_told : flat_map (λ (k : KeptTx). outs_from t s k.txid 0 k.outputs) (entries_listed t (listings_under s ls)) ≡ pool_unspent kept s.0
  unspent_told = ap (flat_map (λ (k : KeptTx). outs_from t s k.txid 0 k.outputs)) entries_are ∙ each_outs (by_shown kept)
