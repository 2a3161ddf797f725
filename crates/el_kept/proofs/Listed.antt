-- Sets of listings: what one more or one less says of the others, and of which entries they are then.
use Rattle.std.proofs.Common.{◌≡◌, ℕ, ◌+◌, ◌<◌, true, false, Bool, cond, not, ◌&&◌, ◌||◌, List, [], ◌∷◌, ◌++◌, length, zero, suc, take, get_or, Option, None, Some, Bor, Result, Ok, Err, refl, ap, sym, ◌∙◌}
use Rattle.std.proofs.lemmas.Bool.{true≢false}
use Rattle.std.proofs.lemmas.Bool.Decides.{same_from_decides}
use Rattle.std.proofs.lemmas.List.{append-nil, reverse-reverse}
use Rattle.std.proofs.lemmas.List.Folds.{find-append, list_any_more}
use Rattle.std.proofs.Math.Seq.{take-nil}
use Rattle.std.proofs.lemmas.Slice.Eq.{bytes_eq-Decides}
use Rattle.std.specs.Prelude.{reverse, option_copied}
use Rattle.std.specs.List.{list_any}
use Rattle.std.specs.Option.{option_or, option_flatten}
use Rattle.std.specs.Result.{OnOk, OnErr}
use Rattle.std.specs.declared.cmp.Ordering.{Ordering}
use Rattle.std.specs.declared.cmp.Ordering.TheVariants.{Less, Equal, Greater}
use Rattle.std.specs.Ordering.{is_eq, ordering_then, nat_cmp}
use Rattle.std.specs.Cmp.Lexicographic.{slice_cmp, texts_ties}
use Rattle.std.specs.Str.{bytes_eq}
use Rattle.std.specs.BTreeSet.{BTreeSet}
use Rattle.indexmap.specs.IndexMap.{get}
use Rattle.el_base.specs.declared.hash.Hash32.{Hash32}
use Rattle.el_chain.specs.Headers.{same_hash}
use Rattle.el_mempool.specs.declared.held.KeptTx.{KeptTx}
use Rattle.el_mempool.specs.Standing.{is_at_script}
use Rattle.el_mempool.proofs.Confirmed.{hash_self, hash_same, hash_turned}
use Rattle.el_kept.specs.declared.listing.Listing.{Listing}
use Rattle.el_kept.specs.declared.table.Table.{Table}
use Rattle.el_kept.specs.Tables.{undropped, by_txid, slot_at_script, without_txids, HasEntries, HaveSameEntries}
use Rattle.el_kept.proofs.Entries.{found_standing}
use Rattle.el_kept.specs.Listings.{listing_cmp, txid_of, listing, is_listing_of, is_in, AreListed}

-- ---- one listing is another

same_then : (a b : Ordering) → is_eq (ordering_then a b) ≡ (is_eq a && is_eq b)
same_then Less b = refl
same_then Equal b = refl
same_then Greater b = refl

same_bytes : (xs ys : List ℕ) → is_eq (slice_cmp nat_cmp xs ys) ≡ bytes_eq xs ys
same_bytes xs ys = sym (texts_ties xs ys)

turned_bytes : (xs ys : List ℕ) → bytes_eq (reverse xs) ys ≡ bytes_eq xs (reverse ys)
turned_bytes xs ys =
    let d = bytes_eq-Decides (reverse xs) ys in
    same_from_decides {P = xs ≡ reverse ys} (bytes_eq (reverse xs) ys) (bytes_eq xs (reverse ys))
    (λ e. sym (reverse-reverse xs) ∙ ap reverse (d.0 e), λ e. d.1 (ap reverse e ∙ reverse-reverse ys))
    (bytes_eq-Decides xs (reverse ys))

pub listed_is : (script id : Hash32) (l : Listing) → is_eq (listing_cmp (listing script id) l) ≡ is_listing_of script id l
listed_is script id l =
    same_then (slice_cmp nat_cmp script.0 l.script.0) (slice_cmp nat_cmp (reverse id.0) l.reversed)
    ∙ ap (λ b. b && is_eq (slice_cmp nat_cmp (reverse id.0) l.reversed)) (same_bytes script.0 l.script.0)
    ∙ ap (λ b. bytes_eq script.0 l.script.0 && b) (same_bytes (reverse id.0) l.reversed ∙ turned_bytes id.0 l.reversed)

-- ---- loops

-- one more of a list that a listing is tested by
pub tested_more : {X : Type 0} (p : X → Bool) (c v : Bool) (xs : List X) (i : ℕ) (d : X) (now mid first : Bool)
    → i < length xs → now ≡ cond (p (get_or xs i d) && c) v mid
    → mid ≡ cond (list_any p (take i xs) && c) v first → now ≡ cond (list_any p (take (i + 1) xs) && c) v first
tested_more p c v xs i d now mid first lt is before =
    is ∙ ap (cond (p (get_or xs i d) && c) v) before
    ∙ by (p (get_or xs i d)) (list_any p (take i xs)) c
    ∙ ap (λ b. cond (b && c) v first) (sym (list_any_more p xs i d lt))
  where
    by : (a b c : Bool) → cond (a && c) v (cond (b && c) v first) ≡ cond ((b || a) && c) v first
    by true true true = refl
    by true true false = refl
    by true false true = refl
    by true false false = refl
    by false true true = refl
    by false true false = refl
    by false false c = refl

-- where none of all is it, none of the first ones is
pub others_stay : {X : Type 0} (p : X → Bool) (c v old new : Bool) (xs : List X) (i : ℕ)
    → new ≡ cond (list_any p (take i xs) && c) v old → (list_any p xs && c) ≡ false → new ≡ old
others_stay {X = X} p c v old new xs i is none = is ∙ by (list_any p (take i xs)) c refl none
  where
    first_of : (n : ℕ) (ys : List X) → list_any p (take n ys) ≡ true → list_any p ys ≡ true
    first_of n [] h = absurd (true≢false (sym h ∙ ap (list_any p) (take-nil n)))
    first_of zero (y ∷ ys) h = absurd (true≢false (sym h))
    first_of (suc n) (y ∷ ys) h = by_or (p y) (list_any p (take n ys)) (list_any p ys) h (first_of n ys)
      where
        by_or : (a b d : Bool) → (a || b) ≡ true → (b ≡ true → d ≡ true) → (a || d) ≡ true
        by_or true b d e f = refl
        by_or false b d e f = f e

    by : (a b : Bool) → list_any p (take i xs) ≡ a → (list_any p xs && b) ≡ false → cond (a && b) v old ≡ old
    by true true e none = absurd (true≢false (sym (ap (λ x. x && true) (first_of i xs e)) ∙ none))
    by true false e none = refl
    by false true e none = refl
    by false false e none = refl

pub both_tests : (a b c old mid new : Bool) → mid ≡ cond (a && c) false old → new ≡ cond (b && c) false mid
    → (c ≡ true → old ≡ (a || b)) → new ≡ cond c false old
both_tests a b c old mid new first second says = second ∙ ap (cond (b && c) false) first ∙ by a b c says
  where
    by : (a b c : Bool) → (c ≡ true → old ≡ (a || b)) → cond (b && c) false (cond (a && c) false old) ≡ cond c false old
    by true true true h = refl
    by true false true h = refl
    by false true true h = refl
    by false false true h = h refl
    by true true false h = refl
    by true false false h = refl
    by false true false h = refl
    by false false false h = refl

pub one_test : (a c old new : Bool) → new ≡ cond (a && c) false old → (c ≡ true → old ≡ a) → new ≡ cond c false old
one_test a c old new is says = is ∙ by a c says
  where
    by : (a c : Bool) → (c ≡ true → old ≡ a) → cond (a && c) false old ≡ cond c false old
    by true true h = refl
    by false true h = h refl
    by true false h = refl
    by false false h = refl

pub one_added : (a c old new : Bool) → new ≡ cond (a && c) true old → (c ≡ true → old ≡ false) → new ≡ cond c a old
one_added a c old new is says = is ∙ by a c says
  where
    by : (a c : Bool) → (c ≡ true → old ≡ false) → cond (a && c) true old ≡ cond c a old
    by true true h = refl
    by false true h = h refl
    by true false h = refl
    by false false h = refl

-- what may have come is taken away again
pub taken_back : (a c old mid new : Bool) → new ≡ cond (a && c) false mid → ((a && c) ≡ false → mid ≡ old)
    → (c ≡ true → old ≡ false) → new ≡ old
taken_back a c old mid new is stays none = is ∙ by a c stays none
  where
    by : (a c : Bool) → ((a && c) ≡ false → mid ≡ old) → (c ≡ true → old ≡ false) → cond (a && c) false mid ≡ old
    by true true stays none = sym (none refl)
    by true false stays none = stays refl
    by false true stays none = stays refl
    by false false stays none = stays refl

-- what came is taken away again
pub taken_off : (a c old mid new : Bool) → mid ≡ cond c a old → new ≡ cond c false mid → (c ≡ true → old ≡ false) → new ≡ old
taken_off a c old mid new first second none = second ∙ ap (cond c false) first ∙ by c none
  where
    by : (c : Bool) → (c ≡ true → old ≡ false) → cond c false (cond c a old) ≡ old
    by true none = sym (none refl)
    by false none = refl

pub own_when : {c : Bool} (a old new : Bool) → new ≡ cond c a old → c ≡ true → new ≡ a
own_when a old new is same = is ∙ ap (λ b. cond b a old) same

-- ---- entries by their txids

pub found_txid : (id : Hash32) (ks : List KeptTx) (k : KeptTx) → by_txid id ks ≡ Some k → k.txid ≡ id
found_txid id [] k h = absurd (cc)
found_txid id (x ∷ xs) k h = by (same_hash id x.txid) refl h (found_txid id xs k)
  where
    one : (x k : KeptTx) → Some x ≡ Some k → x ≡ k
    one x k e = cc

    by : (b : Bool) → same_hash id x.txid ≡ b → cond b (Some x) (by_txid id xs) ≡ Some k
        → (by_txid id xs ≡ Some k → k.txid ≡ id) → k.txid ≡ id
    by true s e more = ap (λ (y : KeptTx). y.txid) (sym (one x k e)) ∙ sym (hash_same id x.txid s)
    by false s e more = more e

pub found_in : (ks rest : List KeptTx) (e : KeptTx) → by_txid e.txid ks ≡ None → by_txid e.txid (ks ++ e ∷ rest) ≡ Some e
found_in ks rest e none =
    let whole = find-append (λ (k : KeptTx). same_hash e.txid k.txid) ks (e ∷ rest) in
    let own = hash_self e.txid e.txid refl in
    whole ∙ ap (λ x. option_or x (by_txid e.txid (e ∷ rest))) none ∙ ap (λ b. cond b (Some e) (by_txid e.txid rest)) own

pub found_off : (id : Hash32) (ks rest : List KeptTx) (e : KeptTx) → same_hash id e.txid ≡ false
    → by_txid id (ks ++ e ∷ rest) ≡ by_txid id (ks ++ rest)
found_off id ks rest e off =
    find-append (λ (k : KeptTx). same_hash id k.txid) ks (e ∷ rest)
    ∙ ap (λ b. option_or (by_txid id ks) (cond b (Some e) (by_txid id rest))) off
    ∙ sym (find-append (λ (k : KeptTx). same_hash id k.txid) ks rest)

found_none : (id : Hash32) (ks rest : List KeptTx) → by_txid id ks ≡ None → by_txid id rest ≡ None
    → by_txid id (ks ++ rest) ≡ None
found_none id ks rest none also =
    find-append (λ (k : KeptTx). same_hash id k.txid) ks rest
    ∙ ap (λ x. option_or x (by_txid id rest)) none ∙ also

without_found : (id x : Hash32) (ks : List KeptTx)
    → by_txid id (without_txids (x ∷ []) ks) ≡ cond (same_hash id x) None (by_txid id ks)
without_found id x [] = by (same_hash id x)
  where
    by : (b : Bool) → ◌≡◌ {A = Option KeptTx} None (cond b None None)
    by true = refl
    by false = refl
without_found id x (k ∷ ks) =
    by (same_hash k.txid x) (same_hash id k.txid) (same_hash id x) refl refl refl (without_found id x ks)
  where
    Goal : Bool → Bool → Bool → Type 0
    Goal a b c = by_txid id (cond (not (a || false)) (k ∷ without_txids (x ∷ []) ks) (without_txids (x ∷ []) ks))
        ≡ cond c None (cond b (Some k) (by_txid id ks))

    by : (a b c : Bool) → same_hash k.txid x ≡ a → same_hash id k.txid ≡ b → same_hash id x ≡ c
        → by_txid id (without_txids (x ∷ []) ks) ≡ cond (same_hash id x) None (by_txid id ks) → Goal a b c
    by true b true sa sb sc more = more ∙ ap (λ y. cond y None (by_txid id ks)) sc
    by true true false sa sb sc more =
        absurd (true≢false (sym (ap (same_hash id) (sym (hash_same k.txid x sa)) ∙ sb) ∙ sc))
    by true false false sa sb sc more = more ∙ ap (λ y. cond y None (by_txid id ks)) sc
    by false true true sa sb sc more =
        absurd (true≢false (sym (ap (λ y. same_hash y x) (sym (hash_same id k.txid sb)) ∙ sc) ∙ sa))
    by false true false sa sb sc more = rw sb refl
    by false false c sa sb sc more = rw sb (more ∙ ap (λ y. cond y None (by_txid id ks)) sc)

-- ---- of which entries they are

-- its listings are those of the entry
pub own_listings : (ls : BTreeSet Listing) (ks : List KeptTx) (x : Option KeptTx) (id : Hash32) → AreListed ls ks
    → by_txid id ks ≡ x → (l : Listing) → same_hash id (txid_of l) ≡ true → is_in ls l ≡ slot_at_script l.script.0 x
own_listings ls ks x id h is l same =
    h l ∙ ap (λ y. slot_at_script l.script.0 (by_txid y ks)) (sym (hash_same id (txid_of l) same))
    ∙ ap (slot_at_script l.script.0) is

-- the others' listings are those of the others
abbrev pub AreOthers : BTreeSet Listing → Hash32 → List KeptTx → Type 0
AreOthers ls id ks = (l : Listing) → same_hash id (txid_of l) ≡ false
    → is_in ls l ≡ slot_at_script l.script.0 (by_txid (txid_of l) ks)

pub others_of : (ls : BTreeSet Listing) (ks rest : List KeptTx) (e : KeptTx) → AreListed ls (ks ++ e ∷ rest)
    → AreOthers ls e.txid (ks ++ rest)
others_of ls ks rest e h l off =
    h l ∙ ap (slot_at_script l.script.0) (found_off (txid_of l) ks rest e (hash_turned (txid_of l) e.txid ∙ off))

pub others_all : (ls : BTreeSet Listing) (id : Hash32) (ks : List KeptTx) → AreListed ls ks → AreOthers ls id (ks ++ [])
others_all ls id ks h l off = h l ∙ ap (λ x. slot_at_script l.script.0 (by_txid (txid_of l) x)) (sym (append-nil ks))

pub listed_in : (old new : BTreeSet Listing) (ks rest : List KeptTx) (e : KeptTx) → AreOthers old e.txid (ks ++ rest)
    → by_txid e.txid ks ≡ None
    → ((l : Listing) → is_in new l ≡ cond (same_hash e.txid (txid_of l)) (is_at_script l.script.0 e) (is_in old l))
    → AreListed new (ks ++ e ∷ rest)
listed_in old new ks rest e others none is l = is l ∙ by (same_hash e.txid (txid_of l)) refl
  where
    by : (b : Bool) → same_hash e.txid (txid_of l) ≡ b
        → cond b (is_at_script l.script.0 e) (is_in old l) ≡ slot_at_script l.script.0 (by_txid (txid_of l) (ks ++ e ∷ rest))
    by true s =
        ap (slot_at_script l.script.0) (sym (found_in ks rest e none))
        ∙ ap (λ y. slot_at_script l.script.0 (by_txid y (ks ++ e ∷ rest))) (hash_same e.txid (txid_of l) s)
    by false s =
        others l s
        ∙ ap (slot_at_script l.script.0) (sym (found_off (txid_of l) ks rest e (hash_turned (txid_of l) e.txid ∙ s)))

pub listed_out : (old new : BTreeSet Listing) (ks rest : List KeptTx) (id : Hash32) → AreOthers old id (ks ++ rest)
    → by_txid id ks ≡ None → by_txid id rest ≡ None
    → ((l : Listing) → is_in new l ≡ cond (same_hash id (txid_of l)) false (is_in old l)) → AreListed new (ks ++ rest)
listed_out old new ks rest id others none also is l = is l ∙ by (same_hash id (txid_of l)) refl
  where
    by : (b : Bool) → same_hash id (txid_of l) ≡ b
        → cond b false (is_in old l) ≡ slot_at_script l.script.0 (by_txid (txid_of l) (ks ++ rest))
    by true s =
        ap (slot_at_script l.script.0) (sym (found_none id ks rest none also))
        ∙ ap (λ y. slot_at_script l.script.0 (by_txid y (ks ++ rest))) (hash_same id (txid_of l) s)
    by false s = others l s

pub listed_without : (old new : BTreeSet Listing) (ks : List KeptTx) (id : Hash32) → AreListed old ks
    → ((l : Listing) → is_in new l ≡ cond (same_hash id (txid_of l)) false (is_in old l))
    → AreListed new (without_txids (id ∷ []) ks)
listed_without old new ks id h is l =
    is l ∙ by (same_hash id (txid_of l)) (hash_turned (txid_of l) id)
    ∙ ap (slot_at_script l.script.0) (sym (without_found (txid_of l) id ks))
  where
    by : (b : Bool) → same_hash (txid_of l) id ≡ b
        → cond b false (is_in old l) ≡ slot_at_script l.script.0 (cond (same_hash (txid_of l) id) None (by_txid (txid_of l) ks))
    by true s = rw s refl
    by false s = rw s (h l)

-- after an entry was put and listed, or neither
pub after_listed : {A E : Type 0} (r : Result A E) (t u : Table) (ls : BTreeSet Listing) (k : KeptTx)
    → OnOk r (HasEntries u (undropped t.kept.entries ++ k ∷ [])) → OnErr r (HaveSameEntries t u)
    → OnOk r (AreListed ls (undropped t.kept.entries ++ k ∷ [])) → OnErr r (AreListed ls (undropped t.kept.entries))
    → AreListed ls (undropped u.kept.entries)
after_listed (Ok x) t u ls k put same listed as_before = let is = put.are in rw is listed
after_listed (Err e) t u ls k put same listed as_before = let is = same.kept in rw is as_before

-- ---- look-ups

pub kept_found : (t : Table) (id : Hash32) (x : Option (Bor KeptTx)) (b : Bor KeptTx) → HasEntries t (undropped t.kept.entries)
    → option_copied x ≡ option_flatten (get same_hash t.kept id) → x ≡ Some b → by_txid id (undropped t.kept.entries) ≡ Some b.now
kept_found t id x b h says is = sym (found_standing id t.kept.entries h.right h.once) ∙ sym says ∙ ap option_copied is

pub kept_none : (t : Table) (id : Hash32) (x : Option (Bor KeptTx)) → HasEntries t (undropped t.kept.entries)
    → option_copied x ≡ option_flatten (get same_hash t.kept id) → x ≡ None → by_txid id (undropped t.kept.entries) ≡ None
kept_none t id x h says is = sym (found_standing id t.kept.entries h.right h.once) ∙ sym says ∙ ap option_copied is

-- the listings of an entry that is found
pub found_listings : (ls : BTreeSet Listing) (ks : List KeptTx) (id : Hash32) (k : KeptTx) → AreListed ls ks
    → by_txid id ks ≡ Some k → (l : Listing) → same_hash k.txid (txid_of l) ≡ true → is_in ls l ≡ is_at_script l.script.0 k
found_listings ls ks id k h found l same =
    own_listings ls ks (Some k) k.txid h (ap (λ x. by_txid x ks) (found_txid id ks k found) ∙ found) l same

pub found_out : (old new : BTreeSet Listing) (ks : List KeptTx) (id : Hash32) (k : KeptTx) → AreListed old ks
    → by_txid id ks ≡ Some k → ((l : Listing) → is_in new l ≡ cond (same_hash k.txid (txid_of l)) false (is_in old l))
    → AreListed new (without_txids (id ∷ []) ks)
found_out old new ks id k h found is =
    listed_without old new ks id h
    (λ l. is l ∙ ap (λ x. cond (same_hash x (txid_of l)) false (is_in old l)) (found_txid id ks k found))

pub listed_as : (ls : BTreeSet Listing) (ks us : List KeptTx) → AreListed ls ks → us ≡ ks → AreListed ls us
listed_as ls ks us h e l = h l ∙ ap (λ x. slot_at_script l.script.0 (by_txid (txid_of l) x)) (sym e)
