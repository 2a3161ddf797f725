-- Which of some txids a chain has.
use Rattle.std.proofs.Common.{◌≡◌, true, false, Bool, ◌&&◌, ◌||◌, List, [], ◌∷◌, ◌++◌, map, Option, None, Some, ℕ, ◌+◌, ◌<◌, ◌≤◌, length, drop, get_or, refl, ap, sym, ◌∙◌, append_assoc, append-nil, subst}
use Rattle.std.proofs.lemmas.List.{drop_all, drop_more}
use Rattle.std.specs.Prelude.{option_to_list, Result, Ok, Err, IfOk}
use Rattle.el_model.specs.declared.fault.QueryFault.{QueryFault}
use Rattle.std.specs.List.Sorted.{IsPermutation}
use Rattle.std.proofs.lemmas.List.Sorted.{list_any-IsPermutation}
use Rattle.std.proofs.lemmas.Bool.{or_right}
use Rattle.el_base.specs.declared.hash.Hash32.{Hash32}
use Rattle.el_chain.specs.Chains.{Chain}
use Rattle.el_chain.specs.Headers.{same_hash}
use Rattle.el_mempool.specs.declared.held.KeptTx.{KeptTx}
use Rattle.el_mempool.specs.Sift.{is_confirmed}
use Rattle.el_mempool.proofs.Confirmed.{hash_self, hash_same}
use Rattle.el_chain.specs.declared.node.Spot.{Spot}
use Rattle.el_model.specs.Queries.{find_tx}
use Rattle.std.specs.Option.{is_some}
use Rattle.el_kept.proofs.Lookups.{confirmed_is}
use Rattle.el_kept.specs.Tables.{undropped, has}
use Rattle.el_kept.proofs.Slots.{Slot}
use Rattle.el_sift.specs.within.Renewal.{Knows, KnowsAll}

-- one more is asked: what is found, what is left, what it is
table : (old s p r : Bool) → ((old || (s && p)) || (p && r)) ≡ (old || (p && (s || r)))
table true s p r = refl
table false true true r = refl
table false true false r = refl
table false false true r = refl
table false false false r = refl

same_answer : (p : Hash32 → Bool) (x id : Hash32) → (same_hash x id && p id) ≡ (same_hash x id && p x)
same_answer p x id = by (same_hash x id) refl
  where
    by : (b : Bool) → same_hash x id ≡ b → (b && p id) ≡ (b && p x)
    by true e = ap p (sym (hash_same x id e))
    by false e = refl

pub one_asked : (chain : Chain) (x id : Hash32) (old now : List Hash32) (rest all : List Hash32)
    → has now x ≡ (has old x || (same_hash x id && is_confirmed chain id))
    → (has old x || (is_confirmed chain x && has (id ∷ rest) x)) ≡ (is_confirmed chain x && has all x)
    → (has now x || (is_confirmed chain x && has rest x)) ≡ (is_confirmed chain x && has all x)
one_asked chain x id old now rest all is h =
    ap (λ b. b || (is_confirmed chain x && has rest x)) (is ∙ ap (λ b. has old x || b) (same_answer (is_confirmed chain) x id))
    ∙ table (has old x) (same_hash x id) (is_confirmed chain x) (has rest x) ∙ h

none_right : (a p : Bool) → (a || (p && false)) ≡ a
none_right true p = refl
none_right false true = refl
none_right false false = refl

pub all_asked : (chain : Chain) (x : Hash32) (found rest all : List Hash32) → rest ≡ []
    → (has found x || (is_confirmed chain x && has rest x)) ≡ (is_confirmed chain x && has all x) → has found x ≡ (is_confirmed chain x && has all x)
all_asked chain x found rest all none h =
    sym (none_right (has found x) (is_confirmed chain x)) ∙ ap (λ l. has found x || (is_confirmed chain x && has l x)) (sym none) ∙ h

and_true : (p b : Bool) → b ≡ true → (p && b) ≡ p
and_true true b e = e
and_true false b e = refl

-- those of the entries are told
pub are_told : (chain : Chain) (found : List Hash32) (ks : List KeptTx)
    → ((x : Hash32) → has (map (λ (k : KeptTx). k.txid) ks) x ≡ true → has found x ≡ is_confirmed chain x) → KnowsAll chain found ks
are_told chain found [] h = tt
are_told chain found (k ∷ ks) h = (
  h k.txid (ap (λ b. b || has (map (λ (x : KeptTx). x.txid) ks) k.txid) (hash_self k.txid k.txid refl)),
  are_told chain found ks (λ x in_rest. h x (or_right (same_hash x k.txid) (has (map (λ (y : KeptTx). y.txid) ks) x) in_rest)),
)

pub told_all : (chain : Chain) (found ids : List Hash32) (ks : List KeptTx)
    → ((x : Hash32) → has ids x ≡ has (map (λ (k : KeptTx). k.txid) ks) x)
    → ((x : Hash32) → has found x ≡ (is_confirmed chain x && has ids x)) → KnowsAll chain found ks
told_all chain found ids ks same h = are_told chain found ks (λ x in_all. h x ∙ and_true (is_confirmed chain x) (has ids x) (same x ∙ in_all))

-- ---- the txids of the slots one after the other
abbrev pub ids_of : List Slot → List Hash32
ids_of ss = map (λ (k : KeptTx). k.txid) (undropped ss)

pub begun : (ids : List Hash32) (all ss : List Slot) → ids ≡ [] → ss ≡ all → ids ++ ids_of ss ≡ ids_of all
begun ids all ss none same = ap (λ l. l ++ ids_of ss) none ∙ ap ids_of same

pub one_more : (ids more : List Hash32) (s t all : List Slot) (id : Hash32) (slot : Option KeptTx) (k : KeptTx) → s ≡ (id, slot) ∷ t → slot ≡ Some k → more ≡ ids ++ k.txid ∷ []
    → ids ++ ids_of s ≡ ids_of all → more ++ ids_of t ≡ ids_of all
one_more ids more s t all id slot k first some pushed h =
    let is : undropped s ≡ k ∷ undropped t = ap undropped first ∙ ap (λ x. option_to_list x ++ undropped t) some in
    ap (λ l. l ++ ids_of t) pushed ∙ append_assoc ids (k.txid ∷ []) (ids_of t) ∙ sym (ap (λ (l : List KeptTx). ids ++ map (λ (x : KeptTx). x.txid) l) is) ∙ h

pub one_empty : (ids : List Hash32) (s t all : List Slot) (id : Hash32) (slot : Option KeptTx) → s ≡ (id, slot) ∷ t → slot ≡ None → ids ++ ids_of s ≡ ids_of all → ids ++ ids_of t ≡ ids_of all
one_empty ids s t all id slot first none h =
    let is : undropped s ≡ undropped t = ap undropped first ∙ ap (λ x. option_to_list x ++ undropped t) none in
    sym (ap (λ (l : List KeptTx). ids ++ map (λ (x : KeptTx). x.txid) l) is) ∙ h

pub all_sorted : (x : Hash32) (ids sorted : List Hash32) (s all : List Slot) → s ≡ [] → ids ++ ids_of s ≡ ids_of all → IsPermutation ids sorted → has sorted x ≡ has (ids_of all) x
all_sorted x ids sorted s all none h same =
    sym (list_any-IsPermutation (same_hash x) ids sorted same) ∙ ap (λ l. has l x) (sym (append-nil ids) ∙ ap (λ l. ids ++ ids_of l) (sym none) ∙ h)

-- ---- what is asked of one
pub asked_yes : (chain : Chain) (x id : Hash32) (found : Option Spot) (old now : List Hash32) → found ≡ find_tx chain id → is_some found ≡ true → has now x ≡ (has old x || same_hash x id)
    → has now x ≡ (has old x || (same_hash x id && is_confirmed chain id))
asked_yes chain x id found old now is some h =
    let yes : is_confirmed chain id ≡ true = sym (confirmed_is chain id) ∙ ap is_some (sym is) ∙ some in
    h ∙ ap (λ b. has old x || b) (sym (and_true (same_hash x id) true refl)) ∙ ap (λ b. has old x || (same_hash x id && b)) (sym yes)

pub asked_no : (chain : Chain) (x id : Hash32) (found : Option Spot) (old : List Hash32) → found ≡ find_tx chain id → is_some found ≡ false
    → has old x ≡ (has old x || (same_hash x id && is_confirmed chain id))
asked_no chain x id found old is none =
    let no : is_confirmed chain id ≡ false = sym (confirmed_is chain id) ∙ ap is_some (sym is) ∙ none in
    sym (none_right (has old x) (same_hash x id)) ∙ ap (λ b. has old x || (same_hash x id && b)) (sym no)

-- ---- the txids one after the other
pub first_asked : (chain : Chain) (x : Hash32) (found ids : List Hash32) → found ≡ [] → (has found x || (is_confirmed chain x && has (drop 0 ids) x)) ≡ (is_confirmed chain x && has ids x)
first_asked chain x found ids none = ap (λ l. has l x || (is_confirmed chain x && has ids x)) none

pub next_asked : (chain : Chain) (x : Hash32) (ids : List Hash32) (i : ℕ) (d : Hash32) (old now : List Hash32) → i < length ids
    → has now x ≡ (has old x || (same_hash x (get_or ids i d) && is_confirmed chain (get_or ids i d)))
    → (has old x || (is_confirmed chain x && has (drop i ids) x)) ≡ (is_confirmed chain x && has ids x)
    → (has now x || (is_confirmed chain x && has (drop (i + 1) ids) x)) ≡ (is_confirmed chain x && has ids x)
next_asked chain x ids i d old now lt is h =
    one_asked chain x (get_or ids i d) old now (drop (i + 1) ids) ids is
    (ap (λ l. has old x || (is_confirmed chain x && has l x)) (sym (drop_more ids i d lt)) ∙ h)

pub all_over : (chain : Chain) (x : Hash32) (ids : List Hash32) (i : ℕ) (found : List Hash32) → length ids ≤ i
    → (has found x || (is_confirmed chain x && has (drop i ids) x)) ≡ (is_confirmed chain x && has ids x) → has found x ≡ (is_confirmed chain x && has ids x)
all_over chain x ids i found le h = all_asked chain x found (drop i ids) ids (drop_all i ids le) h

pub if_told : (chain : Chain) (r : Result (List Hash32) QueryFault) (slice ids : List Hash32) (ks : List KeptTx) → slice ≡ ids
    → ((x : Hash32) → has ids x ≡ has (map (λ (k : KeptTx). k.txid) ks) x)
    → ((x : Hash32) → IfOk r (λ found. has found x ≡ (is_confirmed chain x && has slice x))) → IfOk r (λ found. KnowsAll chain found ks)
if_told chain (Ok found) slice ids ks cut same h = told_all chain found slice ks (λ x. ap (λ l. has l x) cut ∙ same x) h
if_told chain (Err e) slice ids ks cut same h = tt

-- ---- and of the entries
pub first_told : (chain : Chain) (confirmed : List Hash32) (s t : List Slot) (id : Hash32) (slot : Option KeptTx) (k : KeptTx) → s ≡ (id, slot) ∷ t → slot ≡ Some k
    → KnowsAll chain confirmed (undropped s) → Knows chain confirmed k × KnowsAll chain confirmed (undropped t)
first_told chain confirmed s t id slot k first some h =
    let is : undropped s ≡ k ∷ undropped t = ap undropped first ∙ ap (λ x. option_to_list x ++ undropped t) some in
    subst (λ (l : List KeptTx). KnowsAll chain confirmed l) is h

pub rest_told : (chain : Chain) (confirmed : List Hash32) (s t : List Slot) (id : Hash32) (slot : Option KeptTx) → s ≡ (id, slot) ∷ t → slot ≡ None
    → KnowsAll chain confirmed (undropped s) → KnowsAll chain confirmed (undropped t)
rest_told chain confirmed s t id slot first none h =
    let is : undropped s ≡ undropped t = ap undropped first ∙ ap (λ x. option_to_list x ++ undropped t) none in
    subst (λ (l : List KeptTx). KnowsAll chain confirmed l) is h
