-- The unspent outputs of a script hash, where the same is seen of each transaction at it.
use Rattle.std.proofs.Common.{◌≡◌, ◌⊎◌, inl, inr, ℕ, ◌+◌, true, false, Bool, cond, not, ◌&&◌, ◌||◌, List, [], ◌∷◌, ◌++◌, length, Option, None, Some, refl, ap, sym, subst, ◌∙◌, append_assoc, length-append, arith}
use Rattle.std.proofs.lemmas.Bool.{cases_Bool, and_left, or_parts, or_cases, or_left, or_right, not-true, true≢false, false_from_ne_true, not_from_false}
use Rattle.std.proofs.lemmas.List.Elements.{filter-append}
use Rattle.std.proofs.lemmas.Option.{slice_get-get_or}
use Rattle.std.proofs.Math.Seq.{get_or-append_seam}
use Rattle.std.specs.List.{AllByRecursion, list_any, filter, flat_map}
use Rattle.std.specs.Prelude.{option_to_list, slice_get}
use Rattle.std.specs.Option.{option_or}
use Rattle.std.specs.Str.{bytes_eq}
use Rattle.el_base.specs.declared.hash.Hash32.{Hash32}
use Rattle.el_base.proofs.Lists.{all_mid}
use Rattle.el_tx.specs.declared.types.Outpoint.{Outpoint}
use Rattle.el_tx.specs.declared.types.TxIn.{TxIn}
use Rattle.el_tx.specs.declared.types.TxOut.{TxOut}
use Rattle.el_tx.specs.declared.types.Tx.{Tx}
use Rattle.el_tx.specs.Hashing.{txid, same_outpoint}
use Rattle.el_chain.specs.declared.coin.Coin.{Coin}
use Rattle.el_chain.specs.Chains.{Chain}
use Rattle.el_chain.specs.CoinLaws.{coins_made}
use Rattle.el_chain.specs.Coins.{script_hash_of}
use Rattle.el_chain.specs.Headers.{same_hash}
use Rattle.el_chain.specs.History.{funds}
use Rattle.el_chain.proofs.CoinLists.{same_gives}
use Rattle.el_mempool.specs.declared.held.Held.{Held}
use Rattle.el_mempool.specs.Sift.{coin_named, output_held, output_of, output_among, named, any_takes, is_taken, held_by, is_confirmed}
use Rattle.el_mempool.specs.Unconfirmed.{shown_cmp, by_shown, has_script, concerns_script, entry, made, pool_unspent}
use Rattle.el_mempool.proofs.Confirmed.{hash_self, hash_same, unconfirmed_none}
use Rattle.el_mempool.proofs.Dropping.{rest, output_apart, among_rest}
use Rattle.el_mempool.proofs.Ordered.{all_in_order, filter_in_order}
use Rattle.el_mempool.proofs.Picked.{where_both, Agree, KeysApart}
use Rattle.el_mempool.proofs.Changes.{seen, shown_total}

-- ---- each element of a list, with those before it and after it

each_from : {X : Type 0} (P : X → Type 0) (all pre xs : List X) → all ≡ pre ++ xs → ((front : List X) (x : X) (back : List X) → all ≡ front ++ x ∷ back → P x) → AllByRecursion P xs
each_from P all pre [] e f = tt
each_from P all pre (x ∷ xs) e f = (f pre x xs e, each_from P all (pre ++ x ∷ []) xs (e ∙ sym (append_assoc pre (x ∷ []) xs)) f)

pub each_in : {X : Type 0} (P : X → Type 0) (all : List X) → ((front : List X) (x : X) (back : List X) → all ≡ front ++ x ∷ back → P x) → AllByRecursion P all
each_in P all f = each_from P all [] all refl f

at_front : {X : Type 0} (P : X → Type 0) (all front : List X) (x : X) (back : List X) → all ≡ front ++ x ∷ back → AllByRecursion P all → P x
at_front {X} P all front x back whole h = all_mid P front x back (subst (λ (l : List X). AllByRecursion P l) whole h)

-- ---- what an output of a kept one is named as

front_apart : (front : List Tx) (t : Tx) (back : List Tx) → KeysApart txid (front ++ t ∷ back) → AllByRecursion (λ (u : Tx). txid u ≡ txid t → ⊥) front
front_apart [] t back h = tt
front_apart (u ∷ us) t back h = (all_mid (λ (v : Tx). txid u ≡ txid v → ⊥) us t back h.0, front_apart us t back h.1)

among_front : (o : Outpoint) (front ts : List Tx) (id : Hash32) → id ≡ o.txid → AllByRecursion (λ (u : Tx). txid u ≡ id → ⊥) front → output_among o (front ++ ts) ≡ output_among o ts
among_front o [] ts id is h = refl
among_front o (u ∷ us) ts id is h =
    let apart : same_hash (txid u) o.txid ≡ false = false_from_ne_true (same_hash (txid u) o.txid) (λ e. h.0 (hash_same (txid u) o.txid e ∙ sym is)) in
    ap (λ x. option_or x (output_among o (us ++ ts))) (output_apart o u apart) ∙ among_front o us ts id is h.1

named_here : (chain : Chain) (gone : Hash32 → Bool) (front : List Tx) (t : Tx) (back : List Tx) (o : Outpoint) (v : Held) → KeysApart txid (front ++ t ∷ back)
    → is_confirmed chain (txid t) ≡ false → gone (txid t) ≡ false → txid t ≡ o.txid → output_of o t ≡ Some v → named chain (rest gone (front ++ t ∷ back)) o ≡ Some v
named_here chain gone front t back o v apart fresh stays is has =
    let none : coin_named chain o ≡ None = unconfirmed_none chain o (ap (is_confirmed chain) (sym is) ∙ fresh) in
    let among : output_among o (rest gone (front ++ t ∷ back)) ≡ Some v =
    among_rest gone o (front ++ t ∷ back) (ap gone (sym is) ∙ stays)
    ∙ among_front o front (t ∷ back) (txid t) is (front_apart front t back apart)
    ∙ ap (λ x. option_or x (output_among o back)) has in
    ap (λ x. option_or x (output_among o (rest gone (front ++ t ∷ back)))) none ∙ among

-- inputs that take an outpoint hold what it names
takes_held : (chain : Chain) (kept : List Tx) (o : Outpoint) (v : Held) (s : List ℕ) (is : List TxIn) → any_takes o is ≡ true → named chain kept o ≡ Some v → has_script s v ≡ true
    → list_any (has_script s) (held_by chain kept is) ≡ true
takes_held chain kept o v s [] h is_named own = absurd (true≢false (sym h))
takes_held chain kept o v s (i ∷ is) h is_named own = by (or_cases (same_outpoint o i.from) (any_takes o is) h) (takes_held chain kept o v s is)
  where
    after : (x : Option Held) → list_any (has_script s) (held_by chain kept is) ≡ true → list_any (has_script s) (option_to_list x ++ held_by chain kept is) ≡ true
    after None more = more
    after (Some y) more = or_right (has_script s y) (list_any (has_script s) (held_by chain kept is)) more

    by : (same_outpoint o i.from ≡ true) ⊎ (any_takes o is ≡ true) → (any_takes o is ≡ true → named chain kept o ≡ Some v → has_script s v ≡ true → list_any (has_script s) (held_by chain kept is) ≡ true)
        → list_any (has_script s) (option_to_list (named chain kept i.from) ++ held_by chain kept is) ≡ true
    by (inl here) more =
        let e : named chain kept i.from ≡ Some v = ap (named chain kept) (sym (same_gives o i.from here)) ∙ is_named in
        ap (λ x. list_any (has_script s) (option_to_list x ++ held_by chain kept is)) e ∙ or_left (has_script s v) (list_any (has_script s) (held_by chain kept is)) own
    by (inr later) more = after (named chain kept i.from) (more later is_named own)

-- ---- whether an outpoint with the script hash is taken

some_both : {X Y : Type 0} (q p : X → Bool) (f : X → Y) (x : X) (y : Y) → where_both q p f x ≡ Some y → (q x ≡ true) × (p x ≡ true)
some_both q p f x y e = by (q x) (p x) e
  where
    by : (a b : Bool) → cond a (cond b (Some (f x)) None) None ≡ Some y → (a ≡ true) × (b ≡ true)
    by true true same = (refl, refl)
    by true false same = absurd (cc)
    by false b same = absurd (cc)

both_some : {X Y : Type 0} (q p : X → Bool) (f : X → Y) (x : X) → q x ≡ true → p x ≡ true → where_both q p f x ≡ Some (f x)
both_some q p f x a b = rw (a, b) refl

-- who takes it before takes it after
taken_after : (one two : Chain) (g h : Hash32 → Bool) (all : List Tx) (s : List ℕ) (o : Outpoint) (v : Held) (us : List Tx) → named one (rest g all) o ≡ Some v → has_script s v ≡ true
    → Agree (seen one g all s) (seen two h all s) us → is_taken o (rest g us) ≡ true → is_taken o (rest h us) ≡ true
taken_after one two g h all s o v [] is own same taken = taken
taken_after one two g h all s o v (u ∷ us) is own same taken = by (taken_after one two g h all s o v us is own same.1) (cases_Bool (h (txid u))) (cases_Bool (g (txid u)))
  where
    never : g (txid u) ≡ false → any_takes o u.inputs ≡ true → not (h (txid u)) ≡ true
    never stays here =
        let own_here : concerns_script one (rest g all) s u ≡ true = or_right (funds s u) (list_any (has_script s) (held_by one (rest g all) u.inputs)) (takes_held one (rest g all) o v s u.inputs here is own) in
        let now = both_some (λ (t : Tx). not (g (txid t))) (concerns_script one (rest g all) s) (entry one (rest g all)) u (not_from_false (g (txid u)) stays) own_here in
        let later : seen two h all s u ≡ Some (entry one (rest g all) u) = sym same.0 ∙ now in
        (some_both (λ (t : Tx). not (h (txid t))) (concerns_script two (rest h all) s) (entry two (rest h all)) u (entry one (rest g all) u) later).0

    said : g (txid u) ≡ false → (any_takes o u.inputs ≡ true) ⊎ (is_taken o (rest g us) ≡ true)
    said stays = let now = rw stays at taken in or_cases (any_takes o u.inputs) (is_taken o (rest g us)) now

    off_case : h (txid u) ≡ true → g (txid u) ≡ false → (any_takes o u.inputs ≡ true) ⊎ (is_taken o (rest g us) ≡ true) → is_taken o (rest g us) ≡ true
    off_case off stays (inl here) = absurd (true≢false (sym off ∙ not-true (h (txid u)) (never stays here)))
    off_case off stays (inr more) = more

    on_case : (is_taken o (rest g us) ≡ true → is_taken o (rest h us) ≡ true) → (any_takes o u.inputs ≡ true) ⊎ (is_taken o (rest g us) ≡ true) → (any_takes o u.inputs || is_taken o (rest h us)) ≡ true
    on_case after (inl here) = or_left (any_takes o u.inputs) (is_taken o (rest h us)) here
    on_case after (inr more) = or_right (any_takes o u.inputs) (is_taken o (rest h us)) (after more)

    by : (is_taken o (rest g us) ≡ true → is_taken o (rest h us) ≡ true) → (h (txid u) ≡ true) ⊎ (h (txid u) ≡ false) → (g (txid u) ≡ true) ⊎ (g (txid u) ≡ false) → is_taken o (rest h (u ∷ us)) ≡ true
    by after (inl off) (inl gone) = let more = rw gone at taken in rw off (after more)
    by after (inl off) (inr stays) = rw off (after (off_case off stays (said stays)))
    by after (inr on) (inl gone) = let more = rw gone at taken in rw on (or_right (any_takes o u.inputs) (is_taken o (rest h us)) (after more))
    by after (inr on) (inr stays) = rw on (on_case after (said stays))

pub two_ways : (a b : Bool) → (a ≡ true → b ≡ true) → (b ≡ true → a ≡ true) → a ≡ b
two_ways true b f g = sym (f refl)
two_ways false true f g = g refl
two_ways false false f g = refl

pub agree_back : {X Y : Type 0} (h k : X → Option Y) (xs : List X) → Agree h k xs → Agree k h xs
agree_back h k [] e = tt
agree_back h k (x ∷ xs) e = (sym e.0, agree_back h k xs e.1)

-- ---- the coins of one transaction

-- whether the coin is listed: it has the script hash, and no kept one takes it
abbrev pub is_listed : List Tx → List ℕ → Coin → Bool
is_listed kept s c = bytes_eq c.script.0 s && not (is_taken c.outpoint kept)

pub filter_agree : {X : Type 0} (p q : X → Bool) (xs : List X) → AllByRecursion (λ x. p x ≡ q x) xs → filter p xs ≡ filter q xs
filter_agree p q [] h = refl
filter_agree p q (x ∷ xs) h = let here = h.0 in rw here (by (q x) (filter_agree p q xs h.1))
  where
    by : (b : Bool) → filter p xs ≡ filter q xs → cond b (x ∷ filter p xs) (filter p xs) ≡ cond b (x ∷ filter q xs) (filter q xs)
    by true e = ap (λ l. x ∷ l) e
    by false e = e

pub filter_none : {X : Type 0} (p : X → Bool) (xs : List X) → AllByRecursion (λ x. p x ≡ false) xs → filter p xs ≡ []
filter_none p [] h = refl
filter_none p (x ∷ xs) h = let here = h.0 in rw here (filter_none p xs h.1)

-- no output has the script hash: none is listed
pub unfunded : (kept : List Tx) (s : List ℕ) (id : Hash32) (n : ℕ) (os : List TxOut) → list_any (λ (o : TxOut). bytes_eq (script_hash_of o) s) os ≡ false
    → AllByRecursion (λ (c : Coin). is_listed kept s c ≡ false) (coins_made id 0 n os)
unfunded kept s id n [] h = tt
unfunded kept s id n (o ∷ os) h =
    let parts = or_parts (bytes_eq (script_hash_of o) s) (list_any (λ (x : TxOut). bytes_eq (script_hash_of x) s) os) h in
    (and_left (bytes_eq (script_hash_of o) s) (not (is_taken (record { txid = id; index = n }) kept)) parts.0, unfunded kept s id (n + 1) os parts.1)

output_at : (id : Hash32) (t : Tx) (done : List TxOut) (o : TxOut) (os : List TxOut) (n : ℕ) → txid t ≡ id → t.outputs ≡ done ++ o ∷ os → length done ≡ n
    → output_of (record { txid = id; index = n }) t ≡ Some (output_held o)
output_at id t done o os n is outputs size =
    let same = hash_self (txid t) id is in
    let place : slice_get t.outputs n ≡ Some o =
    ap (λ l. slice_get l n) outputs ∙ ap (slice_get (done ++ o ∷ os)) (sym size)
    ∙ slice_get-get_or (done ++ o ∷ os) (length done) o (omega (arith, length-append done (o ∷ os)))
    ∙ ap Some (get_or-append_seam done o os o) in
    rw (same, place) refl

-- the coins of a transaction that is kept before and after
pub both_listed : (old new : List Tx) (s : List ℕ) (t : Tx) (id : Hash32) (done : List TxOut) (n : ℕ) (os : List TxOut) → txid t ≡ id → t.outputs ≡ done ++ os → length done ≡ n
    → ((o : Outpoint) (v : Held) → id ≡ o.txid → output_of o t ≡ Some v → has_script s v ≡ true → is_taken o old ≡ is_taken o new)
    → AllByRecursion (λ (c : Coin). is_listed old s c ≡ is_listed new s c) (coins_made id 0 n os)
both_listed old new s t id done n [] is outputs size same = tt
both_listed old new s t id done n (o ∷ os) is outputs size same = (
  by (bytes_eq (script_hash_of o) s) refl,
  both_listed old new s t id (done ++ o ∷ []) (n + 1) os is (outputs ∙ sym (append_assoc done (o ∷ []) os)) (omega (arith, length-append done (o ∷ []))) same,
)
  where
    by : (b : Bool) → bytes_eq (script_hash_of o) s ≡ b
        → (bytes_eq (script_hash_of o) s && not (is_taken (record { txid = id; index = n }) old)) ≡ (bytes_eq (script_hash_of o) s && not (is_taken (record { txid = id; index = n }) new))
    by true own = ap (λ x. bytes_eq (script_hash_of o) s && not x) (same (record { txid = id; index = n }) (output_held o) refl (output_at id t done o os n is outputs size) own)
    by false other = rw other refl

-- ---- all of them

-- what is listed of a transaction's coins
abbrev pub listed_of : (Hash32 → Bool) → List Tx → List ℕ → Tx → List Coin
listed_of gone all s t = cond (not (gone (txid t))) (filter (is_listed (rest gone all) s) (made t)) []

listed_in : (gone : Hash32 → Bool) (all : List Tx) (s : List ℕ) (ts : List Tx)
    → filter (is_listed (rest gone all) s) (flat_map made (filter (λ (t : Tx). not (gone (txid t))) ts)) ≡ flat_map (listed_of gone all s) ts
listed_in gone all s [] = refl
listed_in gone all s (t ∷ ts) = elim (cases_Bool (gone (txid t))) [
  | inl g ↦ rw g (listed_in gone all s ts)
  | inr g ↦ rw g (filter-append (is_listed (rest gone all) s) (made t) (flat_map made (filter (λ (u : Tx). not (gone (txid u))) ts)) ∙ ap (λ l. filter (is_listed (rest gone all) s) (made t) ++ l) (listed_in gone all s ts))
]

pub flat_agree : {X Y : Type 0} (f g : X → List Y) (xs : List X) → AllByRecursion (λ x. f x ≡ g x) xs → flat_map f xs ≡ flat_map g xs
flat_agree f g [] h = refl
flat_agree f g (x ∷ xs) h = ap (λ l. l ++ flat_map f xs) h.0 ∙ ap (λ l. g x ++ l) (flat_agree f g xs h.1)

-- none of those that are kept is in the chain
abbrev pub AreOver : Chain → (Hash32 → Bool) → List Tx → Type 0
AreOver chain gone all = AllByRecursion (λ (t : Tx). gone (txid t) ≡ false → is_confirmed chain (txid t) ≡ false) all

-- what is seen of it says that it is gone, or that no output has the script hash
unseen_funds : (chain : Chain) (gone : Hash32 → Bool) (all : List Tx) (s : List ℕ) (t : Tx) → gone (txid t) ≡ false → seen chain gone all s t ≡ None → funds s t ≡ false
unseen_funds chain gone all s t stays none = by (concerns_script chain (rest gone all) s t) refl
  where
    by : (b : Bool) → concerns_script chain (rest gone all) s t ≡ b → funds s t ≡ false
    by false e = (or_parts (funds s t) (list_any (has_script s) (held_by chain (rest gone all) t.inputs)) e).0
    by true e =
        let is = both_some (λ (u : Tx). not (gone (txid u))) (concerns_script chain (rest gone all) s) (entry chain (rest gone all)) t (not_from_false (gone (txid t)) stays) e in
        let bad : Some (entry chain (rest gone all) t) ≡ None = sym is ∙ none in absurd (cc)

gone_unseen : (chain : Chain) (gone : Hash32 → Bool) (all : List Tx) (s : List ℕ) (t : Tx) → gone (txid t) ≡ true → seen chain gone all s t ≡ None
gone_unseen chain gone all s t off = rw off refl

-- Where the same is seen of each transaction at a script hash, its unspent outputs are the same.
pub unspent_same : (one two : Chain) (g h : Hash32 → Bool) (all : List Tx) (s : List ℕ) → KeysApart txid all → AreOver one g all → AreOver two h all
    → Agree (seen one g all s) (seen two h all s) all → pool_unspent (rest g all) s ≡ pool_unspent (rest h all) s
unspent_same one two g h all s apart fresh_one fresh_two same =
    ap (λ l. filter (is_listed (rest g all) s) (flat_map made l)) (filter_in_order shown_cmp shown_total (λ (t : Tx). not (g (txid t))) all)
    ∙ listed_in g all s (by_shown all)
    ∙ flat_agree (listed_of g all s) (listed_of h all s) (by_shown all)
    (all_in_order shown_cmp (λ (t : Tx). listed_of g all s t ≡ listed_of h all s t) all (each_in (λ (t : Tx). listed_of g all s t ≡ listed_of h all s t) all each))
    ∙ sym (listed_in h all s (by_shown all))
    ∙ ap (λ l. filter (is_listed (rest h all) s) (flat_map made l)) (sym (filter_in_order shown_cmp shown_total (λ (t : Tx). not (h (txid t))) all))
  where
    back : Agree (seen two h all s) (seen one g all s) all
    back = agree_back (seen one g all s) (seen two h all s) all same

    one_way : (a b : Chain) (i j : Hash32 → Bool) → Agree (seen a i all s) (seen b j all s) all → AreOver a i all → (front : List Tx) (t : Tx) (more : List Tx) → all ≡ front ++ t ∷ more
        → i (txid t) ≡ false → (o : Outpoint) (v : Held) → txid t ≡ o.txid → output_of o t ≡ Some v → has_script s v ≡ true → is_taken o (rest i all) ≡ true → is_taken o (rest j all) ≡ true
    one_way a b i j agree over front t more whole stays o v is has own =
        let apart_here = rw whole at apart in
        let over_here = rw whole at over in
        let fresh = all_mid (λ (u : Tx). i (txid u) ≡ false → is_confirmed a (txid u) ≡ false) front t more over_here stays in
        let is_named : named a (rest i all) o ≡ Some v = ap (λ l. named a (rest i l) o) whole ∙ named_here a i front t more o v apart_here fresh stays is has in
        taken_after a b i j all s o v all is_named own agree

    each : (front : List Tx) (t : Tx) (more : List Tx) → all ≡ front ++ t ∷ more → listed_of g all s t ≡ listed_of h all s t
    each front t more whole = by (cases_Bool (g (txid t))) (cases_Bool (h (txid t)))
      where
        seen_here : seen one g all s t ≡ seen two h all s t
        seen_here = at_front (λ (u : Tx). seen one g all s u ≡ seen two h all s u) all front t more whole same

        by : (g (txid t) ≡ true) ⊎ (g (txid t) ≡ false) → (h (txid t) ≡ true) ⊎ (h (txid t) ≡ false) → listed_of g all s t ≡ listed_of h all s t
        by (inl a) (inl b) = rw (a, b) refl
        by (inl a) (inr b) =
            let none = filter_none (is_listed (rest h all) s) (made t) (unfunded (rest h all) s (txid t) 0 t.outputs (unseen_funds two h all s t b (sym seen_here ∙ gone_unseen one g all s t a))) in
            rw (a, b) (sym none)
        by (inr a) (inl b) =
            let none = filter_none (is_listed (rest g all) s) (made t) (unfunded (rest g all) s (txid t) 0 t.outputs (unseen_funds one g all s t a (seen_here ∙ gone_unseen two h all s t b))) in
            rw (a, b) none
        by (inr a) (inr b) =
            rw (a, b) (filter_agree (is_listed (rest g all) s) (is_listed (rest h all) s) (made t) (both_listed (rest g all) (rest h all) s t (txid t) [] 0 t.outputs refl refl refl
            (λ o v is has own. two_ways (is_taken o (rest g all)) (is_taken o (rest h all))
            (one_way one two g h same fresh_one front t more whole a o v is has own)
            (one_way two one h g back fresh_two front t more whole b o v is has own))))
