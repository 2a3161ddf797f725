-- A walk over a chain, step by step: lists that grow, coins that are put in, entries that are listed.
use Rattle.std.proofs.Common.{◌≡◌, ◌≢◌, ℕ, ◌+◌, ◌<◌, ◌≤◌, Bool, true, false, cond, ◌||◌, ◌&&◌, not, List, [], ◌∷◌, ◌++◌, length, take, drop, get_or, Option, None, Some, refl, ap, sym, ◌∙◌, append_assoc, append-nil, true≢false}
use Rattle.std.proofs.Math.Bool.{or-false}
use Rattle.std.proofs.lemmas.List.{get_or_default, drop_all}
use Rattle.std.proofs.lemmas.List.Elements.{filter-append}
use Rattle.std.proofs.lemmas.List.Folds.{list_any-append}
use Rattle.std.specs.List.{AllByRecursion, flat_map, list_any}
use Rattle.std.specs.Prelude.{option_to_list, if◌then◌else◌}
use Rattle.std.specs.Str.{bytes_eq}
use Rattle.sha2.specs.Sha256.{sha256}
use Rattle.el_base.specs.declared.hash.Hash32.{Hash32}
use Rattle.el_base.proofs.Lists.{all_mid, left_at, taken_at, cut_at}
use Rattle.indexmap.specs.IndexMap.{IndexMap}
use Rattle.el_tx.specs.declared.types.Outpoint.{Outpoint}
use Rattle.el_tx.specs.declared.types.TxIn.{TxIn}
use Rattle.el_tx.specs.declared.types.TxOut.{TxOut}
use Rattle.el_tx.specs.declared.types.Tx.{Tx}
use Rattle.el_block.specs.Blocks.{AllDiffer}
use Rattle.el_chain.specs.declared.placed.Placed.{Placed}
use Rattle.el_chain.specs.declared.coin.Coin.{Coin}
use Rattle.el_chain.specs.declared.entry.Entry.{Entry}
use Rattle.el_chain.specs.Chains.{Chain}
use Rattle.el_chain.specs.CoinLaws.{coins_made}
use Rattle.el_chain.specs.Coins.{script_hash_of, without, add_coin, spend_inputs, coin_made, add_outputs, coins_after, coins_after_all, coins_from}
use Rattle.el_chain.specs.Headers.{same_hash}
use Rattle.el_chain.specs.Listings.{entry_listed, listed_in, listed_from}
use Rattle.el_chain.proofs.Histories.{blocks_listed}
use Rattle.el_chain.proofs.TouchLemmas.{hash_gives, hash_from, same_turned}
use Rattle.el_audit.specs.within.Lists.{grown}
use Rattle.el_audit.specs.within.OwnCoins.{AreOwn, coins_with, put_coins}

-- ---- lists that grow

pub grown_none : {T : Type 0} (list : Option (List T)) → grown list [] ≡ list
grown_none None = refl
grown_none (Some list) = ap (λ l. Some l) (append-nil list)

pub grown_more : {T : Type 0} (list : Option (List T)) (a b : List T) → grown (grown list a) b ≡ grown list (a ++ b)
grown_more None a b = refl
grown_more (Some list) a b = ap (λ l. Some l) (append_assoc list a b)

-- a value is added to the list of one script hash, which may have none
pub added_none : {T : Type 0} (look : Hash32 → Option (List T)) (x s : Hash32) (v : T) → look x ≡ None → look s ≡ (if same_hash x s then grown (look s) (v ∷ []) else look s)
added_none {T} look x s v none = by (same_hash x s) refl
  where
    by : (b : Bool) → same_hash x s ≡ b → look s ≡ (if same_hash x s then grown (look s) (v ∷ []) else look s)
    by false e = rw e refl
    by true e = let is = hash_gives x s e in let gone = rw is at none in rw (e, gone) refl

-- ---- an entry for each of some script hashes

not_before : (x : Hash32) (xs ys : List Hash32) → AllDiffer (xs ++ x ∷ ys) → list_any (same_hash x) xs ≡ false
not_before x [] ys h = refl
not_before x (y ∷ xs) ys h = by (same_hash x y) refl (not_before x xs ys h.1)
  where
    by : (b : Bool) → same_hash x y ≡ b → list_any (same_hash x) xs ≡ false → (same_hash x y || list_any (same_hash x) xs) ≡ false
    by false e rest = rw e rest
    by true e rest = absurd (all_mid (λ z. y ≢ z) xs x ys h.0 (sym (hash_gives x y e)))

pub entered_more : (scripts : List Hash32) (i : ℕ) (x d s : Hash32) (e : Entry) (old mid new : Option (List Entry)) → i < length scripts → x ≡ get_or scripts i d → AllDiffer scripts
    → mid ≡ grown old (if list_any (same_hash s) (take i scripts) then e ∷ [] else []) → new ≡ (if same_hash x s then grown mid (e ∷ []) else mid)
    → new ≡ grown old (if list_any (same_hash s) (take (i + 1) scripts) then e ∷ [] else [])
entered_more scripts i x d s e old mid new lt is' once so more =
    more ∙ by (same_hash x s) refl
  where
    is : x ≡ get_or scripts i x
    is = is' ∙ get_or_default scripts i d x lt

    any_more : list_any (same_hash s) (take (i + 1) scripts) ≡ (list_any (same_hash s) (take i scripts) || same_hash s x)
    any_more = ap (list_any (same_hash s)) (taken_at scripts i x lt is) ∙ list_any-append (same_hash s) (take i scripts) (x ∷ []) ∙ ap (λ (b : Bool). list_any (same_hash s) (take i scripts) || b) (or-false (same_hash s x))

    fresh : list_any (same_hash x) (take i scripts) ≡ false
    fresh = let parts = cut_at scripts i x lt is in let differ = rw parts at once in not_before x (take i scripts) (drop (i + 1) scripts) differ

    other : same_hash x s ≡ false → same_hash s x ≡ false
    other f = over (same_hash s x) refl
      where
        over : (b : Bool) → same_hash s x ≡ b → same_hash s x ≡ false
        over false g = g
        over true g = absurd (true≢false (sym (hash_from x s (sym (hash_gives s x g))) ∙ f))

    by : (b : Bool) → same_hash x s ≡ b → (if same_hash x s then grown mid (e ∷ []) else mid) ≡ grown old (if list_any (same_hash s) (take (i + 1) scripts) then e ∷ [] else [])
    by false f =
        let none = other f in
        let any = any_more ∙ ap (λ (b : Bool). list_any (same_hash s) (take i scripts) || b) none ∙ or-false (list_any (same_hash s) (take i scripts)) in
        rw (f, any) so
    by true f =
        let same = hash_gives x s f in
        let none : list_any (same_hash s) (take i scripts) ≡ false = ap (λ h. list_any (same_hash h) (take i scripts)) (sym same) ∙ fresh in
        let any : list_any (same_hash s) (take (i + 1) scripts) ≡ true = any_more ∙ ap (λ (b : Bool). b || same_hash s x) none ∙ hash_from s x (sym same) in
        let before : mid ≡ grown old [] = so ∙ ap (λ (b : Bool). grown old (if b then e ∷ [] else [])) none in
        rw (f, any) (ap (λ l. grown l (e ∷ [])) before ∙ grown_more old [] (e ∷ []))

-- ---- coins that are made and put in

pub coin_is : (id script : Hash32) (height index : ℕ) (o : TxOut) → script.0 ≡ sha256 o.script
    → record { outpoint = record { txid = id; index = index }; value = o.value; script = script; height = height } ≡ coin_made id height index o
coin_is id script height index o is =
    ap (λ (bytes : List ℕ). record { outpoint = record { txid = id; index = index }; value = o.value; script = record { 0 = bytes }; height = height }) is

pub made_step : (id : Hash32) (height n : ℕ) (outputs : List TxOut) (o : TxOut) (made new : List Coin) (coin : Coin) (whole : List Coin) → n < length outputs → o ≡ get_or outputs n o
    → made ++ coins_made id height n (drop n outputs) ≡ whole → new ≡ made ++ coin ∷ [] → coin ≡ coin_made id height n o
    → new ++ coins_made id height (n + 1) (drop (n + 1) outputs) ≡ whole
made_step id height n outputs o made new coin whole lt is so more coin_so =
    let left = left_at outputs n o lt is in
    let rest = coins_made id height (n + 1) (drop (n + 1) outputs) in
    ap (λ (l : List Coin). l ++ rest) (more ∙ ap (λ (c : Coin). made ++ c ∷ []) coin_so)
    ∙ append_assoc made (coin_made id height n o ∷ []) rest
    ∙ ap (λ (os : List TxOut). made ++ coins_made id height n os) (sym left) ∙ so

pub put_step : (made : List Coin) (n : ℕ) (c d : Coin) (coins : List Coin) → n < length made → c ≡ get_or made n d → put_coins (drop n made) coins ≡ put_coins (drop (n + 1) made) (add_coin c coins)
put_step made n c d coins lt is =
    let left = left_at made n c lt (is ∙ get_or_default made n d c lt) in
    rw left refl

pub put_outputs : (id : Hash32) (height n : ℕ) (outputs : List TxOut) (coins : List Coin) → put_coins (coins_made id height n outputs) coins ≡ add_outputs id height n outputs coins
put_outputs id height n [] coins = refl
put_outputs id height n (o ∷ os) coins = put_outputs id height (n + 1) os (add_coin (coin_made id height n o) coins)

-- the script hashes of the coins that outputs make
pub made_funds : (s id : Hash32) (height n : ℕ) (outputs : List TxOut)
    → list_any (λ (c : Coin). same_hash s c.script) (coins_made id height n outputs) ≡ list_any (λ (o : TxOut). bytes_eq (script_hash_of o) s.0) outputs
made_funds s id height n [] = refl
made_funds s id height n (o ∷ os) =
    ap (λ (b : Bool). b || list_any (λ (c : Coin). same_hash s c.script) (coins_made id height (n + 1) os)) (same_turned s (record { 0 = script_hash_of o }))
    ∙ ap (λ (b : Bool). bytes_eq (script_hash_of o) s.0 || b) (made_funds s id height (n + 1) os)

-- one more value of the table was looked at
pub kept_more : (s : Hash32) (old new whole : Option (List Coin)) (x : Option Coin) (before rest : List (Option Coin)) → before ≡ x ∷ rest → new ≡ grown old (coins_with s (option_to_list x))
    → grown old (coins_with s (flat_map option_to_list before)) ≡ whole → grown new (coins_with s (flat_map option_to_list rest)) ≡ whole
kept_more s old new whole x before rest is more so =
    ap (λ l. grown l (coins_with s (flat_map option_to_list rest))) more
    ∙ grown_more old (coins_with s (option_to_list x)) (coins_with s (flat_map option_to_list rest))
    ∙ ap (λ l. grown old l) (sym (filter-append (λ (c : Coin). bytes_eq c.script.0 s.0) (option_to_list x) (flat_map option_to_list rest)))
    ∙ ap (λ l. grown old (coins_with s (flat_map option_to_list l))) (sym is) ∙ so

-- ---- entries that are listed

pub entry_is : (height : ℕ) (id other : Hash32) → id ≡ other → ◌≡◌ {A = Entry} (record { height = height; txid = id }) (record { height = height; txid = other })
entry_is height id other is = rw is refl

-- a transaction that concerns the script hash is listed
pub listed_so : (s : Hash32) (height : ℕ) (t : Tx) (coins : List Coin) (e : Entry) (b : Bool) (old new : Option (List Entry)) (w : Bool) (f : Entry) → b ≡ w → e ≡ f
    → new ≡ grown old (if b then e ∷ [] else []) → new ≡ grown old (if w then f ∷ [] else [])
listed_so s height t coins e b old new w f bw ef is = is ∙ ap (λ (x : Bool). grown old (if x then e ∷ [] else [])) bw ∙ ap (λ (x : Entry). grown old (if w then x ∷ [] else [])) ef

-- a transaction's entry was listed, and those of the transactions after it are left
pub txs_step : (s : List ℕ) (height n : ℕ) (ts : List Tx) (t : Tx) (coins : List Coin) (old new whole : Option (List Entry)) → n < length ts → t ≡ get_or ts n t
    → grown old (listed_in s height (drop n ts) coins) ≡ whole → new ≡ grown old (entry_listed s height t coins)
    → grown new (listed_in s height (drop (n + 1) ts) (coins_after height t coins)) ≡ whole
txs_step s height n ts t coins old new whole lt is so more =
    let left = left_at ts n t lt is in
    ap (λ l. grown l (listed_in s height (drop (n + 1) ts) (coins_after height t coins))) more
    ∙ grown_more old (entry_listed s height t coins) (listed_in s height (drop (n + 1) ts) (coins_after height t coins))
    ∙ ap (λ (us : List Tx). grown old (listed_in s height us coins)) (sym left) ∙ so

-- a block's entries were listed, and those of the blocks after it are left
pub chain_step : (s : List ℕ) (n : ℕ) (chain : Chain) (b : Placed) (ts : List Tx) (coins : List Coin) (old new whole : Option (List Entry)) → n < length chain → b ≡ get_or chain n b
    → ts ≡ b.block.txs → grown old (listed_from s n (drop n chain) coins) ≡ whole → new ≡ grown old (listed_in s n ts coins)
    → grown new (listed_from s (n + 1) (drop (n + 1) chain) (coins_after_all n ts coins)) ≡ whole
chain_step s n chain b ts coins old new whole lt is txs so more =
    let left = left_at chain n b lt is in
    ap (λ l. grown l (listed_from s (n + 1) (drop (n + 1) chain) (coins_after_all n ts coins))) more
    ∙ grown_more old (listed_in s n ts coins) (listed_from s (n + 1) (drop (n + 1) chain) (coins_after_all n ts coins))
    ∙ ap (λ (us : List Tx). grown old (listed_in s n us coins ++ listed_from s (n + 1) (drop (n + 1) chain) (coins_after_all n us coins))) txs
    ∙ ap (λ l. grown old l) (sym (blocks_listed s n b (drop (n + 1) chain) coins))
    ∙ ap (λ (bs : Chain). grown old (listed_from s n bs coins)) (sym left) ∙ so

-- a block's coins were put in, and those of the blocks after it are left
pub coins_step : (n : ℕ) (chain : Chain) (b : Placed) (ts : List Tx) (mid : List Coin) → n < length chain → b ≡ get_or chain n b → ts ≡ b.block.txs
    → coins_from n (drop n chain) mid ≡ coins_from (n + 1) (drop (n + 1) chain) (coins_after_all n ts mid)
coins_step n chain b ts mid lt is txs =
    let left = left_at chain n b lt is in
    ap (λ (bs : Chain). coins_from n bs mid) left ∙ ap (λ (us : List Tx). coins_from (n + 1) (drop (n + 1) chain) (coins_after_all n us mid)) (sym txs)

-- ---- what is left of transactions, blocks and inputs

pub input_step : (inputs : List TxIn) (n : ℕ) (i : TxIn) (coins : List Coin) → n < length inputs → i ≡ get_or inputs n i
    → spend_inputs (drop n inputs) coins ≡ spend_inputs (drop (n + 1) inputs) (without i.from coins)
input_step inputs n i coins lt is =
    let left = left_at inputs n i lt is in
    rw left refl

pub tx_step : (height n : ℕ) (ts : List Tx) (t : Tx) (coins : List Coin) → n < length ts → t ≡ get_or ts n t
    → coins_after_all height (drop n ts) coins ≡ coins_after_all height (drop (n + 1) ts) (coins_after height t coins)
tx_step height n ts t coins lt is =
    let left = left_at ts n t lt is in
    rw left refl

-- what holds of an item, and of those after it
pub all_here : {X : Type 0} (P : X → Type 0) (xs : List X) (n : ℕ) (x : X) → n < length xs → x ≡ get_or xs n x → AllByRecursion P (drop n xs) → P x
all_here P xs n x lt is all =
    let left = left_at xs n x lt is in
    let here = rw left at all in
    here.0

pub all_after : {X : Type 0} (P : X → Type 0) (xs : List X) (n : ℕ) (x : X) → n < length xs → x ≡ get_or xs n x → AllByRecursion P (drop n xs) → AllByRecursion P (drop (n + 1) xs)
all_after P xs n x lt is all =
    let left = left_at xs n x lt is in
    let here = rw left at all in
    here.1

-- ---- script hashes that are touched

pub any_ends : {T : Type 0} (f : T → Bool) (xs : List T) (i : ℕ) (before all : Bool) → length xs ≤ i → (before || list_any f (drop i xs)) ≡ all → before ≡ all
any_ends f xs i before all most h = sym (or-false before) ∙ ap (λ l. before || list_any f l) (sym (drop_all i xs most)) ∙ h

-- a coinbase takes nothing, and any other transaction what its inputs name
pub spent_now : (coinbase taken old now : Bool) → coinbase ≡ false → now ≡ (old || taken) → now ≡ (old || (not coinbase && taken))
spent_now coinbase taken old now e h = rw e h

-- those of its outputs, and then those of the coins that it takes
pub both_touched : (s : Hash32) (none first both : List Hash32) (funds spends : Bool) → none ≡ [] → list_any (same_hash s) first ≡ (list_any (same_hash s) none || funds)
    → list_any (same_hash s) both ≡ (list_any (same_hash s) first || spends) → list_any (same_hash s) both ≡ (funds || spends)
both_touched s none first both funds spends empty one two =
    two ∙ ap (λ (b : Bool). b || spends) (one ∙ ap (λ l. list_any (same_hash s) l || funds) empty)

-- ---- the items of a loop over values that are copied

-- one more script hash has an empty list
pub listed_more : {T : Type 0} (look next : Hash32 → Option (List T)) (keys slice : List Hash32) (i : ℕ) (x d : Hash32) (v : List T) → slice ≡ keys → i < length slice → x ≡ get_or slice i d
    → ((s : Hash32) → next s ≡ cond (same_hash x s) (Some v) (look s)) → v ≡ [] → ((s : Hash32) → list_any (same_hash s) (take i keys) ≡ true → look s ≡ Some [])
    → (s : Hash32) → list_any (same_hash s) (take (i + 1) keys) ≡ true → next s ≡ Some []
listed_more {T} look next keys slice i x d v same lt is' says empty before s any = says s ∙ by (same_hash x s) refl
  where
    is : x ≡ get_or slice i x
    is = is' ∙ get_or_default slice i d x lt

    more : list_any (same_hash s) (take (i + 1) keys) ≡ (list_any (same_hash s) (take i keys) || same_hash s x)
    more = ap (λ l. list_any (same_hash s) (take (i + 1) l)) (sym same) ∙ ap (list_any (same_hash s)) (taken_at slice i x lt is) ∙ list_any-append (same_hash s) (take i slice) (x ∷ [])
        ∙ ap (λ (b : Bool). list_any (same_hash s) (take i slice) || b) (or-false (same_hash s x)) ∙ ap (λ l. list_any (same_hash s) (take i l) || same_hash s x) same

    other : same_hash x s ≡ false → (b : Bool) → same_hash s x ≡ b → list_any (same_hash s) (take i keys) ≡ true
    other f true g = absurd (true≢false (sym (hash_from x s (sym (hash_gives s x g))) ∙ f))
    other f false g = sym (or-false (list_any (same_hash s) (take i keys))) ∙ ap (λ (b : Bool). list_any (same_hash s) (take i keys) || b) (sym g) ∙ sym more ∙ any

    by : (b : Bool) → same_hash x s ≡ b → cond (same_hash x s) (Some v) (look s) ≡ Some []
    by true e = rw e (ap (λ l. Some l) empty)
    by false e = rw e (before s (other e (same_hash s x) refl))

-- one more coin was put in
pub put_more : {S : Type 0} (new : IndexMap Outpoint (Option Coin) S) (is_named : Hash32 → Bool) (made : List Coin) (i : ℕ) (c d : Coin) (mid whole : List Coin) → i < length made → c ≡ get_or made i d
    → AreOwn new is_named (add_coin c mid) → whole ≡ put_coins (drop i made) mid → (m : List Coin) × AreOwn new is_named m × (whole ≡ put_coins (drop (i + 1) made) m)
put_more new is_named made i c d mid whole lt is own so = (add_coin c mid, own, so ∙ put_step made i c d mid lt is)

-- one more script hash is put to a set
pub paid_more : (x s : Hash32) (bytes : List ℕ) (before now : Bool) → x.0 ≡ bytes → now ≡ cond (same_hash x s) true before → now ≡ (before || bytes_eq bytes s.0)
paid_more x s bytes before now is says = says ∙ turned (same_hash x s) before ∙ ap (λ (l : List ℕ). before || bytes_eq l s.0) is
  where
    turned : (b o : Bool) → cond b true o ≡ (o || b)
    turned true true = refl
    turned true false = refl
    turned false true = refl
    turned false false = refl
