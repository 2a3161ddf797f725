-- A transaction that nothing refuses joins the kept ones, and they stand for the chain again.
use Rattle.std.proofs.Common.{◌≡◌, ◌≢◌, inl, inr, length, true, false, Bool, cond, not, ◌&&◌, ◌||◌, List, [], ◌∷◌, ◌++◌, Option, None, Some, refl, ap, sym, ◌∙◌}
use Rattle.std.proofs.lemmas.Bool.{cases_Bool, and_from, and_parts, not-true, or_parts, true≢false, false_from_ne_true, not_from_false}
use Rattle.std.proofs.lemmas.List.Sums.{fold-append}
use Rattle.std.proofs.lemmas.List.{map-append}
use Rattle.std.specs.List.{AllByRecursion, list_any}
use Rattle.std.specs.Prelude.{map, option_map, option_to_list, nat_lt}
use Rattle.std.specs.Option.{option_or, is_some}
use Rattle.el_base.specs.declared.hash.Hash32.{Hash32}
use Rattle.el_tx.specs.declared.types.Outpoint.{Outpoint}
use Rattle.el_tx.specs.declared.types.TxIn.{TxIn}
use Rattle.el_tx.specs.declared.types.Tx.{Tx}
use Rattle.el_tx.specs.Encoding.{total_value}
use Rattle.el_tx.specs.Hashing.{txid, full_encoding}
use Rattle.el_block.proofs.BlockRules.{still_differ}
use Rattle.el_chain.specs.Chains.{Chain}
use Rattle.el_chain.specs.Headers.{same_hash}
use Rattle.el_mempool.specs.declared.held.Held.{Held}
use Rattle.el_mempool.specs.declared.held.KeptTx.{KeptTx}
use Rattle.el_mempool.specs.declared.entry.PoolLimits.{PoolLimits}
use Rattle.el_mempool.specs.declared.fault.PoolFault.{PoolFault}
use Rattle.el_mempool.specs.declared.fault.PoolFault.TheVariants as refusal
use Rattle.el_mempool.specs.Sift.{coin_named, output_among, named, is_confirmed, any_takes, is_taken, each_takes, held_by, total_held, may_join, joined, sift}
use Rattle.el_mempool.specs.Refusals.{where_so, is_kept, missing, spender_of, conflict, known_refusal, coin_refusal, room_refusal, tx_refusal, overspends, over_limit, has_coinbase_form, total_bytes}
use Rattle.el_mempool.specs.Standing.{source_at, sources, kept_tx, KeptStandFor}
use Rattle.el_mempool.proofs.Sifting.{joins_of, stays_of, joins_more}
use Rattle.el_mempool.proofs.Confirmed.{hash_self, hash_same, unconfirmed_none}
use Rattle.el_mempool.proofs.Dropping.{output_apart}
use Rattle.el_mempool.proofs.Named.{AreNamed, among_append, named_more, held_more, takes_named, AllNamed, all_named}

pub both_none : {X : Type 0} (a b : Option X) → option_or a b ≡ None → (a ≡ None) × (b ≡ None)
both_none None b h = (refl, h)
both_none (Some x) b h = absurd (cc)

not_so : (b : Bool) (f : PoolFault) → where_so b f ≡ None → b ≡ false
not_so true f h = absurd (cc)
not_so false f h = refl

none_takes : (o : Outpoint) (f : Tx → PoolFault) (ts : List Tx) → option_map f (spender_of o ts) ≡ None → is_taken o ts ≡ false
none_takes o f [] h = refl
none_takes o f (t ∷ ts) h = elim (cases_Bool (any_takes o t.inputs)) [
  | inl e ↦ let said = rw e at h in absurd (cc)
  | inr e ↦ let said = rw e at h in rw e (none_takes o f ts said)
]

some_named : (x : Option Held) (o : Outpoint) (more : Option PoolFault) → cond (is_some x) more (Some (refusal.Missing o)) ≡ None → (is_some x ≡ true) × (more ≡ None)
some_named None o more h = absurd (cc)
some_named (Some v) o more h = (refl, h)

-- inputs that are not refused take a coin each
takes_all : (chain : Chain) (kept : List Tx) (id : Hash32) (is : List TxIn) → missing chain kept is ≡ None → conflict kept id is ≡ None → each_takes chain kept is ≡ true
takes_all chain kept id [] m c = refl
takes_all chain kept id (i ∷ is) m c =
    let there = some_named (named chain kept i.from) i.from (missing chain kept is) m in
    let first = both_none (option_map (λ (t : Tx). refusal.Conflict i.from (txid t)) (spender_of i.from kept)) (option_or (where_so (any_takes i.from is) (refusal.Conflict i.from id)) (conflict kept id is)) c in
    let second = both_none (where_so (any_takes i.from is) (refusal.Conflict i.from id)) (conflict kept id is) first.1 in
    let free = none_takes i.from (λ (t : Tx). refusal.Conflict i.from (txid t)) kept first.0 in
    let apart = not_so (any_takes i.from is) (refusal.Conflict i.from id) second.0 in
    and_from (is_some (named chain kept i.from) && not (is_taken i.from kept)) (not (any_takes i.from is) && each_takes chain kept is)
    (and_from (is_some (named chain kept i.from)) (not (is_taken i.from kept)) there.0 (not_from_false (is_taken i.from kept) free))
    (and_from (not (any_takes i.from is)) (each_takes chain kept is) (not_from_false (any_takes i.from is) apart) (takes_all chain kept id is there.1 second.1))

pub names_all : (chain : Chain) (kept : List Tx) (is : List TxIn) → missing chain kept is ≡ None → AreNamed chain kept is
names_all chain kept [] m = tt
names_all chain kept (i ∷ is) m =
    let there = some_named (named chain kept i.from) i.from (missing chain kept is) m in
    (there.0, names_all chain kept is there.1)

-- what is said of a transaction that nothing refuses
pub record IsFree (chain : Chain) (kept : List Tx) (t : Tx) : Type 0 where
  pub unconfirmed : is_confirmed chain (txid t) ≡ false
  pub new : is_kept (txid t) kept ≡ false
  pub named : AreNamed chain kept t.inputs
  pub joins : may_join chain kept t ≡ true

pub is_free : (limits : PoolLimits) (chain : Chain) (kept : List Tx) (t : Tx) → tx_refusal limits chain kept t ≡ None → IsFree chain kept t
is_free limits chain kept t h =
    let first = both_none (known_refusal chain kept t) (option_or (coin_refusal chain kept t) (room_refusal limits chain kept t)) h in
    let second = both_none (coin_refusal chain kept t) (room_refusal limits chain kept t) first.1 in
    let form = both_none (where_so (has_coinbase_form t) refusal.CoinbaseForm) (option_or (where_so (is_confirmed chain (txid t)) refusal.Confirmed) (where_so (is_kept (txid t) kept) refusal.Known)) first.0 in
    let known = both_none (where_so (is_confirmed chain (txid t)) refusal.Confirmed) (where_so (is_kept (txid t) kept) refusal.Known) form.1 in
    let coins = both_none (missing chain kept t.inputs) (conflict kept (txid t) t.inputs) second.0 in
    let room = both_none (overspends (total_held (held_by chain kept t.inputs)) (total_value t.outputs)) (over_limit limits (length kept) (total_bytes kept) (length (full_encoding t))) second.1 in
    let out = not_so (is_confirmed chain (txid t)) refusal.Confirmed known.0 in
    let fits = not_so (nat_lt (total_held (held_by chain kept t.inputs)) (total_value t.outputs)) (refusal.Overspends (total_held (held_by chain kept t.inputs)) (total_value t.outputs)) room.0 in
    record {
      unconfirmed = out;
      new = not_so (is_kept (txid t) kept) refusal.Known known.1;
      named = names_all chain kept t.inputs coins.0;
      joins = and_from (not (is_confirmed chain (txid t))) (each_takes chain kept t.inputs && not (nat_lt (total_held (held_by chain kept t.inputs)) (total_value t.outputs)))
          (not_from_false (is_confirmed chain (txid t)) out)
          (and_from (each_takes chain kept t.inputs) (not (nat_lt (total_held (held_by chain kept t.inputs)) (total_value t.outputs)))
          (takes_all chain kept (txid t) t.inputs coins.0 coins.1) (not_from_false (nat_lt (total_held (held_by chain kept t.inputs)) (total_value t.outputs)) fits));
    }

-- ---- the entries with one more

sources_more : (chain : Chain) (xs ys : List Tx) (is : List TxIn) → AreNamed chain xs is → sources chain (xs ++ ys) is ≡ sources chain xs is
sources_more chain xs ys [] h = refl
sources_more chain xs ys (i ∷ is) h =
    ap (λ x. option_to_list (option_map (source_at i) x) ++ sources chain (xs ++ ys) is) (named_more chain xs ys i.from h.0)
    ∙ ap (λ l. option_to_list (option_map (source_at i) (named chain xs i.from)) ++ l) (sources_more chain xs ys is h.1)

pub flag_more : (chain : Chain) (kept : List Tx) (t : Tx) (is : List TxIn) → is_confirmed chain (txid t) ≡ false → AreNamed chain kept is
    → list_any (λ (i : TxIn). is_some (output_among i.from (kept ++ t ∷ []))) is ≡ list_any (λ (i : TxIn). is_some (output_among i.from kept)) is
flag_more chain kept t [] fresh h = refl
flag_more chain kept t (i ∷ is) fresh h =
    ap (λ x. is_some x || list_any (λ (j : TxIn). is_some (output_among j.from (kept ++ t ∷ []))) is) (among_append i.from kept (t ∷ []))
    ∙ ap (λ b. b || list_any (λ (j : TxIn). is_some (output_among j.from (kept ++ t ∷ []))) is) (by (output_among i.from kept) refl)
    ∙ ap (λ b. is_some (output_among i.from kept) || b) (flag_more chain kept t is fresh h.1)
  where
    by : (x : Option Held) → output_among i.from kept ≡ x → is_some (option_or x (output_among i.from (t ∷ []))) ≡ is_some x
    by (Some v) e = refl
    by None e =
        let coin : is_some (coin_named chain i.from) ≡ true = from_coin (coin_named chain i.from) (ap (λ y. is_some (option_or (coin_named chain i.from) y)) (sym e) ∙ h.0) in
        let other : same_hash (txid t) i.from.txid ≡ false =
        false_from_ne_true (same_hash (txid t) i.from.txid) (λ same.
        let none = unconfirmed_none chain i.from (ap (is_confirmed chain) (sym (hash_same (txid t) i.from.txid same)) ∙ fresh) in
        true≢false (sym coin ∙ ap is_some none)) in
        ap (λ y. is_some (option_or y None)) (output_apart i.from t other)
      where
        from_coin : (y : Option Held) → is_some (option_or y None) ≡ true → is_some y ≡ true
        from_coin None bad = bad
        from_coin (Some v) some = refl

pub entry_more : (chain : Chain) (xs : List Tx) (t u : Tx) → is_confirmed chain (txid t) ≡ false → AreNamed chain xs u.inputs → kept_tx chain (xs ++ t ∷ []) u ≡ kept_tx chain xs u
entry_more chain xs t u fresh h =
    let held = held_more chain xs (t ∷ []) u.inputs h in
    let flags = flag_more chain xs t u.inputs fresh h in
    let from = sources_more chain xs (t ∷ []) u.inputs h in
    rw (held, flags, from) refl

entries_more : (chain : Chain) (xs : List Tx) (t : Tx) (ts : List Tx) → is_confirmed chain (txid t) ≡ false → AllNamed chain xs ts → map (kept_tx chain (xs ++ t ∷ [])) ts ≡ map (kept_tx chain xs) ts
entries_more chain xs t [] fresh h = refl
entries_more chain xs t (u ∷ us) fresh h = ap (λ k. k ∷ map (kept_tx chain (xs ++ t ∷ [])) us) (entry_more chain xs t u fresh h.0) ∙ ap (λ l. kept_tx chain xs u ∷ l) (entries_more chain xs t us fresh h.1)

new_apart : (id : Hash32) (ts : List Tx) → is_kept id ts ≡ false → AllByRecursion (λ x. x ≢ id) (map txid ts)
new_apart id [] h = tt
new_apart id (t ∷ ts) h =
    let parts = or_parts (same_hash (txid t) id) (is_kept id ts) h in
    ((λ e. true≢false (sym (hash_self (txid t) id e) ∙ parts.0)), new_apart id ts parts.1)

-- the kept ones stand for the chain with one more that may join and is new
pub stands_with : (entries : List KeptTx) (chain : Chain) (kept : List Tx) (t : Tx) → KeptStandFor entries chain kept → IsFree chain kept t → KeptStandFor (entries ++ kept_tx chain kept t ∷ []) chain (kept ++ t ∷ [])
stands_with entries chain kept t h f = record {
  sifted = stays_of (may_join chain) (kept ++ t ∷ []) (joins_more (may_join chain) [] kept t (joins_of (may_join chain) kept h.sifted) f.joins);
  are = ap (λ l. l ++ kept_tx chain kept t ∷ []) h.are
      ∙ sym (map-append (kept_tx chain (kept ++ t ∷ [])) kept (t ∷ [])
      ∙ ap (λ l. l ++ kept_tx chain (kept ++ t ∷ []) t ∷ []) (entries_more chain kept t kept f.unconfirmed (all_named chain kept h.sifted))
      ∙ ap (λ k. map (kept_tx chain kept) kept ++ k ∷ []) (entry_more chain kept t t f.unconfirmed f.named));
  once = rw (map-append txid kept (t ∷ [])) (still_differ (map txid kept) (txid t) h.once (new_apart (txid t) kept f.new));
}

-- the kept ones stand for the chain with one more that nothing refuses
pub stands_more : (limits : PoolLimits) (entries : List KeptTx) (chain : Chain) (kept : List Tx) (t : Tx) → KeptStandFor entries chain kept → tx_refusal limits chain kept t ≡ None
    → KeptStandFor (entries ++ kept_tx chain kept t ∷ []) chain (kept ++ t ∷ [])
stands_more limits entries chain kept t h free = stands_with entries chain kept t h (is_free limits chain kept t free)

-- what may join, and is new, is free
pub free_joins : (chain : Chain) (kept : List Tx) (t : Tx) → may_join chain kept t ≡ true → is_kept (txid t) kept ≡ false → IsFree chain kept t
free_joins chain kept t joins new =
    let both = and_parts (not (is_confirmed chain (txid t))) (each_takes chain kept t.inputs && not (nat_lt (total_held (held_by chain kept t.inputs)) (total_value t.outputs))) joins in
    let more = and_parts (each_takes chain kept t.inputs) (not (nat_lt (total_held (held_by chain kept t.inputs)) (total_value t.outputs))) both.1 in
    record { unconfirmed = not-true (is_confirmed chain (txid t)) both.0; new = new; named = takes_named chain kept t.inputs more.0; joins = joins }

-- the sift of a list with one more, where it may join what the list leaves
pub sift_more : (chain : Chain) (ts : List Tx) (t : Tx) → sift chain (ts ++ t ∷ []) ≡ joined chain (sift chain ts) t
sift_more chain ts t = fold-append (joined chain) [] ts (t ∷ [])
