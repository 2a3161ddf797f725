-- Which script hashes one more transaction changes: those that it concerns.
use Rattle.std.proofs.Common.{◌≡◌, ℕ, true, false, Bool, cond, not, ◌||◌, ◌&&◌, List, [], ◌∷◌, ◌++◌, Option, None, Some, refl, ap, sym, ◌∙◌, append-nil}
use Rattle.std.proofs.lemmas.Bool.{and_parts, not-true, or_parts}
use Rattle.std.proofs.lemmas.List.Elements.{filter-append}
use Rattle.std.proofs.lemmas.List.Folds.{list_any-append}
use Rattle.std.proofs.Math.Bool.{or-false}
use Rattle.std.specs.List.{AllByRecursion, list_any}
use Rattle.std.specs.Prelude.{map, option_map, option_to_list}
use Rattle.std.specs.Str.{bytes_eq}
use Rattle.el_base.specs.declared.hash.Hash32.{Hash32}
use Rattle.el_base.proofs.Lists.{all_append}
use Rattle.el_tx.specs.declared.types.TxIn.{TxIn}
use Rattle.el_tx.specs.declared.types.TxOut.{TxOut}
use Rattle.el_tx.specs.declared.types.Tx.{Tx}
use Rattle.el_tx.specs.Hashing.{txid}
use Rattle.el_block.specs.Blocks.{AllDiffer}
use Rattle.el_chain.specs.Chains.{Chain}
use Rattle.el_chain.specs.Coins.{script_hash_of}
use Rattle.el_chain.specs.Headers.{same_hash}
use Rattle.el_chain.specs.History.{funds}
use Rattle.el_mempool.specs.declared.held.Held.{Held}
use Rattle.el_mempool.specs.declared.held.Source.{Source}
use Rattle.el_mempool.specs.declared.held.KeptTx.{KeptTx}
use Rattle.el_mempool.specs.declared.entry.PoolLimits.{PoolLimits}
use Rattle.el_mempool.specs.Sift.{output_held, named, is_confirmed, held_by, may_join}
use Rattle.el_mempool.specs.Refusals.{is_kept, tx_refusal}
use Rattle.el_mempool.specs.Unconfirmed.{has_script, concerns_script, entry}
use Rattle.el_mempool.specs.Standing.{source_at, sources, kept_tx, KeptStandFor, AreChanged, is_at_script}
use Rattle.el_mempool.proofs.Sifting.{AllJoin, joins_of}
use Rattle.el_mempool.proofs.Confirmed.{hash_self, hash_turned}
use Rattle.el_mempool.proofs.Named.{AreNamed, held_more, AllNamed, all_named}
use Rattle.el_mempool.proofs.Dropping.{rest}
use Rattle.el_mempool.proofs.Picked.{where_both}
use Rattle.el_mempool.proofs.Changes.{seen, apart_from}
use Rattle.el_mempool.proofs.Unspent.{AreOver}
use Rattle.el_mempool.proofs.Changed.{TellsOf, changes_are}
use Rattle.el_mempool.proofs.Joining.{IsFree, is_free, flag_more, stands_more}

-- ---- the lists before and after

abbrev pub nothing : Hash32 → Bool
nothing id = false

abbrev pub only : Tx → Hash32 → Bool
only t id = same_hash (txid t) id

pub all_stay : (ts : List Tx) → rest nothing ts ≡ ts
all_stay [] = refl
all_stay (t ∷ ts) = ap (λ l. t ∷ l) (all_stay ts)

others_stay : (t : Tx) (ts : List Tx) → is_kept (txid t) ts ≡ false → rest (only t) ts ≡ ts
others_stay t [] h = refl
others_stay t (u ∷ us) h =
    let parts = or_parts (same_hash (txid u) (txid t)) (is_kept (txid t) us) h in
    let apart : same_hash (txid t) (txid u) ≡ false = hash_turned (txid t) (txid u) ∙ parts.0 in
    rw apart (ap (λ l. u ∷ l) (others_stay t us parts.1))

before_is : (t : Tx) (kept : List Tx) → is_kept (txid t) kept ≡ false → rest (only t) (kept ++ t ∷ []) ≡ kept
before_is t kept h =
    let own = hash_self (txid t) (txid t) refl in
    filter-append (λ (u : Tx). not (only t (txid u))) kept (t ∷ []) ∙ rw own (append-nil (rest (only t) kept)) ∙ others_stay t kept h

-- ---- what is seen of those that were kept

entry_stays : (chain : Chain) (kept : List Tx) (t u : Tx) → is_confirmed chain (txid t) ≡ false → AreNamed chain kept u.inputs → entry chain (kept ++ t ∷ []) u ≡ entry chain kept u
entry_stays chain kept t u fresh h =
    let held = held_more chain kept (t ∷ []) u.inputs h in
    let flags = flag_more chain kept t u.inputs fresh h in
    rw (held, flags) refl

concerns_stays : (chain : Chain) (kept : List Tx) (t u : Tx) (s : List ℕ) → AreNamed chain kept u.inputs → concerns_script chain (kept ++ t ∷ []) s u ≡ concerns_script chain kept s u
concerns_stays chain kept t u s h = ap (λ l. funds s u || list_any (has_script s) l) (held_more chain kept (t ∷ []) u.inputs h)

-- whether what is seen of a transaction differs
abbrev pub is_new_at : Chain → List Tx → Tx → Hash32 → Tx → Bool
is_new_at chain kept t s u = same_hash (txid t) (txid u) && concerns_script chain (kept ++ t ∷ []) s.0 u

seen_before : (chain : Chain) (kept : List Tx) (t u : Tx) (s : List ℕ) → is_kept (txid t) kept ≡ false
    → seen chain (only t) (kept ++ t ∷ []) s u ≡ where_both (λ (v : Tx). not (only t (txid v))) (concerns_script chain kept s) (entry chain kept) u
seen_before chain kept t u s new = ap (λ l. where_both (λ (v : Tx). not (only t (txid v))) (concerns_script chain l s) (entry chain l) u) (before_is t kept new)

seen_after : (chain : Chain) (kept : List Tx) (t u : Tx) (s : List ℕ)
    → seen chain nothing (kept ++ t ∷ []) s u ≡ where_both (λ (v : Tx). true) (concerns_script chain (kept ++ t ∷ []) s) (entry chain (kept ++ t ∷ [])) u
seen_after chain kept t u s = ap (λ l. where_both (λ (v : Tx). true) (concerns_script chain l s) (entry chain l) u) (all_stay (kept ++ t ∷ []))

tells_old : (chain : Chain) (kept : List Tx) (t : Tx) (s : Hash32) (us : List Tx) → IsFree chain kept t → is_kept (txid t) us ≡ false → AllNamed chain kept us
    → AllByRecursion (TellsOf chain chain (only t) nothing (kept ++ t ∷ []) s (is_new_at chain kept t s)) us
tells_old chain kept t s [] free new h = tt
tells_old chain kept t s (u ∷ us) free new h =
    let parts = or_parts (same_hash (txid u) (txid t)) (is_kept (txid t) us) new in
    let apart : same_hash (txid t) (txid u) ≡ false = hash_turned (txid t) (txid u) ∙ parts.0 in
    ((λ _. same apart, λ _. rw apart refl), tells_old chain kept t s us free parts.1 h.1)
  where
    same : same_hash (txid t) (txid u) ≡ false → seen chain (only t) (kept ++ t ∷ []) s.0 u ≡ seen chain nothing (kept ++ t ∷ []) s.0 u
    same apart =
        let c = concerns_stays chain kept t u s.0 h.0 in
        let e = entry_stays chain kept t u free.unconfirmed h.0 in
        seen_before chain kept t u s.0 free.new ∙ rw apart (ap (λ b. cond b (Some (entry chain kept u)) None) (sym c) ∙ ap (λ x. cond (concerns_script chain (kept ++ t ∷ []) s.0 u) (Some x) None) (sym e))
        ∙ sym (seen_after chain kept t u s.0)

tells_new : (chain : Chain) (kept : List Tx) (t : Tx) (s : Hash32) → IsFree chain kept t → TellsOf chain chain (only t) nothing (kept ++ t ∷ []) s (is_new_at chain kept t s) t
tells_new chain kept t s free = (
  (λ h. before ∙ after_none (rw own at h)),
  (λ h. rw own (by (concerns_script chain (kept ++ t ∷ []) s.0 t) (sym before ∙ h ∙ seen_after chain kept t t s.0))),
)
  where
    own : same_hash (txid t) (txid t) ≡ true
    own = hash_self (txid t) (txid t) refl

    before : seen chain (only t) (kept ++ t ∷ []) s.0 t ≡ None
    before = rw own refl

    after_none : concerns_script chain (kept ++ t ∷ []) s.0 t ≡ false → None ≡ seen chain nothing (kept ++ t ∷ []) s.0 t
    after_none none = sym (seen_after chain kept t t s.0 ∙ rw none refl)

    by : (b : Bool) → None ≡ cond b (Some (entry chain (kept ++ t ∷ []) t)) None → b ≡ false
    by false e = refl
    by true e = absurd (cc)

-- ---- what an entry concerns

outputs_at : (s : List ℕ) (os : List TxOut) → list_any (has_script s) (map output_held os) ≡ list_any (λ (o : TxOut). bytes_eq (script_hash_of o) s) os
outputs_at s [] = refl
outputs_at s (o ∷ os) = ap (λ b. bytes_eq (script_hash_of o) s || b) (outputs_at s os)

inputs_at : (chain : Chain) (kept : List Tx) (s : List ℕ) (is : List TxIn) → list_any (λ (x : Source). has_script s x.held) (sources chain kept is) ≡ list_any (has_script s) (held_by chain kept is)
inputs_at chain kept s [] = refl
inputs_at chain kept s (i ∷ is) = by (named chain kept i.from) (inputs_at chain kept s is)
  where
    by : (x : Option Held) → list_any (λ (y : Source). has_script s y.held) (sources chain kept is) ≡ list_any (has_script s) (held_by chain kept is)
        → list_any (λ (y : Source). has_script s y.held) (option_to_list (option_map (source_at i) x) ++ sources chain kept is) ≡ list_any (has_script s) (option_to_list x ++ held_by chain kept is)
    by None e = e
    by (Some v) e = ap (λ b. has_script s v || b) e

pub entry_at : (chain : Chain) (kept : List Tx) (s : List ℕ) (t : Tx) → is_at_script s (kept_tx chain kept t) ≡ concerns_script chain kept s t
entry_at chain kept s t = ap (λ b. b || list_any (λ (x : Source). has_script s x.held) (sources chain kept t.inputs)) (outputs_at s t.outputs) ∙ ap (λ b. funds s t || b) (inputs_at chain kept s t.inputs)

-- ---- together

pub fresh_from : (chain : Chain) (before ts : List Tx) → AllJoin (may_join chain) before ts → AllByRecursion (λ (t : Tx). is_confirmed chain (txid t) ≡ false) ts
fresh_from chain before [] h = tt
fresh_from chain before (t ∷ ts) h =
    let parts = and_parts _ _ h.0 in
    (not-true (is_confirmed chain (txid t)) parts.0, fresh_from chain (before ++ t ∷ []) ts h.1)

pub over_all : (chain : Chain) (g : Hash32 → Bool) (ts : List Tx) → AllByRecursion (λ (t : Tx). is_confirmed chain (txid t) ≡ false) ts → AreOver chain g ts
over_all chain g [] h = tt
over_all chain g (t ∷ ts) h = ((λ _. h.0), over_all chain g ts h.1)

old_others : (chain : Chain) (kept : List Tx) (t : Tx) (s : Hash32) (us : List Tx) → is_kept (txid t) us ≡ false → list_any (is_new_at chain kept t s) us ≡ false
old_others chain kept t s [] h = refl
old_others chain kept t s (u ∷ us) h =
    let parts = or_parts (same_hash (txid u) (txid t)) (is_kept (txid t) us) h in
    let apart : same_hash (txid t) (txid u) ≡ false = hash_turned (txid t) (txid u) ∙ parts.0 in
    rw apart (old_others chain kept t s us parts.1)

new_only : (chain : Chain) (kept : List Tx) (t : Tx) (s : Hash32) → is_kept (txid t) kept ≡ false → list_any (is_new_at chain kept t s) (kept ++ t ∷ []) ≡ concerns_script chain (kept ++ t ∷ []) s.0 t
new_only chain kept t s new =
    let own = hash_self (txid t) (txid t) refl in
    list_any-append (is_new_at chain kept t s) kept (t ∷ []) ∙ ap (λ b. b || (is_new_at chain kept t s t || false)) (old_others chain kept t s kept new) ∙ rw own (or-false (concerns_script chain (kept ++ t ∷ []) s.0 t))

-- one more transaction changes the script hashes that it concerns
pub arrival_changes : (limits : PoolLimits) (entries : List KeptTx) (chain : Chain) (kept : List Tx) (t : Tx) (scripts : List Hash32) → KeptStandFor entries chain kept → tx_refusal limits chain kept t ≡ None
    → AllDiffer scripts → ((s : Hash32) → list_any (same_hash s) scripts ≡ is_at_script s.0 (kept_tx chain kept t)) → AreChanged chain kept chain (kept ++ t ∷ []) scripts
arrival_changes limits entries chain kept t scripts h refused once are =
    let free = is_free limits chain kept t refused in
    let then = stands_more limits entries chain kept t h refused in
    let fresh = fresh_from chain [] (kept ++ t ∷ []) (joins_of (may_join chain) (kept ++ t ∷ []) then.sifted) in
    let changed = changes_are chain chain (only t) nothing (kept ++ t ∷ []) (is_new_at chain kept t) scripts (apart_from (kept ++ t ∷ []) then.once)
    (over_all chain (only t) (kept ++ t ∷ []) fresh) (over_all chain nothing (kept ++ t ∷ []) fresh)
    (λ s. all_append (TellsOf chain chain (only t) nothing (kept ++ t ∷ []) s (is_new_at chain kept t s)) kept (t ∷ [])
    (tells_old chain kept t s kept free free.new (all_named chain kept h.sifted)) (tells_new chain kept t s free, tt))
    once
    (λ s. are s ∙ entry_at chain kept s.0 t ∙ sym (concerns_stays chain kept t t s.0 free.named) ∙ sym (new_only chain kept t s free.new)) in
    let one = before_is t kept free.new in
    let two = all_stay (kept ++ t ∷ []) in
    rw (one, two) at changed
