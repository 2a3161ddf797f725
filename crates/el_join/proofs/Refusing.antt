-- Refusals by a table and a ledger are those of the chain and the kept ones.
use Rattle.std.proofs.Common.{◌≡◌, ◌⊎◌, inl, inr, ℕ, ℤ, pos, negsuc, ◌||◌, ◌+◌, ◌-◌, ◌≤◌, true, false, Bool, cond, if◌then◌else◌, List, [], ◌∷◌, length, Option, None, Some, refl, ap, sym, ◌∙◌}
use Rattle.std.proofs.lemmas.List.{length-map}
use Rattle.std.proofs.lemmas.List.Sums.{sum_by-cons}
use Rattle.std.specs.List.{list_any, sum_by}
use Rattle.std.specs.Prelude.{map, option_map}
use Rattle.std.specs.Option.{option_or, option_flatten, is_some}
use Rattle.indexmap.specs.IndexMap.{get}
use Rattle.el_base.specs.declared.hash.Hash32.{Hash32}
use Rattle.el_tx.specs.declared.types.TxIn.{TxIn}
use Rattle.el_tx.specs.declared.types.TxOut.{TxOut}
use Rattle.el_tx.specs.declared.types.Tx.{Tx}
use Rattle.el_tx.specs.Encoding.{Encodes, stripped, with_witness, total_value, max_money}
use Rattle.el_tx.specs.Hashing.{txid, vsize, same_outpoint, full_encoding}
use Rattle.el_chain.specs.Chains.{Chain}
use Rattle.el_chain.specs.Headers.{same_hash}
use Rattle.el_chain.specs.declared.node.Spot.{Spot}
use Rattle.el_model.specs.Queries.{find_tx}
use Rattle.el_mempool.specs.declared.held.Source.{Source}
use Rattle.el_mempool.specs.declared.held.KeptTx.{KeptTx}
use Rattle.el_mempool.specs.declared.entry.PoolLimits.{PoolLimits}
use Rattle.el_mempool.specs.declared.fault.PoolFault.{PoolFault}
use Rattle.el_mempool.specs.declared.fault.PoolFault.TheVariants as refusal
use Rattle.el_kept.specs.declared.table.Table.{Table}
use Rattle.el_mempool.specs.Unconfirmed.{flag, fee}
use Rattle.el_kept.proofs.Lookups.{output_is, takers_are, confirmed_is, sources_sum, fee_is, any_from}
use Rattle.el_mempool.proofs.Joining.{both_none, names_all}
use Rattle.el_mempool.specs.Sift.{output_among, held_by, total_held, any_takes, is_confirmed, output_held}
use Rattle.el_mempool.specs.Refusals.{is_kept, spender_of, conflict, where_so, total_bytes, room_refusal, has_coinbase_form, known_refusal, coin_refusal, missing, tx_refusal, IsTxRefused}
use Rattle.el_mempool.specs.Standing.{sources, kept_tx}
use Rattle.el_kept.specs.Tables.{by_txid}
use Rattle.el_kept.specs.Named.{total_sources, kept_output, IsTableOver}
use Rattle.el_join.specs.within.Tables.{conflict_by, flag_by, room_by}
use Rattle.el_kept.proofs.Entries.{found_standing, entry_found}
use Rattle.el_mempool.proofs.Named.{AreNamed}

-- a transaction with the txid is kept
pub known_is : (t : Table) (chain : Chain) (kept : List Tx) (id : Hash32) → IsTableOver t chain kept → is_some (option_flatten (get same_hash t.kept id)) ≡ is_kept id kept
known_is t chain kept id h =
    ap is_some (found_standing id t.kept.entries h.table.right h.table.once ∙ ap (by_txid id) (h.table.are ∙ h.stands.are)) ∙ entry_found id chain kept kept

pub conflict_is : (t : Table) (chain : Chain) (kept : List Tx) (id : Hash32) (is : List TxIn) → IsTableOver t chain kept → conflict_by (get same_outpoint t.spenders) id is ≡ conflict kept id is
conflict_is t chain kept id [] h = refl
conflict_is t chain kept id (i ∷ is) h =
    ap (λ x. option_or (option_map (λ b. refusal.Conflict i.from b) x) (option_or (where_so (any_takes i.from is) (refusal.Conflict i.from id)) (conflict_by (get same_outpoint t.spenders) id is))) (takers_are t chain kept i.from h)
    ∙ by (spender_of i.from kept)
    ∙ ap (λ x. option_or (option_map (λ (u : Tx). refusal.Conflict i.from (txid u)) (spender_of i.from kept)) (option_or (where_so (any_takes i.from is) (refusal.Conflict i.from id)) x)) (conflict_is t chain kept id is h)
  where
    by : (x : Option Tx)
        → option_or (option_map (λ b. refusal.Conflict i.from b) (option_map txid x)) (option_or (where_so (any_takes i.from is) (refusal.Conflict i.from id)) (conflict_by (get same_outpoint t.spenders) id is))
        ≡ option_or (option_map (λ (u : Tx). refusal.Conflict i.from (txid u)) x) (option_or (where_so (any_takes i.from is) (refusal.Conflict i.from id)) (conflict_by (get same_outpoint t.spenders) id is))
    by None = refl
    by (Some u) = refl

bytes_sum : (chain : Chain) (all ts : List Tx) → sum_by (λ (k : KeptTx). length k.bytes) (map (kept_tx chain all) ts) ≡ total_bytes ts
bytes_sum chain all [] = refl
bytes_sum chain all (t ∷ ts) =
    sum_by-cons (λ (k : KeptTx). length k.bytes) (kept_tx chain all t) (map (kept_tx chain all) ts) ∙ ap (λ n. length (full_encoding t) + n) (bytes_sum chain all ts)
    ∙ sym (sum_by-cons (λ (u : Tx). length (full_encoding u)) t ts)

pub encoded_full : (bytes : List ℕ) (t : Tx) → Encodes bytes t → full_encoding t ≡ bytes
encoded_full bytes t (stripped lawful none is) = rw none (sym is)
encoded_full bytes t (with_witness lawful some is) = rw some (sym is)

pub room_is : (table : Table) (limits : PoolLimits) (chain : Chain) (kept : List Tx) (t : Tx) (bytes : List ℕ) (ss : List Source) (size : ℕ) → IsTableOver table chain kept → Encodes bytes t
    → ss ≡ sources chain kept t.inputs → size ≡ length bytes → room_by limits table.count table.bytes ss t.outputs size ≡ room_refusal limits chain kept t
room_is table limits chain kept t bytes ss size h enc are long =
    let count : table.count ≡ length kept = h.table.count ∙ ap length h.stands.are ∙ length-map kept (kept_tx chain kept) in
    let total : table.bytes ≡ total_bytes kept = h.table.bytes ∙ ap (sum_by (λ (k : KeptTx). length k.bytes)) h.stands.are ∙ bytes_sum chain kept kept in
    let taken : total_sources ss ≡ total_held (held_by chain kept t.inputs) = ap total_sources are ∙ sources_sum chain kept t.inputs in
    let much : size ≡ length (full_encoding t) = long ∙ ap length (sym (encoded_full bytes t enc)) in
    rw (count, total, taken, much) refl

-- ---- what the transaction is

pub first_known : (chain : Chain) (kept : List Tx) (t : Tx) → has_coinbase_form t ≡ true → Some refusal.CoinbaseForm ≡ known_refusal chain kept t
first_known chain kept t h = rw h refl

pub second_known : (chain : Chain) (kept : List Tx) (t : Tx) (id : Hash32) (found : Option Spot) → id ≡ txid t → has_coinbase_form t ≡ false → found ≡ find_tx chain id → is_some found ≡ true
    → Some refusal.Confirmed ≡ known_refusal chain kept t
second_known chain kept t id found is form says some =
    let there : is_confirmed chain (txid t) ≡ true = ap (is_confirmed chain) (sym is) ∙ sym (confirmed_is chain id) ∙ ap is_some (sym says) ∙ some in
    rw (form, there) refl

pub third_known : (table : Table) (chain : Chain) (kept : List Tx) (t : Tx) (id : Hash32) (found : Option Spot) (b : Bool) → IsTableOver table chain kept → id ≡ txid t → has_coinbase_form t ≡ false → found ≡ find_tx chain id
    → is_some found ≡ false → is_some (option_flatten (get same_hash table.kept id)) ≡ b → cond b (Some refusal.Known) None ≡ known_refusal chain kept t
third_known table chain kept t id found b h is form says none last =
    let apart : is_confirmed chain (txid t) ≡ false = ap (is_confirmed chain) (sym is) ∙ sym (confirmed_is chain id) ∙ ap is_some (sym says) ∙ none in
    let known : is_kept (txid t) kept ≡ b = ap (λ x. is_kept x kept) (sym is) ∙ sym (known_is table chain kept id h) ∙ last in
    rw (form, apart, known) refl

-- ---- the inputs, and all together

pub coins_are : (table : Table) (chain : Chain) (kept : List Tx) (t : Tx) (id : Hash32) (is : List TxIn) (x y : Option PoolFault) → IsTableOver table chain kept → id ≡ txid t → is ≡ t.inputs
    → missing chain kept is ≡ None → x ≡ conflict_by (get same_outpoint table.spenders) id is → x ≡ y → coin_refusal chain kept t ≡ y
coins_are table chain kept t id is x y h same whole none says last =
    let gone : missing chain kept t.inputs ≡ None = ap (missing chain kept) (sym whole) ∙ none in
    ap (λ z. option_or z (conflict kept (txid t) t.inputs)) gone
    ∙ sym (conflict_is table chain kept (txid t) t.inputs h)
    ∙ ap (λ i. conflict_by (get same_outpoint table.spenders) i t.inputs) (sym same)
    ∙ ap (conflict_by (get same_outpoint table.spenders) id) (sym whole)
    ∙ sym says ∙ last

pub money_of : (bytes : List ℕ) (t : Tx) → Encodes bytes t → total_value t.outputs ≤ max_money
money_of bytes t (stripped lawful none is) = lawful.money
money_of bytes t (with_witness lawful some is) = lawful.money

-- what is refused
abbrev pub Refused : PoolLimits → Chain → List Tx → List ℕ → PoolFault → Type 0
Refused limits chain kept bytes e = (e ≡ refusal.Memory) ⊎ ((e ≡ refusal.DiskFailed) ⊎ IsTxRefused limits chain kept bytes e)

pub bad_refused : (limits : PoolLimits) (chain : Chain) (kept : List Tx) (bytes : List ℕ) (e : PoolFault) → (e ≡ refusal.Memory) ⊎ ((e ≡ refusal.Bad) × ((t : Tx) → Encodes bytes t → ⊥))
    → Refused limits chain kept bytes e
bad_refused limits chain kept bytes e (inl h) = inl h
bad_refused limits chain kept bytes e (inr h) = inr (inr (inl h))

pub known_refused : (limits : PoolLimits) (chain : Chain) (kept : List Tx) (bytes : List ℕ) (t : Tx) (e : PoolFault) (x : Option PoolFault) → Encodes bytes t → x ≡ known_refusal chain kept t → x ≡ Some e
    → Refused limits chain kept bytes e
known_refused limits chain kept bytes t e x enc says is =
    let here : known_refusal chain kept t ≡ Some e = sym says ∙ is in
    inr (inr (inr (t, enc, ap (λ y. option_or y (option_or (coin_refusal chain kept t) (room_refusal limits chain kept t))) here)))

pub coins_refused : (limits : PoolLimits) (chain : Chain) (kept : List Tx) (bytes : List ℕ) (t : Tx) (e : PoolFault) (x : Option PoolFault) → Encodes bytes t → x ≡ known_refusal chain kept t → x ≡ None
    → (e ≡ refusal.Memory) ⊎ ((e ≡ refusal.DiskFailed) ⊎ (coin_refusal chain kept t ≡ Some e)) → Refused limits chain kept bytes e
coins_refused limits chain kept bytes t e x enc says none (inl h) = inl h
coins_refused limits chain kept bytes t e x enc says none (inr (inl h)) = inr (inl h)
coins_refused limits chain kept bytes t e x enc says none (inr (inr h)) =
    let free : known_refusal chain kept t ≡ None = sym says ∙ none in
    inr (inr (inr (t, enc, ap (λ y. option_or y (option_or (coin_refusal chain kept t) (room_refusal limits chain kept t))) free ∙ ap (λ y. option_or y (room_refusal limits chain kept t)) h)))

-- what is asked of the sums and the sizes
pub all_is : (table : Table) (limits : PoolLimits) (chain : Chain) (kept : List Tx) (t : Tx) (bytes : List ℕ) (ss : List Source) (outs : List TxOut) (size : ℕ) (x y z : Option PoolFault) → IsTableOver table chain kept
    → Encodes bytes t → x ≡ known_refusal chain kept t → x ≡ None → coin_refusal chain kept t ≡ None → ss ≡ sources chain kept t.inputs → outs ≡ t.outputs → size ≡ length bytes
    → y ≡ room_by limits table.count table.bytes ss outs size → y ≡ z → tx_refusal limits chain kept t ≡ z
all_is table limits chain kept t bytes ss outs size x y z h enc says none coins are whole long room last =
    let free : known_refusal chain kept t ≡ None = sym says ∙ none in
    ap (λ w. option_or w (option_or (coin_refusal chain kept t) (room_refusal limits chain kept t))) free
    ∙ ap (λ w. option_or w (room_refusal limits chain kept t)) coins
    ∙ sym (room_is table limits chain kept t bytes ss size h enc are long)
    ∙ ap (λ o. room_by limits table.count table.bytes ss o size) (sym whole)
    ∙ sym room ∙ last

-- inputs of which the same is said of each
any_same : (f g : TxIn → Bool) (is : List TxIn) → ((i : TxIn) → f i ≡ g i) → list_any f is ≡ list_any g is
any_same f g [] e = refl
any_same f g (i ∷ is) e = let here = e i in rw here (ap (λ b. g i || b) (any_same f g is e))

-- the flag of a transaction after those of the table
pub flag_is : (table : Table) (chain : Chain) (kept : List Tx) (t : Tx) (ss : List Source) → IsTableOver table chain kept → AreNamed chain kept t.inputs → ss ≡ sources chain kept t.inputs → flag_by table ss ≡ flag kept t
flag_is table chain kept t ss h names are =
    ap (flag_by table) are ∙ ap (λ b. if b then negsuc 0 else pos 0)
    (any_from (λ o. is_some (kept_output table o)) chain kept t.inputs names
    ∙ any_same (λ (i : TxIn). is_some (kept_output table i.from)) (λ (i : TxIn). is_some (output_among i.from kept)) t.inputs (λ i. ap is_some (output_is table chain kept i.from h)))

-- inputs that are not refused name something
pub names_of : (chain : Chain) (kept : List Tx) (t : Tx) → coin_refusal chain kept t ≡ None → AreNamed chain kept t.inputs
names_of chain kept t none = names_all chain kept t.inputs (both_none (missing chain kept t.inputs) (conflict kept (txid t) t.inputs) none).0

pub kept_is : (table : Table) (chain : Chain) (kept : List Tx) (t : Tx) (bytes : List ℕ) (id : Hash32) (ss : List Source) (outs : List TxOut) (k : KeptTx) → IsTableOver table chain kept → coin_refusal chain kept t ≡ None
    → Encodes bytes t → id ≡ txid t → ss ≡ sources chain kept t.inputs → outs ≡ t.outputs
    → k ≡ record { txid = id; flag = flag_by table ss; fee = total_sources ss - total_held (map output_held outs); vsize = vsize t; bytes = bytes; inputs = ss; outputs = map output_held outs }
    → k ≡ kept_tx chain kept t
kept_is table chain kept t bytes id ss outs k h none enc same are whole is =
    let full = sym (encoded_full bytes t enc) in
    let flags = flag_is table chain kept t ss h (names_of chain kept t none) are in
    let fees = fee_is chain kept t ss (map output_held outs) are (ap (map output_held) whole) in
    is ∙ by flags fees (rw (same, are, whole, full) refl)
  where
    by : {f g : ℤ} {m n : ℕ} → f ≡ g → m ≡ n
        → ◌≡◌ {A = KeptTx} (record { txid = id; flag = g; fee = n; vsize = vsize t; bytes = bytes; inputs = ss; outputs = map output_held outs }) (record { txid = txid t; flag = g; fee = n; vsize = vsize t; bytes = full_encoding t; inputs = sources chain kept t.inputs; outputs = map output_held t.outputs })
        → ◌≡◌ {A = KeptTx} (record { txid = id; flag = f; fee = m; vsize = vsize t; bytes = bytes; inputs = ss; outputs = map output_held outs }) (record { txid = txid t; flag = g; fee = n; vsize = vsize t; bytes = full_encoding t; inputs = sources chain kept t.inputs; outputs = map output_held t.outputs })
    by e d same = rw (e, d) same
