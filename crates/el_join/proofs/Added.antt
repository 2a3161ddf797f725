-- An entry that joined a table: what the set then stands for, and which script hashes changed.
use Rattle.std.proofs.Common.{◌≡◌, ℕ, true, List, [], ◌∷◌, ◌++◌, Option, None, Some, refl, ap, sym, subst, ◌∙◌}
use Rattle.std.specs.List.{AllByRecursion, list_any}
use Rattle.std.specs.Prelude.{map, option_map, option_to_list}
use Rattle.std.specs.Option.{option_or}
use Rattle.indexmap.specs.IndexMap.{get}
use Rattle.el_base.specs.declared.hash.Hash32.{Hash32}
use Rattle.el_tx.specs.declared.types.TxIn.{TxIn}
use Rattle.el_tx.specs.declared.types.Tx.{Tx}
use Rattle.el_tx.specs.Hashing.{txid, same_outpoint}
use Rattle.el_block.specs.Blocks.{AllDiffer}
use Rattle.el_chain.specs.Chains.{Chain}
use Rattle.el_chain.specs.Headers.{same_hash}
use Rattle.el_mempool.specs.declared.held.Held.{Held}
use Rattle.el_mempool.specs.declared.held.Source.{Source}
use Rattle.el_mempool.specs.declared.held.KeptTx.{KeptTx}
use Rattle.el_mempool.specs.declared.entry.PoolLimits.{PoolLimits}
use Rattle.el_mempool.specs.declared.fault.PoolFault.{PoolFault}
use Rattle.el_mempool.specs.declared.fault.PoolFault.TheVariants as refusal
use Rattle.el_kept.specs.declared.table.Table.{Table}
use Rattle.el_mempool.specs.Sift.{named, any_takes}
use Rattle.el_mempool.specs.Refusals.{where_so, missing, spender_of, conflict, known_refusal, coin_refusal, room_refusal, tx_refusal}
use Rattle.el_mempool.specs.Standing.{source_at, sources, kept_tx, KeptStandFor, is_at_script}
use Rattle.el_mempool.specs.Adding.{Joined}
use Rattle.el_mempool.specs.declared.fees.FeeChange.{FeeChange}
use Rattle.el_mempool.specs.Fees.{fee_change, AreFeeChanges}
use Rattle.el_kept.specs.Tables.{undropped, by_txid, HasEntries}
use Rattle.el_kept.proofs.Lookups.{is_over, none_of, takers_are}
use Rattle.el_join.specs.within.Tables.{Joins}
use Rattle.el_kept.proofs.Entries.{entry_found}
use Rattle.el_kept.specs.Named.{IsTableOver}
use Rattle.el_mempool.proofs.Joining.{both_none, is_free, stands_more}
use Rattle.el_mempool.proofs.Arrivals.{arrival_changes}
use Rattle.el_mempool.proofs.FeeChanges.{changes_are, one_more}

no_spender : (f : Tx → PoolFault) (x : Option Tx) → option_map f x ≡ None → option_map txid x ≡ None
no_spender f None h = refl
no_spender f (Some t) h = absurd (cc)

-- nobody takes what the inputs take
free_inputs : (table : Table) (chain : Chain) (kept : List Tx) (id : Hash32) (is : List TxIn) → IsTableOver table chain kept → conflict kept id is ≡ None
    → AllByRecursion (λ (s : Source). get same_outpoint table.spenders s.from ≡ None) (sources chain kept is)
free_inputs table chain kept id [] h c = tt
free_inputs table chain kept id (i ∷ is) h c =
    let first = both_none (option_map (λ (t : Tx). refusal.Conflict i.from (txid t)) (spender_of i.from kept)) (option_or (where_so (any_takes i.from is) (refusal.Conflict i.from id)) (conflict kept id is)) c in
    let second = both_none (where_so (any_takes i.from is) (refusal.Conflict i.from id)) (conflict kept id is) first.1 in
    let none = takers_are table chain kept i.from h ∙ no_spender (λ (t : Tx). refusal.Conflict i.from (txid t)) (spender_of i.from kept) first.0 in
    by (named chain kept i.from) none (free_inputs table chain kept id is h second.1)
  where
    by : (x : Option Held) → get same_outpoint table.spenders i.from ≡ None → AllByRecursion (λ (s : Source). get same_outpoint table.spenders s.from ≡ None) (sources chain kept is)
        → AllByRecursion (λ (s : Source). get same_outpoint table.spenders s.from ≡ None) (option_to_list (option_map (source_at i) x) ++ sources chain kept is)
    by None none more = more
    by (Some v) none more = (none, more)

no_conflict : (limits : PoolLimits) (chain : Chain) (kept : List Tx) (t : Tx) → tx_refusal limits chain kept t ≡ None → conflict kept (txid t) t.inputs ≡ None
no_conflict limits chain kept t h =
    let first = both_none (known_refusal chain kept t) (option_or (coin_refusal chain kept t) (room_refusal limits chain kept t)) h in
    let second = both_none (coin_refusal chain kept t) (room_refusal limits chain kept t) first.1 in
    (both_none (missing chain kept t.inputs) (conflict kept (txid t) t.inputs) second.0).1

-- what the call that put it in says
abbrev pub PutsIn : Table → KeptTx → List KeptTx → Type 0
PutsIn table k new =
    by_txid k.txid (undropped table.kept.entries) ≡ None → AllByRecursion (λ (s : Source). get same_outpoint table.spenders s.from ≡ None) k.inputs → new ≡ undropped table.kept.entries ++ k ∷ []

-- the entry stands after the others
pub stands_last : (limits : PoolLimits) (table : Table) (chain : Chain) (kept : List Tx) (bytes : List ℕ) (k : KeptTx) (new : List KeptTx)
    → HasEntries table (undropped table.kept.entries) → KeptStandFor (undropped table.kept.entries) chain kept → Joins limits chain kept bytes k → PutsIn table k new
    → new ≡ undropped table.kept.entries ++ k ∷ []
stands_last limits table chain kept bytes k new t h j puts =
    let free = is_free limits chain kept j.tx j.free in
    let over = is_over table chain kept t h in
    let id_is : k.txid ≡ txid j.tx = ap (λ (x : KeptTx). x.txid) j.is in
    let unknown : by_txid k.txid (undropped table.kept.entries) ≡ None =
    ap (λ x. by_txid x (undropped table.kept.entries)) id_is ∙ ap (by_txid (txid j.tx)) h.are
    ∙ none_of (by_txid (txid j.tx) (map (kept_tx chain kept) kept)) (entry_found (txid j.tx) chain kept kept ∙ free.new) in
    let untaken : AllByRecursion (λ (s : Source). get same_outpoint table.spenders s.from ≡ None) k.inputs =
    taken_by (sym (ap (λ (x : KeptTx). x.inputs) j.is)) (free_inputs table chain kept (txid j.tx) j.tx.inputs over (no_conflict limits chain kept j.tx j.free)) in
    puts unknown untaken
  where
    taken_by : {xs ys : List Source} → xs ≡ ys → AllByRecursion (λ (s : Source). get same_outpoint table.spenders s.from ≡ None) xs → AllByRecursion (λ (s : Source). get same_outpoint table.spenders s.from ≡ None) ys
    taken_by {xs} {ys} e all = subst (λ (l : List Source). AllByRecursion (λ (s : Source). get same_outpoint table.spenders s.from ≡ None) l) e all

-- what comes of it for the fees
pub fees_joined : (limits : PoolLimits) (table : Table) (chain : Chain) (kept : List Tx) (bytes : List ℕ) (k : KeptTx) (new : List KeptTx) (changes : List FeeChange)
    → HasEntries table (undropped table.kept.entries) → KeptStandFor (undropped table.kept.entries) chain kept → Joins limits chain kept bytes k → PutsIn table k new
    → changes ≡ fee_change true k ∷ [] → AreFeeChanges (undropped table.kept.entries) new changes
fees_joined limits table chain kept bytes k new changes t h j puts are =
    subst (λ (l : List KeptTx). AreFeeChanges (undropped table.kept.entries) l changes) (sym (stands_last limits table chain kept bytes k new t h j puts))
    (changes_are (undropped table.kept.entries) (undropped table.kept.entries ++ k ∷ []) changes (are ∙ sym (one_more (undropped table.kept.entries) k)))

pub joined_is : (limits : PoolLimits) (table : Table) (chain : Chain) (kept : List Tx) (bytes : List ℕ) (k : KeptTx) (new : List KeptTx) (id : Hash32) (scripts : List Hash32)
    → HasEntries table (undropped table.kept.entries) → KeptStandFor (undropped table.kept.entries) chain kept → Joins limits chain kept bytes k → PutsIn table k new → id ≡ k.txid
    → ((s : Hash32) → list_any (same_hash s) scripts ≡ is_at_script s.0 k) → AllDiffer scripts → Joined limits chain kept bytes new id scripts
joined_is limits table chain kept bytes k new id scripts t h j puts same each once =
    let id_is : k.txid ≡ txid j.tx = ap (λ (x : KeptTx). x.txid) j.is in
    let is_new : new ≡ undropped table.kept.entries ++ kept_tx chain kept j.tx ∷ [] =
    stands_last limits table chain kept bytes k new t h j puts ∙ ap (λ x. undropped table.kept.entries ++ x ∷ []) j.is in
    record {
      tx = j.tx;
      encoded = j.encoded;
      free = j.free;
      is_id = same ∙ id_is;
      stands = rw is_new (stands_more limits (undropped table.kept.entries) chain kept j.tx h j.free);
      changed = arrival_changes limits (undropped table.kept.entries) chain kept j.tx scripts h j.free once (λ s. each s ∙ ap (is_at_script s.0) j.is);
    }
