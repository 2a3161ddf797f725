-- The tables of a set: its transactions by their txids, in order of arrival, and who takes an outpoint.
use Rattle.std.specs.Prelude.{◌≡◌, ℕ, ℤ, ◌+◌, ◌*◌, ◌<◌, ◌≤◌, Bool, true, false, not, ◌&&◌, if◌then◌else◌, List, [], ◌∷◌, ◌++◌, length, find, filter, Option, None, Some, option_map, option_and_then, option_to_list, slice_get, sum_by, IfSome}
use Rattle.std.specs.List.{AllByRecursion, list_any}
use Rattle.std.specs.Option.{option_flatten}
use Rattle.indexmap.specs.IndexMap.{get, IsUnique, spare}
use Rattle.el_base.specs.declared.hash.Hash32.{Hash32}
use Rattle.el_tx.specs.declared.types.Outpoint.{Outpoint}
use Rattle.el_tx.specs.Hashing.{same_outpoint}
use Rattle.el_chain.specs.Headers.{same_hash}
use Rattle.el_mempool.specs.declared.held.Held.{Held}
use Rattle.el_mempool.specs.declared.held.Source.{Source}
use Rattle.el_mempool.specs.declared.held.KeptTx.{KeptTx}
use Rattle.el_mempool.specs.Standing.{is_at_script}
use Rattle.el_kept.specs.declared.table.Table.{Table}
use Rattle.el_kept.specs.declared.retaking.Takes.{Takes}

-- the transactions that stand in the table; None stands where one was dropped
abbrev pub undropped : List (Hash32 × Option KeptTx) → List KeptTx
undropped [] = []
undropped (e ∷ es) = option_to_list e.1 ++ undropped es

-- each stands under its own txid
abbrev pub StandUnderTxids : List (Hash32 × Option KeptTx) → Type 0
StandUnderTxids es = AllByRecursion (λ (e : Hash32 × Option KeptTx). IfSome e.1 (λ k. k.txid ≡ e.0)) es

-- the entry with that txid
abbrev pub by_txid : Hash32 → List KeptTx → Option KeptTx
by_txid id ks = find (λ (k : KeptTx). same_hash id k.txid) ks

-- the input takes the outpoint
abbrev pub is_source_of : Outpoint → Source → Bool
is_source_of o s = same_outpoint o s.from

-- the entry takes the outpoint
abbrev pub takes_from : Outpoint → KeptTx → Bool
takes_from o k = list_any (λ (s : Source). same_outpoint o s.from) k.inputs

-- what the output of an entry holds that the outpoint names
abbrev pub held_among : Outpoint → List KeptTx → Option Held
held_among o ks = option_and_then (λ (k : KeptTx). slice_get k.outputs o.index) (by_txid o.txid ks)

-- the txid is one of these
abbrev pub has : List Hash32 → Hash32 → Bool
has ids x = list_any (same_hash x) ids

-- the entries with none of these txids
abbrev pub without_txids : List Hash32 → List KeptTx → List KeptTx
without_txids ids ks = filter (λ (k : KeptTx). not (has ids k.txid)) ks

-- the entry that stands under a txid
abbrev pub slot : Table → Hash32 → Option KeptTx
slot t id = option_flatten (get same_hash t.kept id)

-- an output of it has the script hash, or a coin that it takes
abbrev pub slot_at_script : List ℕ → Option KeptTx → Bool
slot_at_script s None = false
slot_at_script s (Some k) = is_at_script s k

-- The table has these entries in order of arrival, each under its txid; beside them stand the taker of each
-- outpoint, of which there is but one, how many they are, and how many bytes they have.
pub record HasEntries (t : Table) (ks : List KeptTx) : Type 0 where
  pub are : undropped t.kept.entries ≡ ks
  pub right : StandUnderTxids t.kept.entries
  pub once : IsUnique same_hash t.kept
  pub takers : (o : Outpoint) → get same_outpoint t.spenders o
      ≡ option_map (λ k. k.txid) (find (takes_from o) ks)
  pub alone : (o : Outpoint) → AllByRecursion (λ (k : KeptTx).
      takes_from o k ≡ true → get same_outpoint t.spenders o ≡ Some k.txid) ks
  pub count : t.count ≡ length ks
  pub bytes : t.bytes ≡ sum_by (λ (k : KeptTx). length k.bytes) ks

-- Slots whose transactions were dropped outnumber the kept ones by no more than one.
abbrev pub HasFewSlots : Table → Type 0
HasFewSlots t = length t.kept.entries ≤ t.count * 2 + 1

-- two tables have the same entries and takers
pub record HaveSameEntries (t u : Table) : Type 0 where
  pub kept : u.kept.entries ≡ t.kept.entries
  pub spenders : u.spenders.entries ≡ t.spenders.entries
  pub count : u.count ≡ t.count
  pub bytes : u.bytes ≡ t.bytes
  pub kept_once : IsUnique same_hash t.kept → IsUnique same_hash u.kept

-- there is room for one more transaction with so many inputs, and for another name of a slot
pub record HasTxRoom (t : Table) (inputs : ℕ) : Type 0 where
  pub kept : 1 < spare t.kept
  pub spenders : inputs ≤ spare t.spenders

-- the entry with that flag and fee and these inputs
abbrev pub with_takes : KeptTx → ℤ → ℕ → List Source → KeptTx
with_takes k flag fee inputs =
    record {
      txid = k.txid;
      flag = flag;
      fee = fee;
      vsize = k.vsize;
      bytes = k.bytes;
      inputs = inputs;
      outputs = k.outputs;
    }

-- both take the same outpoints in the same order
abbrev pub same_froms : List Source → List Source → Bool
same_froms [] [] = true
same_froms [] (b ∷ bs) = false
same_froms (a ∷ xs) [] = false
same_froms (a ∷ xs) (b ∷ bs) = same_outpoint a.from b.from && same_froms xs bs

-- it is told of this entry's outpoints
abbrev pub is_of : Takes → Option KeptTx → Bool
is_of c None = false
is_of c (Some k) = same_froms k.inputs c.inputs

-- the entry takes what is told of it, if this is of its txid and its outpoints
abbrev pub retaken : Takes → KeptTx → KeptTx
retaken c k =
    if same_hash c.txid k.txid && same_froms k.inputs c.inputs then with_takes k c.flag c.fee c.inputs else k
