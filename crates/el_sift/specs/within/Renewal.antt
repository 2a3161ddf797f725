-- What a kept transaction takes over another chain, read off its entry, and what a sift over it finds.
use Rattle.std.specs.Prelude.{◌≡◌, ◌⊎◌, ℤ, pos, negsuc, Bool, true, false, not, nat_lt, if◌then◌else◌, ◌&&◌, ◌||◌, List, [], ◌∷◌, ◌++◌, Option, None, option_map, option_to_list}
use Rattle.std.specs.List.{AllByRecursion, list_any}
use Rattle.std.specs.Option.{is_some}
use Rattle.el_base.specs.declared.hash.Hash32.{Hash32}
use Rattle.el_tx.specs.declared.types.Outpoint.{Outpoint}
use Rattle.el_tx.specs.declared.types.TxIn.{TxIn}
use Rattle.el_tx.specs.declared.types.Tx.{Tx}
use Rattle.el_tx.specs.Encoding.{total_value}
use Rattle.el_tx.specs.Hashing.{txid}
use Rattle.el_block.specs.Blocks.{txids}
use Rattle.el_chain.specs.declared.placed.Placed.{Placed}
use Rattle.el_chain.specs.Chains.{Chain}
use Rattle.el_chain.specs.Headers.{same_hash}
use Rattle.el_mempool.specs.declared.held.Held.{Held}
use Rattle.el_mempool.specs.declared.held.Source.{Source}
use Rattle.el_mempool.specs.declared.held.KeptTx.{KeptTx}
use Rattle.el_mempool.specs.declared.fees.FeeChange.{FeeChange}
use Rattle.el_mempool.specs.Fees.{fee_change, stay_changes}
use Rattle.el_mempool.specs.Sift.{coin_named, output_among, named, any_takes, is_taken, held_by, total_held, is_confirmed, may_join}
use Rattle.el_mempool.specs.Standing.{kept_tx}
use Rattle.el_mempool.specs.Moving.{step_differs}
use Rattle.el_kept.specs.declared.table.Table.{Table}
use Rattle.el_kept.specs.declared.retaking.Takes.{Takes}
use Rattle.el_kept.specs.Tables.{has, same_froms, retaken}
use Rattle.el_kept.specs.Named.{kept_output}

-- the input with what it now takes
abbrev pub source_with : Source → Held → Source
source_with s h = record { from = s.from; held = h }

-- the inputs with what they now take
abbrev pub renewed : Chain → List Tx → List Source → List Source
renewed chain kept [] = []
renewed chain kept (s ∷ ss) =
    option_to_list (option_map (source_with s) (named chain kept s.from)) ++ renewed chain kept ss

-- each of them takes something
abbrev pub all_take : Chain → List Tx → List Source → Bool
all_take chain kept [] = true
all_take chain kept (s ∷ ss) = is_some (named chain kept s.from) && all_take chain kept ss

-- -1 where one of them takes an output of a kept one, else 0
abbrev pub flag_of : List Tx → List Source → ℤ
flag_of kept ss = if list_any (λ (s : Source). is_some (output_among s.from kept)) ss then negsuc 0 else pos 0

-- nobody takes what they take, and no two of them take the same
abbrev pub each_free : List Tx → List TxIn → Bool
each_free kept [] = true
each_free kept (i ∷ is) = not (is_taken i.from kept) && (not (any_takes i.from is) && each_free kept is)

-- what the outpoint names of a kept transaction that isn't gone, by a look-up, where any may be named
abbrev pub output_left : Table → List Hash32 → Bool → Outpoint → Option Held
output_left t gone any o = if any && not (has gone o.txid) then kept_output t o else None

-- a look-up tells which outputs of kept ones the inputs take; none of these is a coin of the chain
abbrev pub AreSeen : (Outpoint → Option Held) → Chain → List Tx → List Source → Type 0
AreSeen left chain kept ss = AllByRecursion (λ (s : Source). (left s.from ≡ output_among s.from kept)
    × (is_some (output_among s.from kept) ≡ true → coin_named chain s.from ≡ None)) ss

-- what the input takes may be another thing: its maker is gone, or its script hash is touched
abbrev pub may_differ : List Hash32 → List Hash32 → Source → Bool
may_differ gone touched s = has gone s.from.txid || has touched s.held.script

-- no input of the entry takes what may be another thing, and its txid is none of the confirmed ones
pub record IsUntouched (gone confirmed touched : List Hash32) (k : KeptTx) : Type 0 where
  pub other : has confirmed k.txid ≡ false
  pub same : list_any (may_differ gone touched) k.inputs ≡ false

-- these txids tell whether the chain has the entry's transaction
abbrev pub Knows : Chain → List Hash32 → KeptTx → Type 0
Knows chain confirmed k = has confirmed k.txid ≡ is_confirmed chain k.txid

-- a transaction of the block has that txid
abbrev pub has_in_block : Hash32 → Placed → Bool
has_in_block x b = has (txids b.block.txs) x

-- these txids tell of each of these entries whether the chain has its transaction
abbrev pub KnowsAll : Chain → List Hash32 → List KeptTx → Type 0
KnowsAll chain confirmed ks = AllByRecursion (λ (k : KeptTx). Knows chain confirmed k) ks

-- Of all transactions some were kept, and some are gone: what the outpoint names among the kept ones.
pub record IsLeft (all kept : List Tx) (gone : List Hash32) (o : Outpoint) : Type 0 where
  pub stays : has gone o.txid ≡ false → output_among o all ≡ output_among o kept
  pub goes : has gone o.txid ≡ true → output_among o kept ≡ None
  pub none : output_among o all ≡ None → output_among o kept ≡ None

-- A sift comes to the transaction, whose entry this is in a set over the chain before, after those that it
-- kept; with these txids are those that it did not keep.
pub record SiftsNext (before : Chain) (all kept : List Tx) (gone : List Hash32) (t : Tx)
    (k : KeptTx) : Type 0 where
  pub is : k ≡ kept_tx before all t
  pub named : AllByRecursion (λ (i : TxIn). is_some (named before all i.from) ≡ true) t.inputs
  pub free : each_free kept t.inputs ≡ true
  pub enough : nat_lt (total_held (held_by before all t.inputs)) (total_value t.outputs) ≡ false
  pub left : AllByRecursion (λ (i : TxIn). IsLeft all kept gone i.from) t.inputs

-- what is told of an entry that takes another thing
abbrev pub takes_of : KeptTx → Takes
takes_of k = record { txid = k.txid; flag = k.flag; fee = k.fee; inputs = k.inputs }

-- The entry is the second from now on: both are the same, or what the second takes is told after the rest.
abbrev pub IsKeptOn : KeptTx → KeptTx → List Takes → List Takes → Type 0
IsKeptOn k l old new = ((l ≡ k) × (new ≡ old)) ⊎ (new ≡ old ++ takes_of l ∷ [])

-- The sift over the chain came to the transaction after those that it kept: its txid is one more that is
-- gone, or what it takes is told; what changes of the fees; and which script hashes are added.
pub record IsSifted (before chain : Chain) (all kept : List Tx) (t : Tx) (gone gone_now : List Hash32)
    (changed changed_now : List Takes) (fees fees_now : List FeeChange) (old new : List Hash32) : Type 0 where
  pub went : may_join chain kept t ≡ false
      → ((id : Hash32) → has gone_now id ≡ (has gone id || same_hash id (txid t))) × (changed_now ≡ changed)
      × (fees_now ≡ fees ++ fee_change false (kept_tx before all t) ∷ [])
  pub stayed : may_join chain kept t ≡ true
      → (gone_now ≡ gone) × IsKeptOn (kept_tx before all t) (kept_tx chain kept t) changed changed_now
      × (same_froms (kept_tx before all t).inputs (kept_tx chain kept t).inputs ≡ true)
      × (fees_now ≡ fees ++ stay_changes (kept_tx before all t) (kept_tx chain kept t))
  pub touched : (s : Hash32) → list_any (same_hash s) new
      ≡ (list_any (same_hash s) old || step_differs before all chain kept s t)

-- the entry after each of these was told of it
abbrev pub settled : List Takes → KeptTx → KeptTx
settled [] k = k
settled (c ∷ cs) k = settled cs (retaken c k)
