-- What a set of kept transactions stands for, and which script hashes change.
use Rattle.std.specs.Prelude.{◌≡◌, ◌≢◌, ◌⊎◌, ℕ, true, false, Bool, ◌||◌, List, [], ◌∷◌, ◌++◌, map, option_map, option_to_list}
use Rattle.std.specs.List.{list_any}
use Rattle.el_base.specs.declared.hash.Hash32.{Hash32}
use Rattle.el_tx.specs.declared.types.TxIn.{TxIn}
use Rattle.el_tx.specs.declared.types.Tx.{Tx}
use Rattle.el_tx.specs.Hashing.{txid, vsize, full_encoding}
use Rattle.el_block.specs.Blocks.{AllDiffer}
use Rattle.el_chain.specs.Chains.{Chain}
use Rattle.el_chain.specs.Headers.{same_hash}
use Rattle.el_mempool.specs.declared.held.Held.{Held}
use Rattle.el_mempool.specs.declared.held.Source.{Source}
use Rattle.el_mempool.specs.declared.held.KeptTx.{KeptTx}
use Rattle.el_mempool.specs.declared.fees.FeeChange.{FeeChange}
use Rattle.el_mempool.specs.declared.entry.PoolLimits.{PoolLimits}
use Rattle.el_mempool.specs.Sift.{named, output_held, sift}
use Rattle.el_mempool.specs.Unconfirmed.{flag, fee, has_script, pool_history, pool_unspent}

-- an input with what it takes
abbrev pub source_at : TxIn → Held → Source
source_at i h = record { from = i.from; held = h }

-- the inputs, each with what it takes
abbrev pub sources : Chain → List Tx → List TxIn → List Source
sources chain kept [] = []
sources chain kept (i ∷ is) =
    option_to_list (option_map (source_at i) (named chain kept i.from)) ++ sources chain kept is

-- what is kept of a transaction
abbrev pub kept_tx : Chain → List Tx → Tx → KeptTx
kept_tx chain kept t = record {
  txid = txid t;
  flag = flag kept t;
  fee = fee chain kept t;
  vsize = vsize t;
  bytes = full_encoding t;
  inputs = sources chain kept t.inputs;
  outputs = map output_held t.outputs;
}

-- no txid stands twice
abbrev pub HaveDifferentTxids : List Tx → Type 0
HaveDifferentTxids kept = AllDiffer (map txid kept)

-- What is kept stands for these transactions over the chain: the sift keeps them all, beside each input
-- stands what its coin holds, and no txid stands twice.
pub record KeptStandFor (entries : List KeptTx) (chain : Chain) (kept : List Tx) : Type 0 where
  pub sifted : sift chain kept ≡ kept
  pub are : entries ≡ map (kept_tx chain kept) kept
  pub once : HaveDifferentTxids kept

-- The listed script hashes, each once, are those whose history or unspent outputs among the kept ones differ
-- between these over the one chain and those over the other.
pub record AreChanged (before : Chain) (old : List Tx) (after : Chain) (new : List Tx)
    (scripts : List Hash32) : Type 0 where
  pub listed : (s : Hash32) → list_any (same_hash s) scripts ≡ true
      → (pool_history before old s.0 ≢ pool_history after new s.0)
      ⊎ (pool_unspent old s.0 ≢ pool_unspent new s.0)
  pub others : (s : Hash32) → list_any (same_hash s) scripts ≡ false
      → (pool_history before old s.0 ≡ pool_history after new s.0)
      × (pool_unspent old s.0 ≡ pool_unspent new s.0)
  pub once : AllDiffer scripts

-- what callers see of a set: its transactions in order of arrival, its limits, and what its last change
-- changed of the fees
pub record PoolState : Type 0 where
  pub entries : List KeptTx
  pub limits : PoolLimits
  pub changes : List FeeChange

-- one of the entries has that txid
abbrev pub has_entry : Hash32 → List KeptTx → Bool
has_entry id entries = list_any (λ (k : KeptTx). same_hash id k.txid) entries

-- the coin that the input takes has the script hash
abbrev pub is_coin_at : List ℕ → Source → Bool
is_coin_at s x = has_script s x.held

-- an output of the entry has the script hash, or a coin that it takes
abbrev pub is_at_script : List ℕ → KeptTx → Bool
is_at_script s k = list_any (has_script s) k.outputs || list_any (is_coin_at s) k.inputs
