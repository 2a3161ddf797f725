-- What is said of a transaction that joined a set.
use Rattle.std.specs.Prelude.{◌≡◌, ℕ, List, [], ◌∷◌, ◌++◌, None}
use Rattle.el_base.specs.declared.hash.Hash32.{Hash32}
use Rattle.el_tx.specs.declared.types.Tx.{Tx}
use Rattle.el_tx.specs.Encoding.{Encodes}
use Rattle.el_tx.specs.Hashing.{txid}
use Rattle.el_chain.specs.Chains.{Chain}
use Rattle.el_mempool.specs.declared.entry.PoolLimits.{PoolLimits}
use Rattle.el_mempool.specs.declared.held.KeptTx.{KeptTx}
use Rattle.el_mempool.specs.Refusals.{tx_refusal}
use Rattle.el_mempool.specs.Standing.{KeptStandFor, AreChanged}

-- The bytes encode a transaction that no refusal keeps out, with that txid; the set then stands for the kept
-- ones with it at their end, and these are the script hashes that changed.
pub record Joined (limits : PoolLimits) (chain : Chain) (kept : List Tx) (bytes : List ℕ)
    (entries : List KeptTx) (id : Hash32) (scripts : List Hash32) : Type 0 where
  pub tx : Tx
  pub encoded : Encodes bytes tx
  pub free : tx_refusal limits chain kept tx ≡ None
  pub is_id : id ≡ txid tx
  pub stands : KeptStandFor entries chain (kept ++ tx ∷ [])
  pub changed : AreChanged chain kept chain (kept ++ tx ∷ []) scripts
