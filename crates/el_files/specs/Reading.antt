-- What is read of the block files by a place, and when it isn't what was found there before.
use Rattle.std.specs.Prelude.{◌≡◌, ℕ, ◌+◌, List, length, take, drop, Option, None, Some}
use Rattle.el_base.specs.declared.hash.Hash32.{Hash32}
use Rattle.el_tx.specs.Encoding.{Encodes}
use Rattle.el_tx.specs.Hashing.{txid}
use Rattle.el_tx.specs.declared.types.Tx.{Tx}
use Rattle.el_chain.specs.declared.node.Spot.{Spot}
use Rattle.el_chain.specs.declared.limits.TheConstants.{PREFIX_SIZE}
use Rattle.el_chain.specs.declared.read_fault.ReadFault.{ReadFault}
use Rattle.el_chain.specs.declared.read_fault.ReadFault.TheVariants as fault

-- the bytes of the transaction at the spot of a file with these bytes: they stand in the block, after magic
-- and size
abbrev pub text_at : Spot → List ℕ → List ℕ
text_at spot bytes = take spot.len (drop (spot.place.offset + PREFIX_SIZE + spot.start) bytes)

-- There are `len` bytes, and they encode one transaction, and nothing after it, with this txid.
pub record IsTxOf (len : ℕ) (id : Hash32) (bytes : List ℕ) : Type 0 where
  pub size : length bytes ≡ len
  pub tx : Tx
  pub encoded : Encodes bytes tx
  pub is : txid tx ≡ id

-- The txid that these `len` bytes encode; None where they are more or fewer, or encode no transaction.
abbrev pub IsTxidIn : ℕ → List ℕ → Option Hash32 → Type 0
IsTxidIn len bytes (Some id) = IsTxOf len id bytes
IsTxidIn len bytes None = (id : Hash32) → IsTxOf len id bytes → ⊥

-- The bytes are not those of the transaction with this txid. What was found is the txid that they encode,
-- if they encode one.
pub record IsOtherTx (len : ℕ) (id : Hash32) (bytes : List ℕ) (found : Option Hash32) : Type 0 where
  pub other : IsTxOf len id bytes → ⊥
  pub txid_found : IsTxidIn len bytes found
