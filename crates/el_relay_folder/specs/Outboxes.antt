-- A folder of transactions that wait for the node, each in a file of its own.
use Rattle.std.specs.Prelude.{◌≡◌, ◌⊎◌, ℕ, Bool, true, false, List, [], ◌∷◌, ◌++◌, Contains}
use Rattle.hex.specs.Hex.{encode_lower}
use Rattle.el_base.specs.declared.hash.Hash32.{Hash32}
use Rattle.el_tx.specs.declared.types.Tx.{Tx}
use Rattle.el_tx.specs.Encoding.{Encodes}
use Rattle.el_tx.specs.Hashing.{txid}

-- a file: the txid of its transaction, by which it is named, and its text
pub record TxFile : Type 0 where
  pub txid : Hash32
  pub text : List ℕ

-- a file that is being written, which nobody takes for a transaction's, and whether all of it is on the disk
pub record Draft : Type 0 where
  pub file : TxFile
  pub is_synced : Bool

-- a file that has no text yet
abbrev pub empty_draft : Hash32 → Draft
empty_draft id = record { file = record { txid = id; text = [] }; is_synced = false }

-- the file with more text, of which nothing need be on the disk
abbrev pub with_more_text : Draft → List ℕ → Draft
with_more_text draft text = record {
  file = record { txid = draft.file.txid; text = draft.file.text ++ text };
  is_synced = false;
}

-- the file, all of which is on the disk
abbrev pub durable : Draft → Draft
durable draft = record { file = draft.file; is_synced = true }

-- The files that were put under their names so far, in order, and those of them that are on the disk since.
-- At no moment another file is found under its name, and after a crash none but these, and each that was on
-- the disk, unless somebody took it away.
pub record Files : Type 0 where
  pub put : List TxFile
  pub lasting : List TxFile

-- one of the files is that of the transaction with the txid
abbrev pub HasFile : List TxFile → Hash32 → Type 0
HasFile files id = (file : TxFile) × Contains files file × (file.txid ≡ id)

-- what was on the disk is there
abbrev pub Last : Files → Files → Type 0
Last before after = (file : TxFile) → Contains before.lasting file → Contains after.lasting file

-- no file was put under its name
pub record PutsNone (before after : Files) : Type 0 where
  pub put : after.put ≡ before.put
  pub last : Last before after

-- no file was put under its name but this one, and that at most once
pub record PutsOnly (file : TxFile) (before after : Files) : Type 0 where
  pub put : (after.put ≡ before.put) ⊎ (after.put ≡ before.put ++ file ∷ [])
  pub last : Last before after

-- The bytes encode a transaction; the file is that one's, and has the bytes in hex digits.
pub record IsFileOf (bytes : List ℕ) (file : TxFile) : Type 0 where
  pub tx : Tx
  pub encoded : Encodes bytes tx
  pub is_txid : file.txid ≡ txid tx
  pub is_text : file.text ≡ encode_lower bytes

-- No file was put under its name but that of the transaction that the bytes encode, with all of its text, and
-- that at most once.
pub record PutsWhole (bytes : List ℕ) (before after : Files) : Type 0 where
  pub put : (after.put ≡ before.put)
      ⊎ ((file : TxFile) × IsFileOf bytes file × (after.put ≡ before.put ++ file ∷ []))
  pub last : Last before after

-- The bytes encode a transaction, and a file of it is on the disk.
pub record IsWaiting (bytes : List ℕ) (files : Files) : Type 0 where
  pub tx : Tx
  pub encoded : Encodes bytes tx
  pub lasting : HasFile files.lasting (txid tx)

-- What contracts see of a relay over a folder: the folder, how many calls were made with no bound, and how
-- many of them failed.
pub record RelayOf (F : Type 0) : Type 0 where
  pub outbox : F
  pub made : ℕ
  pub faults : ℕ
