-- Transactions and blocks that are made for tests and for trial runs: each is determined by a few numbers.
-- They keep the rules on form (Bitcoin's serialization), and no more: a script is no program that anyone
-- could run, and the proof of work's target is the easiest one, of the network regtest.
use Rattle.std.specs.Prelude.{ℕ, ◌+◌, ◌*◌, List, [], ◌∷◌, ◌++◌, length, map, sum_by, pos}
use Rattle.std.specs.Int.{w32, to_le_bytes}
use Rattle.el_base.specs.declared.hash.Hash32.{Hash32}
use Rattle.el_merkle.specs.Merkle.{root}
use Rattle.el_tx.specs.Hashing.{no_outpoint}
use Rattle.el_tx.specs.declared.types.Outpoint.{Outpoint}
use Rattle.el_tx.specs.declared.types.TxIn.{TxIn}
use Rattle.el_tx.specs.declared.types.TxOut.{TxOut}
use Rattle.el_tx.specs.declared.types.Tx.{Tx}
use Rattle.el_tx.specs.declared.types.Header.{Header}
use Rattle.el_block.specs.Blocks.{txids, block_encoding}
use Rattle.el_block.specs.declared.block.Block.{Block}

-- the locking script of a number: the byte 4 and the number in four bytes, the lowest first
abbrev pub locking_script : ℕ → List ℕ
locking_script k = 4 ∷ to_le_bytes w32 k

-- an output of so many satoshi to the script of a number
abbrev pub paid : ℕ → ℕ → TxOut
paid value k = record { value = value; script = locking_script k }

-- the unlocking script by which coinbases differ: the byte 5, the block's height in four bytes, the lowest
-- first, and one byte more
abbrev pub height_script : ℕ → ℕ → List ℕ
height_script height branch = 5 ∷ (to_le_bytes w32 height ++ branch ∷ [])

-- an input without a witness
abbrev pub input : Outpoint → List ℕ → TxIn
input from script = record { from = from; script = script; sequence = 4294967295; witness = [] }

-- a transaction of version 1 that needs no lock time
abbrev pub transaction : List TxIn → List TxOut → Tx
transaction inputs outputs = record { version = pos 1; inputs = inputs; outputs = outputs; lock = 0 }

-- the coinbase of a height, told from others of that height by a byte: 50 bitcoin to the script of k
abbrev pub coinbase : ℕ → ℕ → ℕ → Tx
coinbase height branch k =
    transaction (input no_outpoint (height_script height branch) ∷ []) (paid 5000000000 k ∷ [])

-- an input that takes a coin with an empty script
abbrev pub spending_input : Outpoint → TxIn
spending_input from = input from []

-- the coins at the outpoints, taken into outputs, each of so many satoshi to the script of a number
abbrev pub spend : List Outpoint → List (ℕ × ℕ) → Tx
spend from to = transaction (map spending_input from) (map (λ (p : ℕ × ℕ). paid p.0 p.1) to)

-- the satoshi of such outputs together
abbrev pub total_paid : List (ℕ × ℕ) → ℕ
total_paid to = sum_by (λ (p : ℕ × ℕ). p.0) to

-- the header: 600 seconds after the one before, counted from the time of Bitcoin's second block, and the
-- target of the network regtest, 0x207fffff
abbrev pub header : Hash32 → Hash32 → ℕ → ℕ → Header
header previous merkle_root height branch = record {
  version = pos 1;
  previous = previous;
  root = merkle_root;
  time = 1231006505 + 600 * height;
  bits = 545259519;
  nonce = branch;
}

-- the block of these transactions after the block with that hash
abbrev pub block : Hash32 → ℕ → ℕ → List Tx → Block
block previous height branch txs =
    record { header = header previous (root (txids txs)) height branch; txs = txs }

-- a block as a node's file has it: the network's four bytes, the block's size in four bytes, and its bytes
abbrev pub block_record : List ℕ → Block → List ℕ
block_record magic b = magic ++ (to_le_bytes w32 (length (block_encoding b)) ++ block_encoding b)
