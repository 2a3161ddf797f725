-- The hash and the size of a transaction (BIP 141), and whether it is a coinbase.
use Rattle.std.specs.Prelude.{ℕ, ◌+◌, ◌-◌, ◌*◌, ◌/◌, ◌^◌, ◌==◌, ◌&&◌, min, Bool, false, List, [], ◌∷◌, length, replicate, if◌then◌else◌}
use Rattle.std.specs.Str.{bytes_eq}
use Rattle.el_base.specs.Hashing.{sha256d}
use Rattle.el_base.specs.declared.hash.Hash32.{Hash32}
use Rattle.el_tx.specs.declared.types.Outpoint.{Outpoint}
use Rattle.el_tx.specs.declared.types.TxIn.{TxIn}
use Rattle.el_tx.specs.declared.types.Tx.{Tx}
use Rattle.el_tx.specs.Encoding.{stripped_encoding, witness_encoding, has_witness}

-- SHA-256 twice over the form without marker, flag and witnesses
abbrev pub txid : Tx → Hash32
txid t = record { 0 = sha256d (stripped_encoding t) }

-- the whole encoding: with witnesses where there are any (BIP 144)
abbrev pub full_encoding : Tx → List ℕ
full_encoding t = if has_witness t then witness_encoding t else stripped_encoding t

-- a size as 128 bits tell it: 2^128 - 1 stands for each greater one, which no memory holds
abbrev pub capped : ℕ → ℕ
capped n = min n (2 ^ 128 - 1)

-- three times the size without witness plus the full size (BIP 141)
abbrev pub weight : Tx → ℕ
weight t = 3 * length (stripped_encoding t) + length (full_encoding t)

-- a quarter of the weight, rounded up (BIP 141)
abbrev pub vsize : Tx → ℕ
vsize t = (weight t + 3) / 4

-- one outpoint is the other: the same txid and the same index
abbrev pub same_outpoint : Outpoint → Outpoint → Bool
same_outpoint a b = bytes_eq a.txid.0 b.txid.0 && (a.index == b.index)

-- the outpoint that names no output: 32 bytes 0 and the index 2^32 - 1
abbrev pub no_outpoint : Outpoint
no_outpoint = record { txid = record { 0 = replicate 32 0 }; index = 4294967295 }

-- whether a list of inputs is that of a coinbase: one input, which names no output
abbrev pub of_coinbase : List TxIn → Bool
of_coinbase [] = false
of_coinbase (i ∷ []) = same_outpoint i.from no_outpoint
of_coinbase (i ∷ j ∷ more) = false

-- whether a transaction is a coinbase, by its inputs
abbrev pub is_coinbase : Tx → Bool
is_coinbase t = of_coinbase t.inputs

-- the inputs of a transaction that spend a coin: a coinbase has none
abbrev pub spending_inputs : Tx → List TxIn
spending_inputs t = if is_coinbase t then [] else t.inputs
