-- An example, written out by hand: a chain of two blocks, its lists, and its tables in a format of two heads
-- each.
--
-- Block 0: A, a coinbase, pays 50 to P. Block 1: A again, byte for byte (as the coinbases that BIP 30 tells
-- of): its output buries the first one. B spends the output of the second A, and pays 20 to P and 30 to Q. It
-- spends and funds P: one entry. C spends output 0 of B, which the same block made, and pays 20 to R.
use Rattle.std.specs.Prelude.{ℕ, List, [], ◌∷◌, Some, None, pos}
use Rattle.el_base.specs.declared.hash.Hash32.{Hash32}
use Rattle.el_tx.specs.declared.types.Header.{Header}
use Rattle.el_tx.specs.declared.types.Outpoint.{Outpoint}
use Rattle.el_tx.specs.declared.types.TxIn.{TxIn}
use Rattle.el_tx.specs.declared.types.TxOut.{TxOut}
use Rattle.el_tx.specs.declared.types.Tx.{Tx}
use Rattle.el_tx.specs.Hashing.{txid, no_outpoint}
use Rattle.el_tx.specs.Headers.{header_encoding}
use Rattle.el_chain.specs.RowCounts.{output_script}
use Rattle.el_chain.specs.Chains.{Chain, zero_hash}
use Rattle.el_tables.specs.Lists.{ListedTx, Lists}
use Rattle.el_tables.specs.Lists.State.{Unspent, Spent, Buried}
use Rattle.el_tables.specs.Tables.{Tables, HeadCounts}

-- an output of that value, with a script of that one byte
abbrev pub pays : ℕ → ℕ → TxOut
pays value script = record { value = value; script = script ∷ [] }

-- an input that spends an outpoint, without script and witness
abbrev pub input_from : Outpoint → TxIn
input_from o = record { from = o; script = []; sequence = 0; witness = [] }

-- a transaction of one input and these outputs
abbrev pub tx_with : TxIn → List TxOut → Tx
tx_with input outputs = record { version = pos 1; inputs = input ∷ []; outputs = outputs; lock = 0 }

-- the outpoint of its first output
abbrev pub first_of : Tx → Outpoint
first_of t = record { txid = txid t; index = 0 }

-- A, a coinbase of 61 bytes: it pays 50 to P
abbrev pub tx_a : Tx
tx_a = tx_with (input_from no_outpoint) (pays 50 81 ∷ [])

-- B, of 71 bytes: it spends the output of the second A, and pays 20 to P and 30 to Q
abbrev pub tx_b : Tx
tx_b = tx_with (input_from (first_of tx_a)) (pays 20 81 ∷ pays 30 82 ∷ [])

-- C, of 61 bytes: it spends the first output of B, and pays 20 to R
abbrev pub tx_c : Tx
tx_c = tx_with (input_from (first_of tx_b)) (pays 20 83 ∷ [])

-- The script hash of P. Of two buckets, that of the txid of A is 0, those of B and C are 1; those of P and Q
-- are 0, that of R is 1.
abbrev pub hash_p : Hash32
hash_p = output_script (pays 0 81)

-- the script hash of Q
abbrev pub hash_q : Hash32
hash_q = output_script (pays 0 82)

-- the script hash of R
abbrev pub hash_r : Hash32
hash_r = output_script (pays 0 83)

-- a header; only its nonce matters here
abbrev pub header_with_nonce : ℕ → Header
header_with_nonce nonce = record {
  version = pos 1;
  previous = zero_hash;
  root = zero_hash;
  time = 0;
  bits = 0;
  nonce = nonce;
}

-- the two blocks, and where they stand in a block file
abbrev pub example_chain : Chain
example_chain =
    record {
      block = record { header = header_with_nonce 0; txs = tx_a ∷ [] };
      place = record { file = 0; offset = 0; len = 142 };
    }
    ∷ record {
      block = record { header = header_with_nonce 1; txs = tx_a ∷ tx_b ∷ tx_c ∷ [] };
      place = record { file = 0; offset = 150; len = 274 };
    }
    ∷ []

-- a transaction as it is listed, field by field
abbrev pub tx_of : Tx → ℕ → ℕ → ℕ → ℕ → ℕ → ℕ → ℕ → ListedTx
tx_of t height start len first_out outs first_in ins = record {
  txid = txid t;
  height = height;
  start = start;
  len = len;
  first_out = first_out;
  outs = outs;
  first_in = first_in;
  ins = ins;
}

-- The lists of that chain, by number: its four transactions, their five outputs with what became of each, the
-- two outputs that inputs took, the three scripts, and the six entries of their histories.
abbrev pub example_lists : Lists
example_lists = record {
  txs =
      tx_of tx_a 0 81 61 0 1 0 0
      ∷ tx_of tx_a 1 81 61 1 1 0 0
      ∷ tx_of tx_b 1 142 71 2 2 0 1
      ∷ tx_of tx_c 1 213 61 4 1 1 1
      ∷ [];
  outs =
      record { tx = 0; value = 50; script = 0; state = Buried 1 }
      ∷ record { tx = 1; value = 50; script = 0; state = Spent 2 }
      ∷ record { tx = 2; value = 20; script = 0; state = Spent 3 }
      ∷ record { tx = 2; value = 30; script = 1; state = Unspent }
      ∷ record { tx = 3; value = 20; script = 2; state = Unspent }
      ∷ [];
  ins = 1 ∷ 2 ∷ [];
  scripts = hash_p ∷ hash_q ∷ hash_r ∷ [];
  entries =
      record { tx = 0; script = 0 }
      ∷ record { tx = 1; script = 0 }
      ∷ record { tx = 2; script = 0 }
      ∷ record { tx = 2; script = 1 }
      ∷ record { tx = 3; script = 0 }
      ∷ record { tx = 3; script = 2 }
      ∷ [];
}

-- a format of two heads of transactions and two of scripts
abbrev pub two_heads : HeadCounts
two_heads = record { txs = 2; scripts = 2 }

-- the tables of these lists: each row with its links, and the heads of both buckets
abbrev pub example_tables : Tables
example_tables = record {
  blocks =
      record {
        header = header_encoding (header_with_nonce 0);
        place = record { file = 0; offset = 0; len = 142 };
        first_tx = 0;
        txs = 1;
        sum = 50;
      }
      ∷ record {
        header = header_encoding (header_with_nonce 1);
        place = record { file = 0; offset = 150; len = 274 };
        first_tx = 1;
        txs = 3;
        sum = 50;
      }
      ∷ [];
  txs =
      record { listed = tx_of tx_a 0 81 61 0 1 0 0; older = None; next = None }
      ∷ record { listed = tx_of tx_a 1 81 61 1 1 0 0; older = Some 0; next = Some 0 }
      ∷ record { listed = tx_of tx_b 1 142 71 2 2 0 1; older = None; next = None }
      ∷ record { listed = tx_of tx_c 1 213 61 4 1 1 1; older = None; next = Some 2 }
      ∷ [];
  tx_heads = Some 1 ∷ Some 3 ∷ [];
  outs = example_lists.outs;
  ins = example_lists.ins;
  scripts =
      record { script = hash_p; next = None; last = Some 4; entries = 4; balance = 0 }
      ∷ record { script = hash_q; next = Some 0; last = Some 3; entries = 1; balance = 30 }
      ∷ record { script = hash_r; next = None; last = Some 5; entries = 1; balance = 20 }
      ∷ [];
  script_heads = Some 1 ∷ Some 2 ∷ [];
  entries =
      record { listed = record { tx = 0; script = 0 }; before = None }
      ∷ record { listed = record { tx = 1; script = 0 }; before = Some 0 }
      ∷ record { listed = record { tx = 2; script = 0 }; before = Some 1 }
      ∷ record { listed = record { tx = 2; script = 1 }; before = None }
      ∷ record { listed = record { tx = 3; script = 0 }; before = Some 2 }
      ∷ record { listed = record { tx = 3; script = 2 }; before = None }
      ∷ [];
}
