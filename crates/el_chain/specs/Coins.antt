-- Coins: the outputs that no transaction has taken yet (Bitcoin's unspent transaction outputs). An output
-- with value 0, or with a script that nobody can satisfy, is a coin too.
use Rattle.std.specs.Prelude.{ℕ, ◌+◌, Bool, not, List, [], ◌∷◌, ◌++◌, filter, if◌then◌else◌}
use Rattle.sha2.specs.Sha256.{sha256}
use Rattle.el_base.specs.declared.hash.Hash32.{Hash32}
use Rattle.el_tx.specs.declared.types.Outpoint.{Outpoint}
use Rattle.el_tx.specs.declared.types.TxIn.{TxIn}
use Rattle.el_tx.specs.declared.types.TxOut.{TxOut}
use Rattle.el_tx.specs.declared.types.Tx.{Tx}
use Rattle.el_tx.specs.Hashing.{txid, same_outpoint, is_coinbase}
use Rattle.el_chain.specs.declared.coin.Coin.{Coin}
use Rattle.el_chain.specs.Chains.{Chain}

-- the script hash of an output (Electrum Protocol 1.4, "Script Hashes"): SHA-256, once, over the whole
-- locking script, in inner order; clients write the reverse
abbrev pub script_hash_of : TxOut → List ℕ
script_hash_of o = sha256 o.script

-- the coin is that of the outpoint
abbrev pub is_coin_of : Outpoint → Coin → Bool
is_coin_of o c = same_outpoint c.outpoint o

-- the coins without that outpoint
abbrev pub without : Outpoint → List Coin → List Coin
without o coins = filter (λ (c : Coin). not (is_coin_of o c)) coins

-- each input takes the coin that it names out, if it is there
abbrev pub spend_inputs : List TxIn → List Coin → List Coin
spend_inputs [] coins = coins
spend_inputs (i ∷ is) coins = spend_inputs is (without i.from coins)

-- the coin of an output with that txid, height and index
abbrev pub coin_made : Hash32 → ℕ → ℕ → TxOut → Coin
coin_made id height index o = record {
  outpoint = record { txid = id; index = index };
  value = o.value;
  script = record { 0 = script_hash_of o };
  height = height;
}

-- the coin goes after the others, and replaces one that is there under the same outpoint, as where two
-- coinbases have one txid (before BIP 34)
abbrev pub add_coin : Coin → List Coin → List Coin
add_coin c coins = without c.outpoint coins ++ c ∷ []

-- Each output of a transaction with that txid and height puts its own coin in; the first has that index, and
-- the others count on.
abbrev pub add_outputs : Hash32 → ℕ → ℕ → List TxOut → List Coin → List Coin
add_outputs id height index [] coins = coins
add_outputs id height index (o ∷ os) coins =
    add_outputs id height (index + 1) os (add_coin (coin_made id height index o) coins)

-- the coins that a transaction leaves of those before it: a coinbase takes none
abbrev pub coins_left : Tx → List Coin → List Coin
coins_left t coins = if is_coinbase t then coins else spend_inputs t.inputs coins

-- the coins after a transaction at that height: first its inputs take theirs, and then its outputs put theirs
-- in
abbrev pub coins_after : ℕ → Tx → List Coin → List Coin
coins_after height t coins = add_outputs (txid t) height 0 t.outputs (coins_left t coins)

-- the coins after the transactions of a block of that height, in their order
abbrev pub coins_after_all : ℕ → List Tx → List Coin → List Coin
coins_after_all height [] coins = coins
coins_after_all height (t ∷ ts) coins = coins_after_all height ts (coins_after height t coins)

-- the coins after blocks, the first of which has that height
abbrev pub coins_from : ℕ → Chain → List Coin → List Coin
coins_from height [] coins = coins
coins_from height (b ∷ bs) coins = coins_from (height + 1) bs (coins_after_all height b.block.txs coins)

-- the coins after all blocks of a chain, whose genesis block has height 0, in the order in which they were
-- put in
abbrev pub coins : Chain → List Coin
coins chain = coins_from 0 chain []

-- all that the coins hold, in satoshi
abbrev pub supply : List Coin → ℕ
supply [] = 0
supply (c ∷ coins) = c.value + supply coins
