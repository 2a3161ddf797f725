-- The history of a script hash (Electrum Protocol 1.4, blockchain.scripthash.get_history), of transactions in
-- blocks. A script hash stands in inner order.
use Rattle.std.specs.Prelude.{ℕ, ◌+◌, Bool, not, ◌&&◌, ◌||◌, List, [], ◌∷◌, ◌++◌, length, map, filter}
use Rattle.std.specs.List.{list_any}
use Rattle.std.specs.Str.{bytes_eq}
use Rattle.el_tx.specs.declared.types.Outpoint.{Outpoint}
use Rattle.el_tx.specs.declared.types.TxIn.{TxIn}
use Rattle.el_tx.specs.declared.types.TxOut.{TxOut}
use Rattle.el_tx.specs.declared.types.Tx.{Tx}
use Rattle.el_tx.specs.Hashing.{full_encoding, txid, same_outpoint, is_coinbase}
pub use Rattle.el_block.specs.Blocks.{first_start}
use Rattle.el_chain.specs.declared.entry.Entry.{Entry}
use Rattle.el_chain.specs.Chains.{Chain}
use Rattle.el_chain.specs.declared.coin.Coin.{Coin}
use Rattle.el_chain.specs.Coins.{script_hash_of, coins_after, coins_after_all}

-- A position of the chain: the height of a block, the number of a transaction in the block, from 0, where the
-- transaction's bytes begin in the block's, the transaction, and the coins before it. The coins say whom its
-- inputs take from.
pub record Position : Type 0 where
  pub height : ℕ
  pub pos : ℕ
  pub start : ℕ
  pub tx : Tx
  pub before : List Coin

-- The positions of transactions of a block of that height, of which the first has that number in the block,
-- begins there and has these coins before it. Each next begins where the one before ends.
abbrev pub positions_in : ℕ → ℕ → ℕ → List Tx → List Coin → List Position
positions_in height pos start [] coins = []
positions_in height pos start (t ∷ ts) coins =
    record { height = height; pos = pos; start = start; tx = t; before = coins }
    ∷ positions_in height (pos + 1) (start + length (full_encoding t)) ts (coins_after height t coins)

-- the positions of all transactions of a block of that height, where these coins stand before it
abbrev pub block_positions : ℕ → List Tx → List Coin → List Position
block_positions height ts coins = positions_in height 0 (first_start ts) ts coins

-- those of blocks, the first of which has that height, where these coins stand before it
abbrev pub positions_from : ℕ → Chain → List Coin → List Position
positions_from height [] coins = []
positions_from height (b ∷ bs) coins =
    block_positions height b.block.txs coins
    ++ positions_from (height + 1) bs (coins_after_all height b.block.txs coins)

-- all positions of a chain in chain order: by height, and within a block as the transactions stand
abbrev pub positions : Chain → List Position
positions chain = positions_from 0 chain []

-- the transaction has an output with that script hash
abbrev pub funds : List ℕ → Tx → Bool
funds script_hash t = list_any (λ (o : TxOut). bytes_eq (script_hash_of o) script_hash) t.outputs

-- one of the coins is that of the outpoint and has the script hash
abbrev pub has_own : List ℕ → List Coin → Outpoint → Bool
has_own script_hash coins o =
    list_any (λ (c : Coin). same_outpoint c.outpoint o && bytes_eq c.script.0 script_hash) coins

-- the transaction, which is no coinbase, takes a coin with that script hash; these coins stand before it
abbrev pub spends : List ℕ → List Coin → Tx → Bool
spends script_hash coins t =
    not (is_coinbase t) && list_any (λ (i : TxIn). has_own script_hash coins i.from) t.inputs

-- its transaction funds or spends the script hash
abbrev pub concerns : List ℕ → Position → Bool
concerns script_hash p = funds script_hash p.tx || spends script_hash p.before p.tx

-- what a history lists of a position: height and txid
abbrev pub entry : Position → Entry
entry p = record { height = p.height; txid = txid p.tx }

-- the entries of the positions whose transaction funds or spends the script hash, each once, in chain order
abbrev pub history : Chain → List ℕ → List Entry
history chain script_hash = map entry (filter (concerns script_hash) (positions chain))
