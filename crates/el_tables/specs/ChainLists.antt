-- The numbered lists that a chain has. Transactions, outputs, inputs (without those of coinbases), new
-- script hashes and entries are numbered in chain order; within a transaction inputs come before outputs,
-- and a script hash gets its number at its first entry.
use Rattle.std.specs.Prelude.{ℕ, ◌+◌, Bool, List, [], ◌∷◌, ◌++◌, length, map, take, option_to_list, if◌then◌else◌}
use Rattle.std.specs.List.{flat_map, list_any}
use Rattle.el_base.specs.declared.hash.Hash32.{Hash32}
use Rattle.el_outside.specs.declared.archive.Place.{Place}
use Rattle.el_tx.specs.declared.types.Outpoint.{Outpoint}
use Rattle.el_tx.specs.declared.types.TxIn.{TxIn}
use Rattle.el_tx.specs.Hashing.{txid, full_encoding, spending_inputs}
use Rattle.el_tx.specs.Headers.{header_encoding}
use Rattle.el_chain.specs.declared.placed.Placed.{Placed}
use Rattle.el_chain.specs.declared.coin.Coin.{Coin}
use Rattle.el_chain.specs.Chains.{Chain}
use Rattle.el_chain.specs.Coins.{is_coin_of, coins_after_all, supply}
use Rattle.el_chain.specs.CoinLaws.{makes, takes}
use Rattle.el_chain.specs.History.{Position, positions}
use Rattle.el_chain.specs.RowCounts.{concerned_scripts, add_scripts}
use Rattle.el_tables.specs.Lists.{ListedTx, State, ListedOut, ListedEntry, Lists, script_number, output_number}
use Rattle.el_tables.specs.Lists.State.{Unspent, Spent, Buried}

-- 1. Transactions

-- the transaction of a position as it is listed, where so many outputs and spending inputs stand before it
abbrev pub listed_position : ℕ → ℕ → Position → ListedTx
listed_position outs ins p = record {
  txid = txid p.tx;
  height = p.height;
  start = p.start;
  len = length (full_encoding p.tx);
  first_out = outs;
  outs = length p.tx.outputs;
  first_in = ins;
  ins = length (spending_inputs p.tx);
}

-- those of positions, where so many outputs and spending inputs stand before the first
abbrev pub txs_from : ℕ → ℕ → List Position → List ListedTx
txs_from outs ins [] = []
txs_from outs ins (p ∷ ps) =
    listed_position outs ins p
    ∷ txs_from (outs + length p.tx.outputs) (ins + length (spending_inputs p.tx)) ps

-- 2. Outputs

-- An output of the chain: the number of its transaction, the coin that it was at first, and what became of
-- it.
pub record Output : Type 0 where
  pub tx : ℕ
  pub coin : Coin
  pub state : State

-- the position's transaction makes an output with that outpoint
abbrev pub makes_outpoint : Outpoint → Position → Bool
makes_outpoint o p = list_any (is_coin_of o) (makes p)

-- What becomes of an output with that outpoint in later transactions, of which the first has that number.
-- The first that spends the outpoint spends it, or the first that makes an output with the same outpoint
-- buries it, whichever comes first. A transaction spends before it makes.
abbrev pub state_after : Outpoint → ℕ → List Position → State
state_after o n [] = Unspent
state_after o n (p ∷ ps) =
    if takes o p.tx then Spent n
    else (if makes_outpoint o p then Buried n else state_after o (n + 1) ps)

-- the output that was that coin, of the transaction of that number, which these come after
abbrev pub output : ℕ → List Position → Coin → Output
output n later c = record { tx = n; coin = c; state = state_after c.outpoint (n + 1) later }

-- the outputs of the transactions of positions, of which the first has that number
abbrev pub outputs_from : ℕ → List Position → List Output
outputs_from n [] = []
outputs_from n (p ∷ ps) = map (output n ps) (makes p) ++ outputs_from (n + 1) ps

-- those of all positions of a chain
abbrev pub outputs : List Position → List Output
outputs ps = outputs_from 0 ps

-- 3. Inputs

-- the numbers of the outputs that inputs spend, which outputs of these transactions are
abbrev pub spent_numbers : List ListedTx → List TxIn → List ℕ
spent_numbers txs is = flat_map (λ (i : TxIn). option_to_list (output_number i.from txs)) is

-- those of all inputs of positions, of which the first has that number: each input spends an output of one of
-- these transactions that comes before its own
abbrev pub ins_from : List ListedTx → ℕ → List Position → List ℕ
ins_from txs n [] = []
ins_from txs n (p ∷ ps) = spent_numbers (take n txs) (spending_inputs p.tx) ++ ins_from txs (n + 1) ps

-- 4. Script hashes

-- those that positions concern, each once, in the order in which a transaction first spends or funds them
abbrev pub scripts_of : List Position → List Hash32
scripts_of ps = add_scripts [] (flat_map concerned_scripts ps)

-- 5. Entries: for each transaction one for each script hash that it funds or spends

-- the entry of the transaction of that number and of a script hash, which is one of these
abbrev pub entry_of : List Hash32 → ℕ → Hash32 → ListedEntry
entry_of scripts n s = record { tx = n; script = script_number s scripts }

-- the entries of positions, of which the first has that number
abbrev pub entries_from : List Hash32 → ℕ → List Position → List ListedEntry
entries_from scripts n [] = []
entries_from scripts n (p ∷ ps) =
    map (entry_of scripts n) (add_scripts [] (concerned_scripts p)) ++ entries_from scripts (n + 1) ps

-- 6. All lists

-- an output as it is listed
abbrev pub listed_out : List Hash32 → Output → ListedOut
listed_out scripts x = record {
  tx = x.tx;
  value = x.coin.value;
  script = script_number x.coin.script scripts;
  state = x.state;
}

-- the lists of positions, which are all those of a chain
abbrev pub lists_of : List Position → Lists
lists_of ps = record {
  txs = txs_from 0 0 ps;
  outs = map (listed_out (scripts_of ps)) (outputs ps);
  ins = ins_from (txs_from 0 0 ps) 0 ps;
  scripts = scripts_of ps;
  entries = entries_from (scripts_of ps) 0 ps;
}

-- the lists of a chain
abbrev pub lists : Chain → Lists
lists chain = lists_of (positions chain)

-- 7. Blocks

-- A block: its header's 80 bytes, its place in the node's files, the number of its first transaction, how
-- many it has, and what all coins hold after it, in satoshi.
pub record ListedBlock : Type 0 where
  pub header : List ℕ
  pub place : Place
  pub first_tx : ℕ
  pub txs : ℕ
  pub sum : ℕ

-- a block whose first transaction has that number, and after which all coins hold that sum
abbrev pub listed_block : ℕ → ℕ → Placed → ListedBlock
listed_block first sum b = record {
  header = header_encoding b.block.header;
  place = b.place;
  first_tx = first;
  txs = length b.block.txs;
  sum = sum;
}

-- blocks, of which the first has that height, that number of its first transaction, and those coins before it
abbrev pub listed_blocks_from : ℕ → ℕ → Chain → List Coin → List ListedBlock
listed_blocks_from height first [] coins = []
listed_blocks_from height first (b ∷ bs) coins =
    listed_block first (supply (coins_after_all height b.block.txs coins)) b
    ∷ listed_blocks_from (height + 1) (first + length b.block.txs) bs
    (coins_after_all height b.block.txs coins)

-- the blocks of a chain
abbrev pub listed_blocks : Chain → List ListedBlock
listed_blocks chain = listed_blocks_from 0 0 chain []
