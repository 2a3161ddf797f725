-- What a block does to the numbered lists, transaction by transaction, by what is prepared of it before it is
-- connected: no scripts and no witnesses, and each script hashed.
use Rattle.std.specs.Prelude.{ℕ, ◌+◌, List, [], ◌∷◌, length, get_or, Option, None, Some, Result, Ok, Err, ok_or}
use Rattle.std.specs.Option.{option_or}
use Rattle.el_base.specs.declared.hash.Hash32.{Hash32}
use Rattle.el_outside.specs.declared.archive.Place.{Place}
use Rattle.el_tx.specs.declared.types.Outpoint.{Outpoint}
use Rattle.el_chain.specs.Chains.{zero_hash}
use Rattle.el_chain.specs.Faults.{money_fault, full}
use Rattle.el_chain.specs.declared.fault.ConnectFault.{ConnectFault}
use Rattle.el_chain.specs.declared.fault.ConnectFault.TheVariants as refusal
use Rattle.el_prepare.specs.declared.prepared.Prepared.{Prepared}
use Rattle.el_prepare.specs.declared.prepared.PreparedTx.{PreparedTx}
use Rattle.el_tables.specs.Lists.{ListedTx, Lists, script_number, coin_number, script_at, unspent_sum, spend_output, add_entry, add_tx, add_output}
use Rattle.el_tables.specs.ChainLists.{ListedBlock}

-- 1. A transaction

infixl 10 ◌>>=◌
-- goes on with a value, and stops at an error
abbrev pub ◌>>=◌ : {A B E : Type 0} → Result A E → (A → Result B E) → Result B E
(Ok x) >>= f = f x
(Err e) >>= f = Err e

-- the script hash of the output of that number
abbrev pub script_of_output : ℕ → Lists → Hash32
script_of_output k l = get_or l.scripts (script_at k l.outs) zero_hash

-- the transaction of the first number spends the coin of the second, and so has an entry with its script hash
abbrev pub spend_coin : ℕ → ℕ → Lists → Lists
spend_coin by k l = add_entry (script_of_output k l) by (spend_output by k l)

-- The transaction of that number spends the coins that these outpoints name, in order. Err is the number of
-- the first outpoint whose coin is not there, where the first of them has that number.
abbrev pub spend_all : ℕ → ℕ → List Outpoint → Lists → Result Lists ℕ
spend_all by at [] l = Ok l
spend_all by at (o ∷ os) l = do
  k ← ok_or (coin_number o l.txs l.outs) at
  spend_all by (at + 1) os (spend_coin by k l)

-- the transaction of that number makes an output with that index, value and script hash: the two get an
-- entry, and then the output goes after the others
abbrev pub fund : ℕ → ℕ → ℕ × Hash32 → Lists → Lists
fund tx index o l =
    add_output tx index o.0 (script_number o.1 (add_entry o.1 tx l).scripts) (add_entry o.1 tx l)

-- the transaction of that number makes these outputs, of which the first has that index
abbrev pub fund_all : ℕ → ℕ → List (ℕ × Hash32) → Lists → Lists
fund_all tx index [] l = l
fund_all tx index (o ∷ os) l = fund_all tx (index + 1) os (fund tx index o l)

-- a transaction of a block of that height as it is listed after these lists
abbrev pub listed_after : ℕ → PreparedTx → Lists → ListedTx
listed_after height t l = record {
  txid = t.txid;
  height = height;
  start = t.start;
  len = t.len;
  first_out = length l.outs;
  outs = length t.outputs;
  first_in = length l.ins;
  ins = length t.inputs;
}

-- A transaction of a block of that height: it spends, then it is listed, then it makes its outputs. Err is
-- the number of its first input whose coin is not there.
abbrev pub connect_tx : ℕ → PreparedTx → Lists → Result Lists ℕ
connect_tx height t l = do
  spent ← spend_all (length l.txs) 0 t.inputs l
  Ok (fund_all (length l.txs) 0 t.outputs (add_tx (listed_after height t l) spent))

-- 2. A block

-- the fault of a transaction with that index in its block, by the number of the input whose coin is not there
abbrev pub missing_at : {A : Type 0} → ℕ → Result A ℕ → Result A ConnectFault
missing_at index (Ok l) = Ok l
missing_at index (Err input) = Err (refusal.MissingCoin index input)

-- the value, unless there is a fault
abbrev pub ok_unless : {A E : Type 0} → Option E → A → Result A E
ok_unless None x = Ok x
ok_unless (Some e) x = Err e

-- The first table, by its number, that would need more rows than a table may have for these lists, in a
-- chain whose last block has that height: 1 of blocks, 2 of transactions, 4 of outputs, 5 of inputs, 6 of
-- script hashes and 8 of entries. Tables 3 and 7, of heads, have one number of rows.
abbrev pub full_by : ℕ → Lists → Option ConnectFault
full_by height l =
    option_or (full 1 (height + 1)) (option_or (full 2 (length l.txs)) (option_or (full 4 (length l.outs))
    (option_or (full 5 (length l.ins)) (option_or (full 6 (length l.scripts)) (full 8 (length l.entries))))))

-- the fault of a transaction that comes after its inputs, by the lists after it: all coins hold too much, or
-- a table is full
abbrev pub bounds_by : ℕ → Lists → Option ConnectFault
bounds_by height l = option_or (money_fault (unspent_sum l.outs)) (full_by height l)

-- Transactions of a block of that height, of which the first has that index in it: the lists after them, or
-- the first fault of the first that has one.
abbrev pub connect_txs : ℕ → ℕ → List PreparedTx → Lists → Result Lists ConnectFault
connect_txs height index [] l = Ok l
connect_txs height index (t ∷ ts) l = do
  connected ← missing_at index (connect_tx height t l)
  within ← ok_unless (bounds_by height connected) connected
  connect_txs height (index + 1) ts within

-- the row of a block at that place, before and after which these lists stand
abbrev pub block_between : Prepared → Place → Lists → Lists → ListedBlock
block_between b place before after = record {
  header = b.header;
  place = place;
  first_tx = length before.txs;
  txs = length b.txs;
  sum = unspent_sum after.outs;
}
