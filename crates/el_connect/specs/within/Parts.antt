-- Parts of the work on a block: what rows and a running sum stand for between the steps, and the steps on the
-- lists with what is prepared of a block.
use Rattle.std.specs.Prelude.{◌≡◌, ℕ, ◌+◌, ◌<◌, ◌≤◌, ◌^◌, List, [], ◌∷◌, length, get_or, take, Option, None, Some, Result, Ok}
use Rattle.el_base.specs.declared.hash.Hash32.{Hash32}
use Rattle.el_tx.specs.Encoding.{max_money}
use Rattle.el_tx.specs.declared.types.Outpoint.{Outpoint}
use Rattle.el_chain.specs.declared.fault.ConnectFault.{ConnectFault}
use Rattle.el_chain.specs.declared.fault.ConnectFault.TheVariants as refusal
use Rattle.el_chain.specs.RowCounts.{row_limit}
use Rattle.el_prepare.specs.declared.prepared.PreparedTx.{PreparedTx}
use Rattle.el_tables.specs.ChainLists.{ListedBlock}
use Rattle.el_tables.specs.Connecting.{◌>>=◌, connect_tx, missing_at, ok_unless, bounds_by, script_of_output, fund_all}
use Rattle.el_tables.specs.Edits.{no_out}
use Rattle.el_tables.specs.Fits.{Fits}
use Rattle.el_tables.specs.Lists.{Lists, ListedOut, ListedTx, add_entry, add_tx, coin_number, unspent_sum, txid_at, newest_tx}
use Rattle.el_tables.specs.Tables.{HeadCounts}
use Rattle.el_row_formats.specs.Tables as held
use Rattle.el_schema.specs.Rows.{Hold}
use Rattle.el_connect.specs.declared.outputs.Maker.{Maker}

-- 1. Between the steps

-- The rows hold blocks and lists that fit together, with some heads, and the sum is what all unspent outputs
-- hold.
pub record Reached (counts : HeadCounts) (bs : List ListedBlock) (l : Lists) (rows : held.Tables)
    (sum : ℕ) : Type 0 where
  pub hold : Hold counts bs l rows
  pub fits : Fits l
  pub tx_heads : 0 < counts.txs
  pub script_heads : 0 < counts.scripts
  pub sum_is : sum ≡ unspent_sum l.outs

-- There is room for so many inputs and outputs more, and no table of script hashes or entries has more rows
-- than a table may have.
pub record HasRoomFor (l : Lists) (inputs outputs : ℕ) : Type 0 where
  pub ins : length l.ins + inputs ≤ row_limit 5
  pub outs : length l.outs + outputs ≤ row_limit 4
  pub scripts : length l.scripts ≤ row_limit 6
  pub entries : length l.entries ≤ row_limit 8

-- the table of entries would need more rows than a table may have for these lists, and that is the fault
abbrev pub Overflows : Lists → ConnectFault → Type 0
Overflows l e = (e ≡ refusal.Full 8 (row_limit 8)) × (row_limit 8 < length l.entries)

-- the outputs of transactions stand one after the other, of which the first has that number, and they are so
-- many in all
abbrev pub OutsInTurn : ℕ → List ListedTx → ℕ → Type 0
OutsInTurn first [] count = first ≡ count
OutsInTurn first (t ∷ ts) count = (t.first_out ≡ first) × OutsInTurn (first + t.outs) ts count

-- What holds before and after a transaction: all outputs stand in turn, and no table of script hashes or
-- entries has too many rows.
pub record IsBetweenTxs (l : Lists) : Type 0 where
  pub outs : OutsInTurn 0 l.txs (length l.outs)
  pub scripts : length l.scripts ≤ row_limit 6
  pub entries : length l.entries ≤ row_limit 8

-- 2. What is prepared of a transaction

-- the values of outputs together, in satoshi
abbrev pub values : List (ℕ × Hash32) → ℕ
values [] = 0
values (o ∷ os) = o.0 + values os

-- Its fields fit a row of a transaction, and its outputs together hold no more than all money.
pub record IsSmall (p : PreparedTx) : Type 0 where
  pub txid : length p.txid.0 ≡ 32
  pub start : p.start < 2 ^ 32
  pub len : p.len < 2 ^ 32
  pub inputs : length p.inputs < 2 ^ 32
  pub outputs : length p.outputs < 2 ^ 32
  pub money : values p.outputs ≤ max_money

-- The tables of blocks, transactions, outputs and inputs have room for it, in a block of that height.
pub record FitsTables (height : ℕ) (p : PreparedTx) (l : Lists) : Type 0 where
  pub block : height < row_limit 1
  pub txs : length l.txs < row_limit 2
  pub outs : length l.outs + length p.outputs ≤ row_limit 4
  pub ins : length l.ins + length p.inputs ≤ row_limit 5

-- 3. Steps

-- the steps of a transaction of a block of that height, which has that index in it: the lists after it, or
-- its first fault
abbrev pub connect_next : ℕ → ℕ → PreparedTx → Lists → Result Lists ConnectFault
connect_next height index p l =
    missing_at index (connect_tx height p l) >>= (λ m. ok_unless (bounds_by height m) m)

-- those of transactions, of which the first has that index
abbrev pub connect_all : ℕ → ℕ → List PreparedTx → Lists → Result Lists ConnectFault
connect_all height index [] l = Ok l
connect_all height index (p ∷ ps) l =
    connect_next height index p l >>= (λ m. connect_all height (index + 1) ps m)

-- Steps have led to lists, which the rows hold.
pub record LedTo {E : Type 0} (counts : HeadCounts) (bs : List ListedBlock) (rows : held.Tables) (sum : ℕ)
    (r : Result Lists E) : Type 0 where
  pub lists : Lists
  pub led : r ≡ Ok lists
  pub reached : Reached counts bs lists rows sum

-- what the output of that number holds, and 0 for none
abbrev pub output_amount : Option ℕ → List ListedOut → ℕ
output_amount None outs = 0
output_amount (Some k) outs = (get_or outs k no_out).value

-- what the coin of the outpoint holds, among the first transactions, so many
abbrev pub coin_amount : Outpoint → ℕ → Lists → ℕ
coin_amount o count l = output_amount (coin_number o (take count l.txs) l.outs) l.outs

-- the transaction of that number has an entry with the script hash of each of these outputs, by their numbers
abbrev pub touch_coins : ℕ → List ℕ → Lists → Lists
touch_coins by [] l = l
touch_coins by (k ∷ ks) l = touch_coins by ks (add_entry (script_of_output k l) by l)

-- the script hashes of outputs
abbrev pub output_scripts : List (ℕ × Hash32) → List Hash32
output_scripts [] = []
output_scripts (o ∷ os) = o.1 ∷ output_scripts os

-- the lists with the transaction and its outputs, after those in which its coins are spent
abbrev pub made_by : ListedTx → List (ℕ × Hash32) → Lists → Lists
made_by t os l = fund_all (length l.txs) 0 os (add_tx t l)

-- The transaction of that number has that txid, and the newest one before it with the same has this number.
pub record IsMaker (m : Maker) (l : Lists) : Type 0 where
  pub txid : txid_at m.number l.txs ≡ m.txid
  pub older : m.older ≡ newest_tx m.txid (take m.number l.txs)

-- Lists that the rows hold and of which this holds: the transactions are still these, and there is room for
-- so many outputs more.
pub record TouchingOn (counts : HeadCounts) (bs : List ListedBlock) (rows : held.Tables) (sum : ℕ)
    (before : Lists) (outputs : ℕ) (P : Lists → Type 0) : Type 0 where
  pub lists : Lists
  pub left : P lists
  pub reached : Reached counts bs lists rows sum
  pub room : HasRoomFor lists 0 outputs
  pub txs : lists.txs ≡ before.txs
  pub outs : lists.outs ≡ before.outs
  pub ins : lists.ins ≡ before.ins

-- Lists that the rows hold and of which this holds: the transactions are still these, there is room for so
-- many outputs more, and these may hold so much more.
pub record FundingOn (counts : HeadCounts) (bs : List ListedBlock) (rows : held.Tables) (sum : ℕ)
    (txs : List ListedTx) (outputs more : ℕ) (P : Lists → Type 0) : Type 0 where
  pub lists : Lists
  pub left : P lists
  pub reached : Reached counts bs lists rows sum
  pub room : HasRoomFor lists 0 outputs
  pub same : lists.txs ≡ txs
  pub fit : unspent_sum lists.outs + more < 2 ^ 64

-- Lists that the rows hold and of which this holds, between transactions; all coins hold no more than all
-- money.
pub record LeadingOn (counts : HeadCounts) (bs : List ListedBlock) (rows : held.Tables) (sum : ℕ)
    (P : Lists → Type 0) : Type 0 where
  pub lists : Lists
  pub left : P lists
  pub reached : Reached counts bs lists rows sum
  pub between : IsBetweenTxs lists
  pub within : sum ≤ max_money
