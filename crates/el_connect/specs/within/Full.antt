-- A transaction whose coins were taken, before its script hashes have their entries and its outputs are made.
use Rattle.std.specs.Prelude.{◌≡◌, ℕ, ◌+◌, ◌<◌, ◌≤◌, ◌++◌, List, length, get_or, take, Option, None, Some, Ok}
use Rattle.el_base.specs.declared.hash.Hash32.{Hash32}
use Rattle.el_tx.specs.declared.types.Outpoint.{Outpoint}
use Rattle.el_tx.specs.Encoding.{max_money}
use Rattle.el_chain.specs.Faults.{money_fault}
use Rattle.el_chain.specs.RowCounts.{row_limit}
use Rattle.el_prepare.specs.declared.prepared.PreparedTx.{PreparedTx}
use Rattle.el_tables.specs.ChainLists.{ListedBlock}
use Rattle.el_tables.specs.Connecting.{connect_tx, spend_all, listed_after}
use Rattle.el_tables.specs.Edits.{no_out}
use Rattle.el_tables.specs.Fits.{Fits}
use Rattle.el_tables.specs.Lists.{Lists, coin_number, spend_output, unspent_sum, txid_at}
use Rattle.el_tables.specs.Tables.{HeadCounts}
use Rattle.el_row_formats.specs.Tables as held
use Rattle.el_schema.specs.Rows.{Hold}
use Rattle.el_connect.specs.within.Parts.{Reached, touch_coins, made_by}

-- an outpoint's coin was spent, which held that value, or there was none
abbrev pub TakenBy : HeadCounts → List ListedBlock → Lists → held.Tables → Outpoint → ℕ → Option ℕ → Type 0
TakenBy counts bs l rows o by None = coin_number o l.txs l.outs ≡ None
TakenBy counts bs l rows o by (Some value) = record {
  coin : ℕ;
  is : coin_number o l.txs l.outs ≡ Some coin;
  holds : value ≡ (get_or l.outs coin no_out).value;
  hold : Hold counts bs (spend_output by coin l) rows;
}

-- So many inputs were taken, of which this holds for the lists that they lead to. The rows hold others, which
-- have the same transactions and outputs: they began as others did, and no script hash got an entry.
pub record TakingOn (counts : HeadCounts) (bs : List ListedBlock) (by : ℕ) (start before : Lists)
    (rows : held.Tables) (left most inputs : ℕ) (P : Lists → Type 0) : Type 0 where
  pub now : Lists
  pub real : Lists
  pub coins : List ℕ
  pub left_is : P real
  pub hold : Hold counts bs now rows
  pub fits : Fits start → Fits now
  pub txs : now.txs ≡ real.txs
  pub outs : now.outs ≡ real.outs
  pub scripts : now.scripts ≡ start.scripts
  pub entries : now.entries ≡ start.entries
  pub ins : now.ins ≡ start.ins ++ coins
  pub many : length coins ≡ inputs
  pub some : 0 < length coins → 0 < length now.outs
  pub touched : start ≡ before → real ≡ touch_coins by coins now
  pub sum_is : left ≡ unspent_sum real.outs
  pub fell : left ≤ most
  pub real_txs : real.txs ≡ before.txs
  pub real_outs : length real.outs ≡ length before.outs
  pub real_ins : length real.ins ≡ length before.ins + inputs

-- Lists with the same outputs as these, and with one transaction more, which has that number and txid.
pub record IsNextTx (l next : Lists) (number : ℕ) (txid : Hash32) : Type 0 where
  pub number_is : number ≡ length l.txs
  pub front : take number next.txs ≡ l.txs
  pub id : txid_at number next.txs ≡ txid
  pub outs : next.outs ≡ l.outs

-- The transaction's coins are there, and after it all coins hold no more than all money; so many rows more
-- are needed for it.
pub record FineCoins (height : ℕ) (p : PreparedTx) (l : Lists) : Type 0 where
  pub lists : Lists
  pub led : connect_tx height p l ≡ Ok lists
  pub money : money_fault (unspent_sum lists.outs) ≡ None
  pub txs : length lists.txs ≡ length l.txs + 1
  pub outs : length lists.outs ≡ length l.outs + length p.outputs
  pub ins : length lists.ins ≡ length l.ins + length p.inputs

-- The coins of a transaction of a block of that height were taken, and the rows hold what these leave; no
-- script hash got an entry yet. All coins hold no more than all money with its outputs, and the table of
-- script hashes has room for them.
pub record ReadyCoins (counts : HeadCounts) (bs : List ListedBlock) (rows : held.Tables) (left height : ℕ)
    (p : PreparedTx) (l : Lists) : Type 0 where
  pub now : Lists
  pub real : Lists
  pub coins : List ℕ
  pub led : spend_all (length l.txs) 0 p.inputs l ≡ Ok real
  pub touched : real ≡ touch_coins (length l.txs) coins now
  pub reached : Reached counts bs now rows left
  pub txs : now.txs ≡ l.txs
  pub outs : length now.outs ≡ length l.outs
  pub scripts : now.scripts ≡ l.scripts
  pub entries : now.entries ≡ l.entries
  pub ins : now.ins ≡ l.ins ++ coins
  pub many : length coins ≡ length p.inputs
  pub low : left ≤ max_money
  pub money : unspent_sum (made_by (listed_after height p l) p.outputs real).outs ≤ max_money
  pub few : length (made_by (listed_after height p l) p.outputs real).scripts ≤ row_limit 6
