-- What the steps of a transaction do to lengths, to the sum of all coins, and to the room that is left.
use Rattle.std.proofs.Common.{◌≡◌, ◌⊎◌, inl, inr, ℕ, zero, suc, ◌+◌, ◌-◌, ◌<◌, ◌≤◌, ◌^◌, List, [], ◌∷◌, ◌++◌, length, take, drop, get_or, Option, None, Some, Ok, Err, refl, arith, min, unwrap_or}
use Rattle.std.proofs.lemmas.List.{take_at, drop_all}
use Rattle.el_base.specs.declared.hash.Hash32.{Hash32}
use Rattle.el_base.proofs.Lists.{left_at}
use Rattle.el_tx.specs.declared.types.Outpoint.{Outpoint}
use Rattle.el_chain.specs.RowCounts.{row_limit, add_script}
use Rattle.el_chain.specs.declared.fault.ConnectFault.{ConnectFault}
use Rattle.el_chain.specs.declared.fault.ConnectFault.TheVariants as refusal
use Rattle.el_tables.specs.ChainLists.{ListedBlock}
use Rattle.el_tables.specs.Connecting.{spend_all, spend_coin, fund, fund_all}
use Rattle.el_tables.specs.Edits.{no_out}
use Rattle.el_tables.specs.Fits.{Fits}
use Rattle.el_tables.specs.Lists.{State, Lists, ListedTx, ListedOut, script_number, add_entry, add_output, spend_output, with_state, script_at, coin_number, spend_outpoint, replaced, bury, unspent_sum, txid_at}
use Rattle.el_tables.specs.Tables.{HeadCounts}
use Rattle.el_tables.proofs.FitLemmas.{touch_fits, add_out_fits}
use Rattle.el_tables.proofs.RunningSums.{alone_more, buries_more}
use Rattle.el_tables.proofs.Scripts.{once_has, number_within}
use Rattle.el_tables.proofs.Steps.{length_state}
use Rattle.el_row_formats.specs.Tables as held
use Rattle.el_row_formats.specs.Tables.{limit_of}
use Rattle.el_row_formats.specs.declared.table.Table.{Table}
use Rattle.el_row_formats.specs.declared.table.Table.TheVariants as table
use Rattle.el_buckets.specs.Faults.{NotAdded}
use Rattle.el_schema.specs.Rows.{Hold}
use Rattle.el_schema.proofs.Held.{count_txs}
use Rattle.el_connect.specs.within.Parts.{Reached, values, output_amount}

-- 1. Lengths

pub bury_long : (by : ℕ) (r : Option ℕ) (xs : List ListedOut) → length (bury by r xs) ≡ length xs
bury_long by None xs = refl
bury_long by (Some k) xs = length_state (State.Buried by) k xs

-- 2. An input

pub script_stays : (s : State) (j k : ℕ) (xs : List ListedOut) → script_at k (with_state s j xs) ≡ script_at k xs
script_stays s j k [] = refl
script_stays s zero zero (x ∷ xs) = refl
script_stays s zero (suc k) (x ∷ xs) = refl
script_stays s (suc j) zero (x ∷ xs) = refl
script_stays s (suc j) (suc k) (x ∷ xs) = script_stays s j k xs

pub value_stays : (s : State) (j k : ℕ) (xs : List ListedOut) → (get_or (with_state s j xs) k no_out).value ≡ (get_or xs k no_out).value
value_stays s j k [] = refl
value_stays s zero zero (x ∷ xs) = refl
value_stays s zero (suc k) (x ∷ xs) = refl
value_stays s (suc j) zero (x ∷ xs) = refl
value_stays s (suc j) (suc k) (x ∷ xs) = value_stays s j k xs

-- the inputs that are left, where one has no coin, and where one has
pub input_missing : (by at : ℕ) (os : List Outpoint) (o : Outpoint) (l : Lists) → at < length os → o ≡ get_or os at o → coin_number o l.txs l.outs ≡ None
    → spend_all by at (drop at os) l ≡ Err at
input_missing by at os o l lt is none = let left = left_at os at o lt is in rw (left, none) refl

pub input_spent : (by at k : ℕ) (os : List Outpoint) (o : Outpoint) (l : Lists) → at < length os → o ≡ get_or os at o → coin_number o l.txs l.outs ≡ Some k
    → spend_all by at (drop at os) l ≡ spend_all by (at + 1) (drop (at + 1) os) (spend_coin by k l)
input_spent by at k os o l lt is some = let left = left_at os at o lt is in rw (left, some) refl

pub inputs_end : (by at : ℕ) (os : List Outpoint) (l : Lists) → length os ≤ at → spend_all by at (drop at os) l ≡ Ok l
inputs_end by at os l le = let none = drop_all at os le in rw none refl

-- 3. An output

-- the sum falls by what is buried, and rises by the value
pub funded_sum : (l : Lists) (tx index value script : ℕ)
    → unspent_sum (add_output tx index value script l).outs + output_amount (replaced tx index l) l.outs ≡ unspent_sum l.outs + value
funded_sum l tx index value script = by (replaced tx index l) refl
  where
    by : (r : Option ℕ) → replaced tx index l ≡ r → unspent_sum (add_output tx index value script l).outs + output_amount r l.outs ≡ unspent_sum l.outs + value
    by None is = let e = alone_more l tx index value script is in omega arith
    by (Some k) is = buries_more l tx index value script k is

pub funded_at_most : (l : Lists) (tx index value script : ℕ) → unspent_sum (add_output tx index value script l).outs ≤ unspent_sum l.outs + value
funded_at_most l tx index value script = let e = funded_sum l tx index value script in omega arith

-- what is buried is a part of the sum
pub gone_within : (l : Lists) (tx index : ℕ) → output_amount (replaced tx index l) l.outs ≤ unspent_sum l.outs
gone_within l tx index = let e = funded_sum l tx index 0 0 in omega arith

-- the script hash's number is one of those that there are then
pub entered_within : (s : Hash32) (xs : List Hash32) → script_number s (add_script s xs) < length (add_script s xs)
entered_within s xs = number_within s (add_script s xs) (once_has s xs).0

pub entered_number : (s : Hash32) (xs : List Hash32) → script_number s (add_script s xs) ≡ script_number s xs
entered_number s xs = (once_has s xs).1

pub fund_fits : (tx index : ℕ) (o : ℕ × Hash32) (l : Lists) → Fits l → Fits (fund tx index o l)
fund_fits tx index o l fits =
    let e = add_entry o.1 tx l in
    add_out_fits e tx index o.0 (script_number o.1 e.scripts) (touch_fits l o.1 tx fits) (entered_within o.1 l.scripts)

pub fund_txs : (tx index : ℕ) (os : List (ℕ × Hash32)) (l : Lists) → (fund_all tx index os l).txs ≡ l.txs
fund_txs tx index [] l = refl
fund_txs tx index (o ∷ os) l = fund_txs tx (index + 1) os (fund tx index o l)

-- the outputs that are left
pub output_funded : (tx at : ℕ) (os : List (ℕ × Hash32)) (o : ℕ × Hash32) (l : Lists) → at < length os → o ≡ get_or os at o
    → fund_all tx at (drop at os) l ≡ fund_all tx (at + 1) (drop (at + 1) os) (fund tx at o l)
output_funded tx at os o l lt is = let left = left_at os at o lt is in rw left refl

pub outputs_end : (tx at : ℕ) (os : List (ℕ × Hash32)) (l : Lists) → length os ≤ at → fund_all tx at (drop at os) l ≡ l
outputs_end tx at os l le = let none = drop_all at os le in rw none refl

pub values_left : (at : ℕ) (os : List (ℕ × Hash32)) (o : ℕ × Hash32) → at < length os → o ≡ get_or os at o → values (drop at os) ≡ o.0 + values (drop (at + 1) os)
values_left at os o lt is = let left = left_at os at o lt is in rw left refl

-- 4. A transaction that was listed

pub last_txid : (txs : List ListedTx) (t : ListedTx) → txid_at (length txs) (txs ++ t ∷ []) ≡ t.txid
last_txid [] t = refl
last_txid (u ∷ us) t = last_txid us t

pub before_last : (txs : List ListedTx) (t : ListedTx) → take (length txs) (txs ++ t ∷ []) ≡ txs
before_last txs t = take_at txs (t ∷ []) (length txs) refl

-- 5. Rows and the sum after a step

pub spent_lists : (o : Outpoint) (by k : ℕ) (l : Lists) → coin_number o l.txs l.outs ≡ Some k → unwrap_or (spend_outpoint o by l) l ≡ spend_output by k l
spent_lists o by k l is = rw is refl

pub output_reached : (counts : HeadCounts) (bs : List ListedBlock) (l : Lists) (before rows : held.Tables) (sum tx index gone after : ℕ) (o : ℕ × Hash32) → Reached counts bs l before sum
    → unspent_sum l.outs + o.0 < 2 ^ 64 → gone ≡ output_amount (replaced tx index (add_entry o.1 tx l)) l.outs → after ≡ min (sum - gone + o.0) 18446744073709551615
    → Hold counts bs (fund tx index o l) rows → Reached counts bs (fund tx index o l) rows after
output_reached counts bs l before rows sum tx index gone after o reached fit buried is hold =
    let e = add_entry o.1 tx l in
    let sums = funded_sum e tx index o.0 (script_number o.1 e.scripts) in
    let part = gone_within e tx index in
    let sum_was = reached.sum_is in
    let more : sum - gone + o.0 ≡ unspent_sum (fund tx index o l).outs = omega arith in
    let all : unspent_sum (fund tx index o l).outs ≤ 18446744073709551615 = omega arith in
    record {
      hold = hold;
      fits = fund_fits tx index o l reached.fits;
      tx_heads = reached.tx_heads;
      script_heads = reached.script_heads;
      sum_is = omega (arith, is, more, all);
    }

-- 6. Faults of calls where there is room

pub not_added : (t : Table) (n : ℕ) (e : ConnectFault) → n < limit_of t → NotAdded t n e → e ≡ refusal.Memory
not_added t n e lt (inl full) = absurd (let at = full.0 in omega arith)
not_added t n e lt (inr memory) = memory.1

pub tx_added_refused : (counts : HeadCounts) (bs : List ListedBlock) (l : Lists) (rows : held.Tables) (e : ConnectFault) → Hold counts bs l rows → length l.txs < row_limit 2
    → (e ≡ refusal.DiskFailed) ⊎ NotAdded table.Txs (length (rows table.Txs)) e → (e ≡ refusal.DiskFailed) ⊎ (e ≡ refusal.Memory)
tx_added_refused counts bs l rows e hold few (inl disk) = inl disk
tx_added_refused counts bs l rows e hold few (inr why) =
    inr (not_added table.Txs (length (rows table.Txs)) e (let many = count_txs counts bs l rows hold in omega arith) why)
