-- Entries of script hashes, and the room that they need.
use Rattle.std.proofs.Common.{◌≡◌, ◌⊎◌, inl, inr, ℕ, zero, suc, ◌+◌, ◌<◌, ◌≤◌, Bool, true, false, List, [], ◌∷◌, ◌++◌, length, get_or, drop, Option, None, Some, Result, Ok, Err, IfErr, refl, ap, sym, subst, ◌∙◌, arith, length-append, if◌then◌else◌}
use Rattle.std.specs.Option.{option_or}
use Rattle.std.proofs.lemmas.Bool.{cases_lt, lt-ltb, le-ltb}
use Rattle.std.proofs.lemmas.List.{drop_all, get_or_past}
use Rattle.el_base.specs.declared.hash.Hash32.{Hash32}
use Rattle.el_base.proofs.Lists.{left_at}
use Rattle.el_chain.specs.Chains.{zero_hash}
use Rattle.el_chain.specs.Faults.{full}
use Rattle.el_chain.specs.RowCounts.{row_limit, add_script, add_scripts}
use Rattle.el_chain.proofs.GoodChains.{first_none, second_none}
use Rattle.el_chain.specs.declared.fault.ConnectFault.{ConnectFault}
use Rattle.el_chain.specs.declared.fault.ConnectFault.TheVariants as refusal
use Rattle.el_tables.specs.Connecting.{fund_all, full_by, fund, script_of_output}
use Rattle.el_tables.specs.Fits.{OutsWithin}
use Rattle.el_tables.specs.Lists.{State, Lists, ListedOut, ListedEntry, add_entry, append_entry, bury, is_tx, last_tx_of, replaced, script_at, script_number, spend_output}
use Rattle.el_tables.specs.ChainLists.{ListedBlock}
use Rattle.el_tables.specs.Tables.{HeadCounts}
use Rattle.el_tables.proofs.FitLemmas.{touch_fits}
use Rattle.el_tables.proofs.Scripts.{once_longer}
use Rattle.el_row_formats.specs.Tables as held
use Rattle.el_schema.specs.Rows.{Hold}
use Rattle.el_buckets.specs.Faults.{NotAdded}
use Rattle.el_schema.proofs.Held.{count_scripts}
use Rattle.el_row_formats.specs.declared.table.Table.TheVariants as table
use Rattle.el_script.specs.Touches.{touch_full}
use Rattle.el_script.proofs.Causes.{hash_there}
use Rattle.el_connect.specs.within.Parts.{HasRoomFor, Overflows, Reached, touch_coins, output_scripts}
use Rattle.el_connect.proofs.StepLemmas.{bury_long, script_stays}

-- 1. One entry

pub full_none : (table rows : ℕ) → rows ≤ row_limit table → full table rows ≡ None
full_none table rows le = let e = le-ltb (row_limit table) rows le in rw e refl

pub full_some : (table rows : ℕ) → row_limit table < rows → full table rows ≡ Some (refusal.Full table (row_limit table))
full_some table rows lt = let e = lt-ltb (row_limit table) rows lt in rw e refl

pub within_full : (table rows : ℕ) → full table rows ≡ None → rows ≤ row_limit table
within_full table rows none = by (cases_lt (row_limit table) rows)
  where
    wrong : Some (refusal.Full table (row_limit table)) ≡ None → ⊥
    wrong e = cc

    by : (row_limit table < rows) ⊎ (rows ≤ row_limit table) → rows ≤ row_limit table
    by (inr le) = le
    by (inl lt) = absurd (wrong (sym (full_some table rows lt) ∙ none))

-- where the tables before it have room, that of entries decides
pub full_last : (height : ℕ) (l : Lists) → height + 1 ≤ row_limit 1 → length l.txs ≤ row_limit 2 → length l.outs ≤ row_limit 4 → length l.ins ≤ row_limit 5 → length l.scripts ≤ row_limit 6
    → full_by height l ≡ full 8 (length l.entries)
full_last height l low txs outs ins scripts =
    let one = full_none 1 (height + 1) low in
    let two = full_none 2 (length l.txs) txs in
    let four = full_none 4 (length l.outs) outs in
    let five = full_none 5 (length l.ins) ins in
    let six = full_none 6 (length l.scripts) scripts in
    rw (one, two, four, five, six) refl

-- after an entry no table has too many rows
pub room_touched : (s : Hash32) (tx n : ℕ) (l : Lists) → HasRoomFor l 0 n → touch_full s tx l ≡ None → HasRoomFor (add_entry s tx l) 0 n
room_touched s tx n l room none = record {
  ins = room.ins;
  outs = room.outs;
  scripts = within_full 6 (length (add_entry s tx l).scripts) (first_none _ _ none);
  entries = within_full 8 (length (add_entry s tx l).entries) (second_none (full 6 (length (add_entry s tx l).scripts)) _ none);
}

-- nor after an output
pub room_funded : (tx index n : ℕ) (o : ℕ × Hash32) (l : Lists) → HasRoomFor l 0 (n + 1) → touch_full o.1 tx l ≡ None → HasRoomFor (fund tx index o l) 0 n
room_funded tx index n o l room none =
    let e = add_entry o.1 tx l in
    let x : ListedOut = record { tx = tx; value = o.0; script = script_number o.1 e.scripts; state = State.Unspent } in
    let buried = bury_long tx (replaced tx index e) l.outs in
    let outs = length-append (bury tx (replaced tx index e) l.outs) (x ∷ []) in
    let a = room.outs in
    let one = within_full 6 (length e.scripts) (first_none _ _ none) in
    let two = within_full 8 (length e.entries) (second_none (full 6 (length e.scripts)) _ none) in
    record { ins = room.ins; outs = omega arith; scripts = one; entries = two }

-- where script hashes have room, the table of entries is the full one
overflows : (s : Hash32) (tx : ℕ) (l : Lists) (e : ConnectFault) → length (add_entry s tx l).scripts ≤ row_limit 6 → touch_full s tx l ≡ Some e → Overflows (add_entry s tx l) e
overflows s tx l e few some =
    let six = full_none 6 (length (add_entry s tx l).scripts) few in
    by (cases_lt (row_limit 8) (length (add_entry s tx l).entries)) (sym (ap (λ (r : Option ConnectFault). option_or r (full 8 (length (add_entry s tx l).entries))) six) ∙ some)
  where
    by : (row_limit 8 < length (add_entry s tx l).entries) ⊎ (length (add_entry s tx l).entries ≤ row_limit 8) → full 8 (length (add_entry s tx l).entries) ≡ Some e → Overflows (add_entry s tx l) e
    by (inl lt) is = (same (sym (full_some 8 (length (add_entry s tx l).entries) lt) ∙ is), lt)
      where
        same : Some (refusal.Full 8 (row_limit 8)) ≡ Some e → e ≡ refusal.Full 8 (row_limit 8)
        same q = cc
    by (inr le) is = absurd (wrong (sym (full_none 8 (length (add_entry s tx l).entries) le) ∙ is))
      where
        wrong : None ≡ Some e → ⊥
        wrong q = cc

pub touch_refused : (s : Hash32) (tx n m : ℕ) (l : Lists) (e : ConnectFault) → length (add_entry s tx l).scripts ≤ row_limit 6
    → ((t rows : ℕ) → e ≡ refusal.Full t rows → touch_full s tx l ≡ Some (refusal.Full t rows))
    → (e ≡ refusal.DiskFailed) ⊎ (NotAdded table.Scripts n e ⊎ NotAdded table.Entries m e)
    → (e ≡ refusal.DiskFailed) ⊎ ((e ≡ refusal.Memory) ⊎ Overflows (add_entry s tx l) e)
touch_refused s tx n m l e few tells (inl disk) = inl disk
touch_refused s tx n m l e few tells (inr (inl (inl at))) = inr (inr (overflows s tx l e few (tells 6 (row_limit 6) at.1 ∙ ap Some (sym at.1))))
touch_refused s tx n m l e few tells (inr (inl (inr memory))) = inr (inl memory.1)
touch_refused s tx n m l e few tells (inr (inr (inl at))) = inr (inr (overflows s tx l e few (tells 8 (row_limit 8) at.1 ∙ ap Some (sym at.1))))
touch_refused s tx n m l e few tells (inr (inr (inr memory))) = inr (inl memory.1)

-- 2. Many entries

entry_more : (tx n : ℕ) (es : List ListedEntry) → length es ≤ length (append_entry tx n es)
entry_more tx n es = by (is_tx tx (last_tx_of n es))
  where
    by : (b : Bool) → length es ≤ length (if b then es else es ++ record { tx = tx; script = n } ∷ [])
    by true = omega arith
    by false = let long = length-append es (record { tx = tx; script = n } ∷ []) in omega arith

-- there are more and more
pub touch_more : (by : ℕ) (ks : List ℕ) (l : Lists) → (length l.scripts ≤ length (touch_coins by ks l).scripts) × (length l.entries ≤ length (touch_coins by ks l).entries)
touch_more by [] l = (omega arith, omega arith)
touch_more by (k ∷ ks) l =
    let h = script_of_output k l in
    let rest = touch_more by ks (add_entry h by l) in
    let a = once_longer h l.scripts in
    let b = entry_more by (script_number h l.scripts) l.entries in
    let c = rest.0 in
    let d = rest.1 in
    (omega arith, omega arith)

pub fund_more : (tx at : ℕ) (os : List (ℕ × Hash32)) (l : Lists) → (length l.scripts ≤ length (fund_all tx at os l).scripts) × (length l.entries ≤ length (fund_all tx at os l).entries)
fund_more tx at [] l = (omega arith, omega arith)
fund_more tx at (o ∷ os) l =
    let rest = fund_more tx (at + 1) os (fund tx at o l) in
    let a = once_longer o.1 l.scripts in
    let b = entry_more tx (script_number o.1 l.scripts) l.entries in
    let c = rest.0 in
    let d = rest.1 in
    (omega arith, omega arith)

pub fund_scripts : (tx at : ℕ) (os : List (ℕ × Hash32)) (l : Lists) → (fund_all tx at os l).scripts ≡ add_scripts l.scripts (output_scripts os)
fund_scripts tx at [] l = refl
fund_scripts tx at (o ∷ os) l = fund_scripts tx (at + 1) os (fund tx at o l)

-- what overflows early overflows at the end
pub overflows_later : (l m : Lists) (e : ConnectFault) → length l.entries ≤ length m.entries → Overflows l e → Overflows m e
overflows_later l m e more over = (over.0, let lt = over.1 in omega arith)

pub refused_later : {X : Type 0} (l m : Lists) (e : ConnectFault) → length l.entries ≤ length m.entries → (Overflows m e → X)
    → (e ≡ refusal.DiskFailed) ⊎ ((e ≡ refusal.Memory) ⊎ Overflows l e) → (e ≡ refusal.DiskFailed) ⊎ ((e ≡ refusal.Memory) ⊎ X)
refused_later l m e more on (inl disk) = inl disk
refused_later l m e more on (inr (inl memory)) = inr (inl memory)
refused_later l m e more on (inr (inr full)) = inr (inr (on (overflows_later l m e more full)))

-- 3. The coins of a transaction

pub touch_txs : (by : ℕ) (ks : List ℕ) (l : Lists) → (touch_coins by ks l).txs ≡ l.txs
touch_txs by [] l = refl
touch_txs by (k ∷ ks) l = touch_txs by ks (add_entry (script_of_output k l) by l)

pub touch_outs : (by : ℕ) (ks : List ℕ) (l : Lists) → (touch_coins by ks l).outs ≡ l.outs
touch_outs by [] l = refl
touch_outs by (k ∷ ks) l = touch_outs by ks (add_entry (script_of_output k l) by l)

pub touch_ins : (by : ℕ) (ks : List ℕ) (l : Lists) → (touch_coins by ks l).ins ≡ l.ins
touch_ins by [] l = refl
touch_ins by (k ∷ ks) l = touch_ins by ks (add_entry (script_of_output k l) by l)

touch_last : (by k : ℕ) (ks : List ℕ) (l : Lists)
    → touch_coins by (ks ++ k ∷ []) l ≡ add_entry (script_of_output k (touch_coins by ks l)) by (touch_coins by ks l)
touch_last by k [] l = refl
touch_last by k (j ∷ ks) l = touch_last by k ks (add_entry (script_of_output j l) by l)

-- a coin may be spent before or after
touch_spent : (by k : ℕ) (ks : List ℕ) (l : Lists) → touch_coins by ks (spend_output by k l) ≡ spend_output by k (touch_coins by ks l)
touch_spent by k [] l = refl
touch_spent by k (j ∷ ks) l =
    let same : script_of_output j (spend_output by k l) ≡ script_of_output j l = ap (λ (n : ℕ). get_or l.scripts n zero_hash) (script_stays (State.Spent by) k j l.outs) in
    ap (λ (h : Hash32). touch_coins by ks (add_entry h by (spend_output by k l))) same ∙ touch_spent by k ks (add_entry (script_of_output j l) by l)

-- one coin more, which is spent and then has its entry
pub coin_touched : (by k : ℕ) (ks : List ℕ) (now real : Lists) → real ≡ touch_coins by ks now
    → add_entry (script_of_output k real) by (spend_output by k real) ≡ touch_coins by (ks ++ k ∷ []) (spend_output by k now)
coin_touched by k ks now real is =
    let spent : touch_coins by ks (spend_output by k now) ≡ spend_output by k real = touch_spent by k ks now ∙ ap (spend_output by k) (sym is) in
    let same : script_of_output k (spend_output by k real) ≡ script_of_output k real = ap (λ (n : ℕ). get_or real.scripts n zero_hash) (script_stays (State.Spent by) k k real.outs) in
    sym (touch_last by k ks (spend_output by k now) ∙ ap (λ (x : Lists). add_entry (script_of_output k x) by x) spent ∙ ap (λ (h : Hash32). add_entry h by (spend_output by k real)) same)

-- the number of a coin's script hash is one of theirs
script_within : (n k : ℕ) (xs : List ListedOut) → OutsWithin n xs → 0 < length xs → script_at k xs < n
script_within n k [] h lt = absurd (omega arith)
script_within n zero (x ∷ xs) h lt = h.0
script_within n (suc k) (x ∷ []) h lt = let low = h.0 in omega arith
script_within n (suc k) (x ∷ y ∷ xs) h lt = script_within n k (y ∷ xs) h.1 (omega arith)

pub touch_scripts : (by : ℕ) (ks : List ℕ) (l : Lists) → OutsWithin (length l.scripts) l.outs → (0 < length ks → 0 < length l.outs) → (touch_coins by ks l).scripts ≡ l.scripts
touch_scripts by [] l within some = refl
touch_scripts by (k ∷ ks) l within some =
    let h = script_of_output k l in
    let outs = some (omega arith) in
    let there = hash_there (script_at k l.outs) l.scripts (script_within (length l.scripts) k l.outs within outs) in
    let same : add_script h l.scripts ≡ l.scripts = rw there refl in
    touch_scripts by ks (add_entry h by l) (subst (λ (xs : List Hash32). OutsWithin (length xs) l.outs) (sym same) within) (λ lt. outs) ∙ same

-- the coins that are left
pub coins_left : (by at k : ℕ) (ks : List ℕ) (now : Lists) → at < length ks → k ≡ get_or ks at k
    → touch_coins by (drop at ks) now ≡ touch_coins by (drop (at + 1) ks) (add_entry (script_of_output k now) by now)
coins_left by at k ks now lt is = let left = left_at ks at k lt is in rw left refl

pub coins_end : (by at : ℕ) (ks : List ℕ) (now : Lists) → length ks ≤ at → touch_coins by (drop at ks) now ≡ now
coins_end by at ks now le = let none = drop_all at ks le in rw none refl

pub coin_here : (first at : ℕ) (is ks : List ℕ) → drop first is ≡ ks → get_or is (first + at) 0 ≡ get_or ks at 0
coin_here zero at is ks e = ap (λ (n : ℕ). get_or is n 0) (let z : 0 + at ≡ at = omega arith in z) ∙ ap (λ (xs : List ℕ). get_or xs at 0) e
coin_here (suc n) at [] ks e = ap (λ (xs : List ℕ). get_or xs at 0) e
coin_here (suc n) at (i ∷ is) ks e = ap (λ (m : ℕ). get_or (i ∷ is) m 0) (let z : suc n + at ≡ suc (n + at) = omega arith in z) ∙ coin_here n at is ks e

-- 4. Rows after an entry

pub entered : (counts : HeadCounts) (bs : List ListedBlock) (l : Lists) (rows new : held.Tables) (sum : ℕ) (s : Hash32) (tx : ℕ) → Reached counts bs l rows sum → Hold counts bs (add_entry s tx l) new
    → Reached counts bs (add_entry s tx l) new sum
entered counts bs l rows new sum s tx reached hold =
    record { hold = hold; fits = touch_fits l s tx reached.fits; tx_heads = reached.tx_heads; script_heads = reached.script_heads; sum_is = reached.sum_is }

pub coin_refused : (s h : Hash32) (tx n m : ℕ) (l : Lists) (e : ConnectFault) → s ≡ h → length (add_entry h tx l).scripts ≤ row_limit 6
    → ((t rows : ℕ) → e ≡ refusal.Full t rows → touch_full s tx l ≡ Some (refusal.Full t rows))
    → (e ≡ refusal.DiskFailed) ⊎ (NotAdded table.Scripts n e ⊎ NotAdded table.Entries m e)
    → (e ≡ refusal.DiskFailed) ⊎ ((e ≡ refusal.Memory) ⊎ Overflows (add_entry h tx l) e)
coin_refused s h tx n m l e same few tells why =
    subst (λ (x : Hash32). (e ≡ refusal.DiskFailed) ⊎ ((e ≡ refusal.Memory) ⊎ Overflows (add_entry x tx l) e)) same
    (touch_refused s tx n m l e (subst (λ (x : Hash32). length (add_entry x tx l).scripts ≤ row_limit 6) (sym same) few) tells why)

-- 5. The script hash of a coin by its number

pub hash_named : (l : Lists) (coin n : ℕ) → n ≡ script_at coin l.outs → get_or l.scripts n zero_hash ≡ script_of_output coin l
hash_named l coin n is = ap (λ (k : ℕ). get_or l.scripts k zero_hash) is

-- past all numbers it is the zero hash
pub hash_past : (counts : HeadCounts) (bs : List ListedBlock) (l : Lists) (rows : held.Tables) (coin n : ℕ) → Hold counts bs l rows → length (rows table.Scripts) ≤ n
    → n ≡ script_at coin l.outs → zero_hash ≡ script_of_output coin l
hash_past counts bs l rows coin n hold past is =
    let none : length l.scripts ≤ n = (let many = count_scripts counts bs l rows hold in omega arith) in
    sym (get_or_past l.scripts n zero_hash none) ∙ hash_named l coin n is

-- an entry by the number is refused as one by the hash
pub number_refused : {X : Type 0} (r : Result X ConnectFault) (s h : Hash32) (tx m : ℕ) (l : Lists) → s ≡ h → length (add_entry h tx l).scripts ≤ row_limit 6
    → ((t rows : ℕ) → r ≡ Err (refusal.Full t rows) → touch_full s tx l ≡ Some (refusal.Full t rows))
    → IfErr r (λ e. (e ≡ refusal.DiskFailed) ⊎ NotAdded table.Entries m e)
    → IfErr r (λ e. (e ≡ refusal.DiskFailed) ⊎ ((e ≡ refusal.Memory) ⊎ Overflows (add_entry h tx l) e))
number_refused (Ok x) s h tx m l same few tells why = tt
number_refused (Err e) s h tx m l same few tells why =
    coin_refused s h tx 0 m l e same few (λ t rows is. tells t rows (ap (λ (f : ConnectFault). Err f) is)) (either why)
  where
    either : (e ≡ refusal.DiskFailed) ⊎ NotAdded table.Entries m e → (e ≡ refusal.DiskFailed) ⊎ (NotAdded table.Scripts 0 e ⊎ NotAdded table.Entries m e)
    either (inl disk) = inl disk
    either (inr at) = inr (inr at)
