-- The steps on rows of bytes.
use Rattle.std.proofs.Common.{◌≡◌, ◌⊎◌, inl, inr, ℕ, zero, suc, ◌+◌, ◌-◌, ◌<◌, ◌≤◌, ◌^◌, true, false, List, [], ◌∷◌, ◌++◌, set, length, take, get_or, slice_get, Option, None, Some, option_map, unwrap_or, refl, ap, ap₂, sym, subst, ◌∙◌, arith, eq-eqb}
use Rattle.std.proofs.lemmas.Bool.{cases_lt}
use Rattle.std.proofs.lemmas.List.{get_or_append_left, set-append_left, set-get_or}
use Rattle.el_chain.specs.Chains.{zero_hash}
use Rattle.el_chain.specs.declared.fault.ConnectFault.{ConnectFault}
use Rattle.el_chain.specs.declared.fault.ConnectFault.TheVariants as connect
use Rattle.el_tx.specs.declared.types.Outpoint.{Outpoint}
use Rattle.el_tables.specs.ChainLists.{ListedBlock}
use Rattle.el_tables.specs.Disconnecting.{but_last, last, buried_at, unbury, spent_at, give_back, unspend, take_back_output}
use Rattle.el_tables.specs.Edits.{no_out, no_row, row_of, out_row, more, less, less_at, coin_gone, coin_back, buried, new_out, out_left}
use Rattle.el_tables.specs.Lists.{State, ListedOut, Lists, unspent_at, with_state, script_at, coin_number, output_number, txid_at, replaced, bury, add_output, spend_outpoint, spend_output, held, balance_of}
use Rattle.el_tables.specs.Lists.State.{Unspent, Spent, Buried}
use Rattle.el_tables.specs.Tables as typed
use Rattle.el_tables.specs.Tables.{HeadCounts, tables_of, rows_from, script_row}
use Rattle.el_tables.proofs.OutEdits.{coin_back_rows, buried_rows, is_there, take_out_rows, add_out_rows, last_less_rows, balance_back, spent_gone, buried_gone, script_is, value_is}
use Rattle.el_tables.proofs.RowLists.{rows_at, length_rows}
use Rattle.el_tables.proofs.Sums.{balance_more, value_at}
use Rattle.el_rows.specs.Changes.{OnTable}
use Rattle.el_row_formats.specs.Tables as held_tables
use Rattle.el_row_formats.specs.RowBytes.{number_limit, script_row_bytes, out_row_bytes, state_by, FitsScriptRow, FitsOutRow}
use Rattle.el_row_formats.specs.Tables.{limit_of}
use Rattle.el_row_formats.specs.declared.table.Table.{Table}
use Rattle.el_row_formats.specs.declared.table.Table.TheVariants as table
use Rattle.el_row_formats.specs.declared.script_row.ScriptRow.{ScriptRow}
use Rattle.el_row_formats.specs.declared.out_row.OutRow.{OutRow}
use Rattle.el_row_formats.specs.declared.out_row.State as out_state
use Rattle.el_buckets.specs.Faults.{NotAdded}
use Rattle.el_schema.specs.Rows.{Encode, Hold, script_fields, out_fields, state_fields}
use Rattle.el_spend.specs.Outputs.{BalancesFit}
use Rattle.el_spend.specs.within.Parts.{IsOutRow, balance_raised, balance_lowered, state_changed, out_appended, in_appended, unburied_lists, spent_given_back, named_by}
use Rattle.el_schema.proofs.Rows.{found_at, found_within, set_past, script_set, out_set, count_scripts}

-- 1. Balances

module _ (old new : held_tables.Tables) (tb : typed.Tables) (same : Encode old tb) where
  -- where there is no such script nothing changes
  pub raised_past : (n value : ℕ) → length (old table.Scripts) ≤ n → Encode old (balance_raised n value tb)
  raised_past n value past =
      let long = count_scripts old old tb same in
      subst (λ (ss : List typed.ScriptRow). Encode old (record tb { scripts = ss })) (sym (set_past tb.scripts n (more value (row_of n tb)) (omega arith))) same

  pub lowered_past : (n value : ℕ) → length (old table.Scripts) ≤ n → Encode old (balance_lowered n value tb)
  lowered_past n value past =
      let long = count_scripts old old tb same in
      subst (λ (ss : List typed.ScriptRow). Encode old (record tb { scripts = ss })) (sym (set_past tb.scripts n (less value (row_of n tb)) (omega arith))) same

  -- another balance
  balance_put : (n b : ℕ) (row : ScriptRow) → Some row ≡ option_map script_fields (slice_get tb.scripts n) → FitsScriptRow row → b < 2 ^ 64
      → OnTable old new table.Scripts (set (old table.Scripts) n (script_row_bytes (record row { balance = b })))
      → Encode new (record tb { scripts = set tb.scripts n (record (row_of n tb) { balance = b }) })
  balance_put n b row is fits few on =
      let found = found_at script_fields tb.scripts n no_row row is in
      let changed : record row { balance = b } ≡ script_fields (record (row_of n tb) { balance = b }) = ap (λ (r : ScriptRow). record r { balance = b }) found in
      script_set old new tb same n (record (row_of n tb) { balance = b })
      (subst (λ (r : ScriptRow). OnTable old new table.Scripts (set (old table.Scripts) n (script_row_bytes r))) changed on)
      (subst FitsScriptRow changed (record { script = fits.script; next = fits.next; last = fits.last; entries = fits.entries; balance = few }))

  pub raised_here : (n value b : ℕ) (row : ScriptRow) → Some row ≡ option_map script_fields (slice_get tb.scripts n) → FitsScriptRow row → (row_of n tb).balance + value < 2 ^ 64
      → (row.balance + value < 2 ^ 64 → b ≡ row.balance + value)
      → OnTable old new table.Scripts (set (old table.Scripts) n (script_row_bytes (record row { balance = b })))
      → Encode new (balance_raised n value tb)
  raised_here n value b row is fits few sum on =
      let found = found_at script_fields tb.scripts n no_row row is in
      let balance : row.balance ≡ (row_of n tb).balance = ap (λ (r : ScriptRow). r.balance) found in
      let b_is : b ≡ (row_of n tb).balance + value = sum (omega arith) ∙ ap (λ (x : ℕ). x + value) balance in
      subst (λ (x : ℕ). Encode new (record tb { scripts = set tb.scripts n (record (row_of n tb) { balance = x }) })) b_is
      (balance_put n b row is fits (omega arith) on)

  pub lowered_here : (n value b : ℕ) (row : ScriptRow) → Some row ≡ option_map script_fields (slice_get tb.scripts n) → FitsScriptRow row → b ≡ row.balance - value
      → OnTable old new table.Scripts (set (old table.Scripts) n (script_row_bytes (record row { balance = b })))
      → Encode new (balance_lowered n value tb)
  lowered_here n value b row is fits difference on =
      let found = found_at script_fields tb.scripts n no_row row is in
      let balance : row.balance ≡ (row_of n tb).balance = ap (λ (r : ScriptRow). r.balance) found in
      let fit = fits.balance in
      let b_is : b ≡ (row_of n tb).balance - value = difference ∙ ap (λ (x : ℕ). x - value) balance in
      subst (λ (x : ℕ). Encode new (record tb { scripts = set tb.scripts n (record (row_of n tb) { balance = x }) })) b_is
      (balance_put n b row is fits (omega (arith, difference, fit)) on)

  -- 2. States

  pub state_put : (k : ℕ) (row : OutRow) (state : out_state.State) (s : State) → IsOutRow tb k row → FitsOutRow row → state_by state < number_limit → state ≡ state_fields s
      → OnTable old new table.Outs (set (old table.Outs) k (out_row_bytes (record row { state = state })))
      → Encode new (state_changed s k tb)
  state_put k row state s is fits few state_is on =
      let found = found_at out_fields tb.outs k no_out row is in
      let changed : record row { state = state } ≡ out_fields (record (out_row k tb) { state = s }) =
      ap₂ (λ (r : OutRow) (x : out_state.State). record r { state = x }) found state_is in
      out_set old new tb same k (record (out_row k tb) { state = s })
      (subst (λ (r : OutRow). OnTable old new table.Outs (set (old table.Outs) k (out_row_bytes r))) changed on)
      (subst FitsOutRow changed (record { tx = fits.tx; value = fits.value; script = fits.script; by = few }))

-- 3. Balances of lists

-- the balance of a script's row is a part of its balance, or all of it
pub row_balance : (counts : HeadCounts) (bs : List ListedBlock) (l : Lists) (n : ℕ) → (row_of n (tables_of counts bs l)).balance ≤ balance_of n l.outs
row_balance counts bs l n =
    let rows = rows_from (script_row counts.scripts l) 0 l.scripts in
    let long = length_rows (script_row counts.scripts l) 0 l.scripts in
    elim (cases_lt n (length l.scripts)) [
      | inl lt ↦
          let is = ap (λ (r : typed.ScriptRow). r.balance) (rows_at (script_row counts.scripts l) no_row zero_hash 0 n n l.scripts (omega arith) lt) in
          omega (arith, is)
      | inr ge ↦
          let is : (get_or rows n no_row).balance ≡ 0 = ap (λ (r : typed.ScriptRow). r.balance) (beyond rows n (omega arith)) in
          omega (arith, is)
    ]
  where
    beyond : (xs : List typed.ScriptRow) (m : ℕ) → length xs ≤ m → get_or xs m no_row ≡ no_row
    beyond [] m le = refl
    beyond (x ∷ xs) zero le = absurd (omega arith)
    beyond (x ∷ xs) (suc m) le = beyond xs m (omega arith)

-- a sum that comes back fits
pub back_fits : (counts : HeadCounts) (bs : List ListedBlock) (l : Lists) (k : ℕ) (row : OutRow) → Some row ≡ option_map out_fields (slice_get l.outs k) → unspent_at k l.outs ≡ false
    → BalancesFit (with_state Unspent k l.outs) → (row_of row.script (tables_of counts bs l)).balance + row.value < 2 ^ 64
back_fits counts bs l k row is gone fit =
    let found = found_at out_fields l.outs k no_out row is in
    let script : script_at k l.outs ≡ row.script = script_is k l.outs ∙ sym (ap (λ (r : OutRow). r.script) found) in
    let value : value_at k l.outs ≡ row.value = value_is k l.outs ∙ sym (ap (λ (r : OutRow). r.value) found) in
    let part = row_balance counts bs l row.script in
    let all = balance_back k row.script l.outs gone script in
    let few = fit row.script in
    omega arith

-- 4. `spend`

pub spent_hold : (counts : HeadCounts) (bs : List ListedBlock) (l : Lists) (new : held_tables.Tables) (o : Outpoint) (by k : ℕ) → coin_number o l.txs l.outs ≡ Some k → unspent_at k l.outs ≡ true
    → Encode new (coin_gone (Spent by) k (in_appended k (tables_of counts bs l))) → Hold counts bs (unwrap_or (spend_outpoint o by l) l) new
spent_hold counts bs l new o by k found there enc =
    let step : unwrap_or (spend_outpoint o by l) l ≡ spend_output by k l = ap (λ (r : Option ℕ). unwrap_or (option_map (λ (j : ℕ). spend_output by j l) r) l) found in
    subst (λ (m : Lists). Hold counts bs m new) (sym step) (subst (Encode new) (sym (take_out_rows counts bs l by k there)) enc)

pub unspent_hold : (counts : HeadCounts) (bs : List ListedBlock) (l : Lists) (new : held_tables.Tables) (o : Outpoint) (by : ℕ) → coin_number o l.txs l.outs ≡ None
    → Hold counts bs l new → Hold counts bs (unwrap_or (spend_outpoint o by l) l) new
unspent_hold counts bs l new o by none hold =
    let step : unwrap_or (spend_outpoint o by l) l ≡ l = ap (λ (r : Option ℕ). unwrap_or (option_map (λ (j : ℕ). spend_output by j l) r) l) none in
    subst (λ (m : Lists). Hold counts bs m new) (sym step) hold

-- 5. `add_out`

-- to append and to bury change places
pub buried_appended : (s : State) (k : ℕ) (x : ListedOut) (tb : typed.Tables) → k < length tb.outs → coin_gone s k (out_appended x tb) ≡ out_appended x (coin_gone s k tb)
buried_appended s k x tb lt =
    let here = get_or_append_left tb.outs (x ∷ []) no_out k lt in
    ap (λ (y : ListedOut). record tb { outs = set (tb.outs ++ x ∷ []) k (record y { state = s }); scripts = set tb.scripts y.script (less y.value (row_of y.script tb)) }) here
    ∙ ap (λ (os : List ListedOut). record (coin_gone s k tb) { outs = os }) (set-append_left tb.outs (x ∷ []) k (record (get_or tb.outs k no_out) { state = s }) lt)

-- the new output's own balance fits
own_fits : (counts : HeadCounts) (bs : List ListedBlock) (l : Lists) (x : ListedOut) → x.state ≡ Unspent → BalancesFit (l.outs ++ x ∷ [])
    → (row_of x.script (tables_of counts bs l)).balance + x.value < 2 ^ 64
own_fits counts bs l x there fit =
    let self = eq-eqb x.script x.script refl in
    let own : held x.script x ≡ x.value = rw (self, there) refl in
    let part = row_balance counts bs l x.script in
    let all = balance_more x.script l.outs x in
    let few = fit x.script in
    omega arith

-- what is buried is there
unspent_within : (k : ℕ) (outs : List ListedOut) → unspent_at k outs ≡ true → k < length outs
unspent_within k [] u = absurd cc
unspent_within zero (x ∷ xs) u = omega arith
unspent_within (suc k) (x ∷ xs) u = let less = unspent_within k xs u in omega arith

replaced_within : (tx index : ℕ) (l : Lists) (k : ℕ) → replaced tx index l ≡ Some k → k < length l.outs
replaced_within tx index l k some =
    unspent_within k l.outs (is_there l.outs (output_number (record { txid = txid_at tx l.txs; index = index }) (take tx l.txs)) k some)

burial_appended : (by : ℕ) (r : Option ℕ) (x : ListedOut) (tb : typed.Tables) → ((k : ℕ) → r ≡ Some k → k < length tb.outs) → buried by r (out_appended x tb) ≡ out_appended x (buried by r tb)
burial_appended by None x tb within = refl
burial_appended by (Some k) x tb within = buried_appended (Buried by) k x tb (within k refl)

module _ (counts : HeadCounts) (bs : List ListedBlock) (l : Lists) (tx index value script : ℕ) where
  moved : buried tx (replaced tx index l) (out_appended (new_out tx value script) (tables_of counts bs l)) ≡ out_appended (new_out tx value script) (buried tx (replaced tx index l) (tables_of counts bs l))
  moved = burial_appended tx (replaced tx index l) (new_out tx value script) (tables_of counts bs l) (replaced_within tx index l)

  pub added_fits : BalancesFit (add_output tx index value script l).outs
      → (row_of script (buried tx (replaced tx index l) (out_appended (new_out tx value script) (tables_of counts bs l)))).balance + value < 2 ^ 64
  added_fits fit =
      let x = new_out tx value script in
      let r = replaced tx index l in
      let after : Lists = record l { outs = bury tx r l.outs } in
      let fits = own_fits counts bs after x refl fit in
      let same : tables_of counts bs after ≡ buried tx r (tables_of counts bs l) =
      buried_rows counts bs l tx r (λ k e. is_there l.outs (output_number (record { txid = txid_at tx l.txs; index = index }) (take tx l.txs)) k e) in
      let is : (row_of script (buried tx r (out_appended x (tables_of counts bs l)))).balance ≡ (row_of script (tables_of counts bs after)).balance =
      ap (λ (t : typed.Tables). (row_of script t).balance) moved ∙ sym (ap (λ (t : typed.Tables). (row_of script t).balance) same) in
      subst (λ (b : ℕ). b + value < 2 ^ 64) (sym is) fits

  pub added_hold : (new : held_tables.Tables) → Encode new (balance_raised script value (buried tx (replaced tx index l) (out_appended (new_out tx value script) (tables_of counts bs l))))
      → Hold counts bs (add_output tx index value script l) new
  added_hold new enc = subst (Encode new) (ap (balance_raised script value) moved ∙ sym (add_out_rows counts bs l tx index value script)) enc

-- the output is still there after one more
pub row_appended : (x : ListedOut) (tb : typed.Tables) (k : ℕ) (row : OutRow) → IsOutRow tb k row → IsOutRow (out_appended x tb) k row
row_appended x tb k row is = is ∙ ap (option_map out_fields) (by tb.outs k (found_within out_fields tb.outs k row is))
  where
    by : (xs : List ListedOut) (m : ℕ) → m < length xs → slice_get xs m ≡ slice_get (xs ++ x ∷ []) m
    by [] m lt = absurd (omega arith)
    by (y ∷ ys) zero lt = refl
    by (y ∷ ys) (suc m) lt = by ys m (omega arith)

-- 6. `unspend`

module _ (counts : HeadCounts) (bs : List ListedBlock) (l : Lists) (new : held_tables.Tables) (k : ℕ) where
  pub given_hold : spent_at k l.outs ≡ true → Encode new (coin_back k (tables_of counts bs l)) → Hold counts bs (spent_given_back k l) new
  given_hold is enc =
      let after : spent_given_back k l ≡ record l { outs = with_state Unspent k l.outs } = rw is refl in
      subst (λ (m : Lists). Hold counts bs m new) (sym after) (subst (Encode new) (sym (coin_back_rows counts bs l k (spent_gone k l.outs is))) enc)

  pub kept_hold : spent_at k l.outs ≡ false → Hold counts bs l new → Hold counts bs (spent_given_back k l) new
  kept_hold isnt hold =
      let after : spent_given_back k l ≡ l = rw isnt refl in
      subst (λ (m : Lists). Hold counts bs m new) (sym after) hold

pub given_fits : (counts : HeadCounts) (bs : List ListedBlock) (l : Lists) (k : ℕ) (row : OutRow) → Some row ≡ option_map out_fields (slice_get l.outs k) → spent_at k l.outs ≡ true
    → BalancesFit (give_back (Some k) l.outs) → (row_of row.script (tables_of counts bs l)).balance + row.value < 2 ^ 64
given_fits counts bs l k row is spent fit =
    let after : give_back (Some k) l.outs ≡ with_state Unspent k l.outs = rw spent refl in
    back_fits counts bs l k row is (spent_gone k l.outs spent) (subst BalancesFit after fit)

-- 7. `take_back_out`

module _ (counts : HeadCounts) (bs : List ListedBlock) (l : Lists) (new : held_tables.Tables) (tx number : ℕ) where
  pub unburied_hold : (k : ℕ) → named_by tx number l ≡ Some k → buried_at tx k l.outs ≡ true → Encode new (coin_back k (tables_of counts bs l)) → Hold counts bs (unburied_lists tx number l) new
  unburied_hold k some is enc =
      let after : unburied_lists tx number l ≡ record l { outs = with_state Unspent k l.outs } =
      ap (λ (r : Option ℕ). record l { outs = unbury tx r l.outs }) some ∙ rw is refl in
      subst (λ (m : Lists). Hold counts bs m new) (sym after) (subst (Encode new) (sym (coin_back_rows counts bs l k (buried_gone tx k l.outs is))) enc)

  pub other_hold : (k : ℕ) → named_by tx number l ≡ Some k → buried_at tx k l.outs ≡ false → Hold counts bs l new → Hold counts bs (unburied_lists tx number l) new
  other_hold k some isnt hold =
      let after : unburied_lists tx number l ≡ l = ap (λ (r : Option ℕ). record l { outs = unbury tx r l.outs }) some ∙ rw isnt refl in
      subst (λ (m : Lists). Hold counts bs m new) (sym after) hold

  pub nowhere_hold : ((k : ℕ) → named_by tx number l ≡ Some k → buried_at tx k l.outs ≡ false) → Hold counts bs l new → Hold counts bs (unburied_lists tx number l) new
  nowhere_hold isnt hold = by (named_by tx number l) refl
    where
      by : (r : Option ℕ) → named_by tx number l ≡ r → Hold counts bs (unburied_lists tx number l) new
      by None is = subst (λ (m : Lists). Hold counts bs m new) (sym (ap (λ (r : Option ℕ). record l { outs = unbury tx r l.outs }) is)) hold
      by (Some k) is = other_hold k is (isnt k is) hold

pub unburied_fits : (counts : HeadCounts) (bs : List ListedBlock) (l : Lists) (tx number k : ℕ) (row : OutRow) → Some row ≡ option_map out_fields (slice_get l.outs k)
    → named_by tx number l ≡ Some k → buried_at tx k l.outs ≡ true
    → BalancesFit (unburied_lists tx number l).outs → (row_of row.script (tables_of counts bs l)).balance + row.value < 2 ^ 64
unburied_fits counts bs l tx number k row is some buried fit =
    let after : (unburied_lists tx number l).outs ≡ with_state Unspent k l.outs = ap (λ (r : Option ℕ). unbury tx r l.outs) some ∙ rw buried refl in
    back_fits counts bs l k row is (buried_gone tx k l.outs buried) (subst BalancesFit after fit)

-- the last output gone, and its value out of its balance
pub last_gone : (counts : HeadCounts) (bs : List ListedBlock) (l : Lists) (new : held_tables.Tables) (x : ListedOut) → last l.outs ≡ Some x
    → Encode new (out_left x (tables_of counts bs l)) → Hold counts bs (record l { outs = but_last l.outs }) new
last_gone counts bs l new x is enc = subst (Encode new) (sym (last_less_rows counts bs l x is)) enc

-- by nothing nothing is lower
pub less_nothing : (n : ℕ) (tb : typed.Tables) → less_at n 0 tb ≡ tb.scripts
less_nothing n tb =
    let row = row_of n tb in
    let same : row.balance - 0 ≡ row.balance = omega arith in
    ap (λ (b : ℕ). set tb.scripts n (record row { balance = b })) same ∙ set-get_or tb.scripts n no_row

-- what is taken back is what is left, and what was buried
pub taken_back : (l : Lists) (x : ListedOut) → last l.outs ≡ Some x → unburied_lists x.tx (length (but_last l.outs)) (record l { outs = but_last l.outs }) ≡ take_back_output l
taken_back l x is = sym (ap (λ (o : Option ListedOut). Rattle.el_tables.specs.Disconnecting.without_output o l) is)

-- 8. Faults

-- a fault after a row was added
pub after_append : (t : Table) (n : ℕ) (e : ConnectFault) → n < limit_of t → (e ≡ connect.DiskFailed) ⊎ (e ≡ connect.Memory) → (e ≡ connect.DiskFailed) ⊎ NotAdded t n e
after_append t n e lt (inl disk) = inl disk
after_append t n e lt (inr memory) = inr (inr (lt, memory))
