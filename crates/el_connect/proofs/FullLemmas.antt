-- A transaction for whose rows there is no room.
use Rattle.std.proofs.Common.{◌≡◌, ◌⊎◌, inl, inr, ℕ, ◌+◌, ◌-◌, ◌<◌, ◌≤◌, true, false, List, [], ◌∷◌, ◌++◌, length, take, drop, get_or, Option, None, Some, Result, Ok, Err, refl, ap, sym, subst, ◌∙◌, arith, length-append, append-nil, append_assoc}
use Rattle.std.specs.Option.{option_or}
use Rattle.el_base.specs.declared.hash.Hash32.{Hash32}
use Rattle.el_tx.specs.declared.types.Outpoint.{Outpoint}
use Rattle.el_tx.specs.Encoding.{max_money}
use Rattle.el_chain.specs.Faults.{money_fault}
use Rattle.el_chain.specs.RowCounts.{row_limit, add_scripts}
use Rattle.el_chain.specs.declared.fault.ConnectFault.{ConnectFault}
use Rattle.el_chain.specs.declared.fault.ConnectFault.TheVariants as refusal
use Rattle.el_chain.proofs.GoodChains.{money_fits}
use Rattle.el_prepare.specs.declared.prepared.PreparedTx.{PreparedTx}
use Rattle.el_tables.specs.ChainLists.{ListedBlock}
use Rattle.el_tables.specs.Connecting.{◌>>=◌, spend_all, spend_coin, fund_all, listed_after, connect_tx, missing_at, ok_unless, bounds_by, full_by}
use Rattle.el_tables.specs.Edits.{no_out}
use Rattle.el_tables.specs.Fits.{Fits}
use Rattle.el_tables.specs.Lists.{State, Lists, ListedTx, ListedOut, add_tx, spend_output, coin_number, output_number, unspent_at, unspent_sum, txid_at}
use Rattle.el_tables.specs.Tables.{HeadCounts}
use Rattle.el_tables.proofs.FitLemmas.{take_out_fits}
use Rattle.el_tables.proofs.OutEdits.{is_there}
use Rattle.el_tables.proofs.RunningSums.{spent_less}
use Rattle.el_tables.proofs.Steps.{length_state}
use Rattle.el_rows.specs.Changes.{OnTable}
use Rattle.el_row_formats.specs.Tables as held
use Rattle.el_row_formats.specs.declared.table.Table.TheVariants as table
use Rattle.el_buckets.specs.Faults.{NotAdded}
use Rattle.el_schema.specs.Rows.{Hold}
use Rattle.el_schema.proofs.Rows.{on_ins}
use Rattle.el_schema.proofs.Held.{count_ins}
use Rattle.el_connect.specs.within.Parts.{Reached, IsBetweenTxs, FitsTables, OutsInTurn, connect_next, made_by, output_scripts, touch_coins}
use Rattle.el_connect.specs.within.Full.{TakenBy, TakingOn, FineCoins, IsNextTx, ReadyCoins}
use Rattle.el_connect.proofs.StepLemmas.{input_missing, input_spent, inputs_end, last_txid, before_last, not_added}
use Rattle.el_connect.proofs.TouchLemmas.{coin_touched, full_none, full_some, fund_scripts, touch_scripts}
use Rattle.el_connect.proofs.MadeLemmas.{made_txs, made_outs, made_ins, tx_leads}

-- 1. Rows without inputs

pub no_ins : (counts : HeadCounts) (bs : List ListedBlock) (l : Lists) (old new : held.Tables) → Hold counts bs l old → OnTable old new table.Ins (take 0 (old table.Ins))
    → Hold counts bs (record l { ins = [] }) new
no_ins counts bs l old new hold on = on_ins old new (Rattle.el_tables.specs.Tables.tables_of counts bs l) hold [] on.others on.here tt

-- 2. Inputs

module _ (counts : HeadCounts) (bs : List ListedBlock) (start before : Lists) (most by : ℕ) (os : List Outpoint) where
  abbrev pub Takes : held.Tables → ℕ → ℕ → Type 0
  Takes rows left at = TakingOn counts bs by start before rows left most at (λ real. spend_all by 0 os before ≡ spend_all by at (drop at os) real)

  pub takes_begin : (rows : held.Tables) (sum : ℕ) → sum ≤ most → Hold counts bs start rows → start.txs ≡ before.txs → start.outs ≡ before.outs → sum ≡ unspent_sum before.outs
      → Takes rows sum 0
  takes_begin rows sum le hold txs outs is = record {
    now = start;
    real = before;
    coins = [];
    left_is = refl;
    hold = hold;
    fits = λ f. f;
    txs = txs;
    outs = outs;
    scripts = refl;
    entries = refl;
    ins = sym (append-nil start.ins);
    many = refl;
    some = λ lt. absurd (omega (arith, lt));
    touched = λ same. sym same;
    sum_is = is;
    fell = le;
    real_txs = refl;
    real_outs = refl;
    real_ins = omega arith;
  }

  coin_same : (o : Outpoint) (now real : Lists) (r : Option ℕ) → now.txs ≡ real.txs → now.outs ≡ real.outs → coin_number o now.txs now.outs ≡ r → coin_number o real.txs real.outs ≡ r
  coin_same o now real r txs outs is =
      ap (λ (ts : List ListedTx). coin_number o ts real.outs) (sym txs) ∙ ap (λ (xs : List ListedOut). coin_number o now.txs xs) (sym outs) ∙ is

  any_there : (k : ℕ) (xs : List ListedOut) → unspent_at k xs ≡ true → 0 < length xs
  any_there k [] e = absurd (wrong e)
    where
      wrong : false ≡ true → ⊥
      wrong f = cc
  any_there k (x ∷ xs) e = omega arith

  pub takes_more : (rows new : held.Tables) (left less at value : ℕ) (o : Outpoint) (r : Option ℕ) → at < length os → o ≡ get_or os at o → r ≡ Some value → less ≡ left - value
      → Takes rows left at → ((now : Lists) → Hold counts bs now rows → TakenBy counts bs now new o by r) → Takes new less (at + 1)
  takes_more rows new left less at value o r lt is some fell inv takes =
      let now = inv.now in
      let real = inv.real in
      let taken = subst (λ (q : Option ℕ). TakenBy counts bs now new o by q) some (takes now inv.hold) in
      let k = taken.coin in
      let coin = coin_same o now real (Some k) inv.txs inv.outs taken.is in
      let there = is_there real.outs (output_number o real.txs) k coin in
      let sums = spent_less real by k there in
      let value_is : value ≡ (get_or real.outs k no_out).value = taken.holds ∙ ap (λ (xs : List ListedOut). (get_or xs k no_out).value) inv.outs in
      let sum_was = inv.sum_is in
      let most_was = inv.fell in
      let real_more = length-append real.ins (k ∷ []) in
      let longer = length-append inv.coins (k ∷ []) in
      let many = inv.many in
      let ins = inv.real_ins in
      let any = any_there k real.outs there in
      let outs_long = ap (λ (xs : List ListedOut). length xs) inv.outs in
      let state = length_state (State.Spent by) k now.outs in
      record {
        now = spend_output by k now;
        real = spend_coin by k real;
        coins = inv.coins ++ k ∷ [];
        left_is = inv.left_is ∙ input_spent by at k os o real lt is coin;
        hold = taken.hold;
        fits = λ f. take_out_fits now by k (inv.fits f);
        txs = inv.txs;
        outs = ap (Rattle.el_tables.specs.Lists.with_state (State.Spent by) k) inv.outs;
        scripts = inv.scripts;
        entries = inv.entries;
        ins = ap (λ (xs : List ℕ). xs ++ k ∷ []) inv.ins ∙ append_assoc start.ins inv.coins (k ∷ []);
        many = omega arith;
        some = λ l. omega arith;
        touched = λ same. coin_touched by k inv.coins now real (inv.touched same);
        sum_is = omega arith;
        fell = omega arith;
        real_txs = inv.real_txs;
        real_outs = length_state (State.Spent by) k real.outs ∙ inv.real_outs;
        real_ins = omega arith;
      }

  pub takes_stop : (rows new : held.Tables) (left at index : ℕ) (o : Outpoint) (r : Option ℕ) → at < length os → o ≡ get_or os at o → r ≡ None
      → Takes rows left at → ((now : Lists) → Hold counts bs now rows → TakenBy counts bs now new o by r)
      → missing_at {A = Lists} index (spend_all by 0 os before) ≡ Err (refusal.MissingCoin index at)
  takes_stop rows new left at index o r lt is none inv takes =
      let missing = subst (λ (q : Option ℕ). TakenBy counts bs inv.now new o by q) none (takes inv.now inv.hold) in
      ap (missing_at {A = Lists} index) (inv.left_is ∙ input_missing by at os o inv.real lt is (coin_same o inv.now inv.real None inv.txs inv.outs missing))

  pub takes_fail : (rows : held.Tables) (left at : ℕ) (e : ConnectFault) → length start.ins + length os ≤ row_limit 5 → at < length os → Takes rows left at
      → ((now : Lists) → Hold counts bs now rows → length now.ins < row_limit 5 → (e ≡ refusal.DiskFailed) ⊎ (e ≡ refusal.Memory)) → (e ≡ refusal.DiskFailed) ⊎ (e ≡ refusal.Memory)
  takes_fail rows left at e few lt inv refused =
      let is = ap (λ (xs : List ℕ). length xs) inv.ins in
      let joined = length-append start.ins inv.coins in
      let many = inv.many in
      refused inv.now inv.hold (omega arith)

  pub takes_done : (rows : held.Tables) (left at : ℕ) → at ≤ length os → length os ≤ at → Takes rows left at
      → TakingOn counts bs by start before rows left most (length os) (λ real. spend_all by 0 os before ≡ Ok real)
  takes_done rows left at ge le inv =
      let same : at ≡ length os = omega arith in
      record {
        now = inv.now;
        real = inv.real;
        coins = inv.coins;
        left_is = inv.left_is ∙ inputs_end by at os inv.real le;
        hold = inv.hold;
        fits = inv.fits;
        txs = inv.txs;
        outs = inv.outs;
        scripts = inv.scripts;
        entries = inv.entries;
        ins = inv.ins;
        many = inv.many ∙ same;
        some = inv.some;
        touched = inv.touched;
        sum_is = inv.sum_is;
        fell = inv.fell;
        real_txs = inv.real_txs;
        real_outs = inv.real_outs;
        real_ins = inv.real_ins ∙ ap (λ n. length before.ins + n) same;
      }

-- 3. The table that is full

-- after fine coins only the tables count
pub full_next : (height index : ℕ) (p : PreparedTx) (l : Lists) (e : ConnectFault) (fine : FineCoins height p l) → full_by height fine.lists ≡ Some e → connect_next height index p l ≡ Err e
full_next height index p l e fine is =
    let fault : bounds_by height fine.lists ≡ Some e = ap (λ (r : Option ConnectFault). option_or r (full_by height fine.lists)) fine.money ∙ is in
    ap (λ (r : Result Lists ℕ). missing_at index r >>= (λ (x : Lists). ok_unless (bounds_by height x) x)) fine.led
    ∙ ap (λ (b : Option ConnectFault). ok_unless b fine.lists) fault

pub ins_refused : (counts : HeadCounts) (bs : List ListedBlock) (l : Lists) (rows : held.Tables) (e : ConnectFault) → Hold counts bs l rows → length l.ins < row_limit 5
    → (e ≡ refusal.DiskFailed) ⊎ NotAdded table.Ins (length (rows table.Ins)) e → (e ≡ refusal.DiskFailed) ⊎ (e ≡ refusal.Memory)
ins_refused counts bs l rows e hold few (inl disk) = inl disk
ins_refused counts bs l rows e hold few (inr why) = inr (not_added table.Ins (length (rows table.Ins)) e (let many = count_ins counts bs l rows hold in omega arith) why)

-- the first of the tables that are counted
pub full_blocks : (height : ℕ) (l : Lists) (e : ConnectFault) → row_limit 1 < height + 1 → e ≡ refusal.Full 1 (row_limit 1) → full_by height l ≡ Some e
full_blocks height l e lt is = let one = full_some 1 (height + 1) lt in rw one (ap Some (sym is))

pub full_txs : (height : ℕ) (l : Lists) (e : ConnectFault) → height + 1 ≤ row_limit 1 → row_limit 2 < length l.txs → e ≡ refusal.Full 2 (row_limit 2) → full_by height l ≡ Some e
full_txs height l e low lt is =
    let one = full_none 1 (height + 1) low in
    let two = full_some 2 (length l.txs) lt in
    rw (one, two) (ap Some (sym is))

pub full_outs : (height : ℕ) (l : Lists) (e : ConnectFault) → height + 1 ≤ row_limit 1 → length l.txs ≤ row_limit 2 → row_limit 4 < length l.outs → e ≡ refusal.Full 4 (row_limit 4) → full_by height l ≡ Some e
full_outs height l e low txs lt is =
    let one = full_none 1 (height + 1) low in
    let two = full_none 2 (length l.txs) txs in
    let four = full_some 4 (length l.outs) lt in
    rw (one, two, four) (ap Some (sym is))

pub full_ins : (height : ℕ) (l : Lists) (e : ConnectFault) → height + 1 ≤ row_limit 1 → length l.txs ≤ row_limit 2 → length l.outs ≤ row_limit 4 → row_limit 5 < length l.ins → e ≡ refusal.Full 5 (row_limit 5)
    → full_by height l ≡ Some e
full_ins height l e low txs outs lt is =
    let one = full_none 1 (height + 1) low in
    let two = full_none 2 (length l.txs) txs in
    let four = full_none 4 (length l.outs) outs in
    let five = full_some 5 (length l.ins) lt in
    rw (one, two, four, five) (ap Some (sym is))

pub full_scripts : (height : ℕ) (l : Lists) (e : ConnectFault) → height + 1 ≤ row_limit 1 → length l.txs ≤ row_limit 2 → length l.outs ≤ row_limit 4 → length l.ins ≤ row_limit 5 → row_limit 6 < length l.scripts
    → e ≡ refusal.Full 6 (row_limit 6) → full_by height l ≡ Some e
full_scripts height l e low txs outs ins lt is =
    let one = full_none 1 (height + 1) low in
    let two = full_none 2 (length l.txs) txs in
    let four = full_none 4 (length l.outs) outs in
    let five = full_none 5 (length l.ins) ins in
    let six = full_some 6 (length l.scripts) lt in
    rw (one, two, four, five, six) (ap Some (sym is))

-- 4. A transaction

same_lists : (x y : Lists) (r : Result Lists ℕ) → r ≡ Ok x → r ≡ Ok y → x ≡ y
same_lists x y r a b = cc

module _ (counts : HeadCounts) (bs : List ListedBlock) (start l : Lists) (height index : ℕ) (p : PreparedTx) (rows : held.Tables) (left sum by : ℕ) (is : List Outpoint) (count : by ≡ length l.txs) (same : is ≡ p.inputs) (between : IsBetweenTxs l)
    (taken : TakingOn counts bs by start l rows left sum (length is) (λ real. spend_all by 0 is l ≡ Ok real)) where
  abbrev t : ListedTx
  t = listed_after height p l

  abbrev after : Lists
  after = made_by t p.outputs taken.real

  -- what the look-ups of coins tell of lists with the transaction
  abbrev Looked : (Lists → Type 0) → Type 0
  Looked P = (next : Lists) → OutsInTurn 0 taken.now.txs (length taken.now.outs) → IsNextTx taken.now next by p.txid → left ≡ unspent_sum taken.now.outs → P (fund_all by 0 p.outputs next)

  spends : spend_all (length l.txs) 0 p.inputs l ≡ Ok taken.real
  spends =
      ap (λ (k : ℕ). spend_all k 0 p.inputs l) (sym count) ∙ ap (λ (xs : List Outpoint). spend_all by 0 xs l) (sym same) ∙ taken.left_is

  leads : connect_tx height p l ≡ Ok after
  leads = tx_leads height p l taken.real spends taken.real_txs

  real_count : by ≡ length taken.real.txs
  real_count = count ∙ sym (ap (λ (ts : List ListedTx). length ts) taken.real_txs)

  turn : OutsInTurn 0 taken.now.txs (length taken.now.outs)
  turn =
      let outs = ap (λ (xs : List ListedOut). length xs) taken.outs ∙ taken.real_outs in
      subst (λ (n : ℕ). OutsInTurn 0 taken.now.txs n) (sym outs)
      (subst (λ (ts : List ListedTx). OutsInTurn 0 ts (length l.outs)) (sym (taken.txs ∙ taken.real_txs)) between.outs)

  is_next : IsNextTx taken.now (add_tx t taken.real) by p.txid
  is_next =
      let u = listed_after height p l in
      record {
        number_is = real_count ∙ sym (ap (λ (ts : List ListedTx). length ts) taken.txs);
        front = ap (λ (k : ℕ). take k (add_tx u taken.real).txs) real_count ∙ before_last taken.real.txs u ∙ sym taken.txs;
        id = ap (λ (k : ℕ). txid_at k (add_tx u taken.real).txs) real_count ∙ last_txid taken.real.txs u;
        outs = sym taken.outs;
      }

  looked : (P : Lists → Type 0) → Looked P → P after
  looked P tells =
      subst (λ (k : ℕ). P (fund_all k 0 p.outputs (add_tx t taken.real))) real_count
      (tells (add_tx t taken.real) turn is_next (taken.sum_is ∙ ap unspent_sum (sym taken.outs)))

  money_none : Looked (λ x. money_fault (unspent_sum x.outs) ≡ None) → money_fault (unspent_sum after.outs) ≡ None
  money_none tells = looked (λ x. money_fault (unspent_sum x.outs) ≡ None) tells

  pub coins_fine : Looked (λ x. money_fault (unspent_sum x.outs) ≡ None) → FineCoins height p l
  coins_fine tells =
      let u = listed_after height p l in
      let txs = ap (λ (ts : List ListedTx). length ts) (made_txs u p.outputs taken.real) in
      let one = length-append taken.real.txs (u ∷ []) in
      let before = ap (λ (ts : List ListedTx). length ts) taken.real_txs in
      let outs = made_outs u p.outputs taken.real in
      let real_outs = taken.real_outs in
      let ins = ap length (made_ins u p.outputs taken.real) in
      let real_ins = taken.real_ins in
      let many = ap (λ (xs : List Outpoint). length xs) same in
      record { lists = made_by u p.outputs taken.real; led = leads; money = money_none tells; txs = omega arith; outs = omega arith; ins = omega arith }

  bounded : (e : ConnectFault) → bounds_by height after ≡ Some e → connect_next height index p l ≡ Err e
  bounded e fault =
      ap (λ (r : Result Lists ℕ). missing_at index r >>= (λ (x : Lists). ok_unless (bounds_by height x) x)) leads
      ∙ ap (λ (b : Option ConnectFault). ok_unless b after) fault

  pub coins_wrong : (e : ConnectFault) → Looked (λ x. (e ≡ refusal.DiskFailed) ⊎ (money_fault (unspent_sum x.outs) ≡ Some e))
      → (e ≡ refusal.DiskFailed) ⊎ ((e ≡ refusal.Memory) ⊎ (connect_next height index p l ≡ Err e))
  coins_wrong e tells = told (looked (λ x. (e ≡ refusal.DiskFailed) ⊎ (money_fault (unspent_sum x.outs) ≡ Some e)) tells)
    where
      told : (e ≡ refusal.DiskFailed) ⊎ (money_fault (unspent_sum after.outs) ≡ Some e) → (e ≡ refusal.DiskFailed) ⊎ ((e ≡ refusal.Memory) ⊎ (connect_next height index p l ≡ Err e))
      told (inl disk) = inl disk
      told (inr much) = inr (inr (bounded e (ap (λ (r : Option ConnectFault). option_or r (full_by height after)) much)))

  -- where no input was forgotten: the coins' script hashes are there already
  module _ (whole : start ≡ l) (before : held.Tables) (reached : Reached counts bs l before sum) where
    fits_now : Fits taken.now
    fits_now = taken.fits (subst Fits (sym whole) reached.fits)

    pub made_scripts : (os : List (ℕ × Hash32)) → os ≡ p.outputs → after.scripts ≡ add_scripts taken.now.scripts (output_scripts os)
    made_scripts os at =
        let there = ap (λ (x : Lists). x.scripts) (taken.touched whole) ∙ touch_scripts by taken.coins taken.now fits_now.within taken.some in
        fund_scripts (length taken.real.txs) 0 p.outputs (add_tx t taken.real)
        ∙ ap (λ (xs : List Hash32). add_scripts xs (output_scripts p.outputs)) there ∙ ap (λ (xs : List (ℕ × Hash32)). add_scripts taken.now.scripts (output_scripts xs)) (sym at)

    pub scripts_wrong : (e : ConnectFault) (os : List (ℕ × Hash32)) → os ≡ p.outputs → FitsTables height p l → Looked (λ x. money_fault (unspent_sum x.outs) ≡ None)
        → (e ≡ refusal.DiskFailed) ⊎ ((e ≡ refusal.Full 6 (row_limit 6)) × (row_limit 6 < length (add_scripts taken.now.scripts (output_scripts os))))
        → (e ≡ refusal.DiskFailed) ⊎ ((e ≡ refusal.Memory) ⊎ (connect_next height index p l ≡ Err e))
    scripts_wrong e os at counted tells (inl disk) = inl disk
    scripts_wrong e os at counted tells (inr full) =
        let fine = coins_fine tells in
        let scripts = ap (λ (xs : List Hash32). length xs) (made_scripts os at) in
        let lists = ap (λ (x : Lists). length x.scripts) (same_lists after fine.lists (connect_tx height p l) leads fine.led) in
        let over = full.1 in
        let low = counted.block in
        let a = counted.txs in
        let b = counted.outs in
        let c = counted.ins in
        let txs = fine.txs in
        let outs = fine.outs in
        let ins = fine.ins in
        inr (inr (full_next height index p l e fine (full_scripts height fine.lists e (omega arith) (omega arith) (omega arith) (omega arith) (omega arith) full.0)))

    pub coins_ready : (os : List (ℕ × Hash32)) → os ≡ p.outputs → sum ≤ max_money → Looked (λ x. money_fault (unspent_sum x.outs) ≡ None)
        → length (add_scripts taken.now.scripts (output_scripts os)) ≤ row_limit 6 → ReadyCoins counts bs rows left height p l
    coins_ready os at most tells few =
        let fell = taken.fell in
        let scripts = ap (λ (xs : List Hash32). length xs) (made_scripts os at) in
        record {
          now = taken.now;
          real = taken.real;
          coins = taken.coins;
          led = spends;
          touched = taken.touched whole ∙ ap (λ (n : ℕ). touch_coins n taken.coins taken.now) count;
          reached = record {
            hold = taken.hold;
            fits = fits_now;
            tx_heads = reached.tx_heads;
            script_heads = reached.script_heads;
            sum_is = taken.sum_is ∙ ap unspent_sum (sym taken.outs);
          };
          txs = taken.txs ∙ taken.real_txs;
          outs = ap (λ (xs : List ListedOut). length xs) taken.outs ∙ taken.real_outs;
          scripts = taken.scripts ∙ ap (λ (x : Lists). x.scripts) whole;
          entries = taken.entries ∙ ap (λ (x : Lists). x.entries) whole;
          ins = taken.ins ∙ ap (λ (x : Lists). x.ins ++ taken.coins) whole;
          many = taken.many ∙ ap (λ (xs : List Outpoint). length xs) same;
          low = omega arith;
          money = money_fits (unspent_sum (made_by (listed_after height p l) p.outputs taken.real).outs) (money_none tells);
          few = omega arith;
        }
