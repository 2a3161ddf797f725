-- A transaction in rows, and transactions one after the other.
use Rattle.std.proofs.Common.{◌≡◌, ◌⊎◌, inl, inr, ℕ, ◌+◌, ◌<◌, ◌≤◌, ◌^◌, List, [], ◌∷◌, length, take, drop, get_or, Option, Result, Ok, Err, IfErr, IfOk, OnOk, refl, ap, sym, subst, ◌∙◌, arith, length-append}
use Rattle.std.proofs.Math.Seq.{drop-append_seam}
use Rattle.std.proofs.lemmas.List.{drop_all}
use Rattle.std.specs.List.{AllByRecursion}
use Rattle.std.specs.Option.{option_or}
use Rattle.el_base.specs.declared.hash.Hash32.{Hash32}
use Rattle.el_base.proofs.Lists.{left_at}
use Rattle.el_tx.specs.declared.types.Outpoint.{Outpoint}
use Rattle.el_tx.specs.Encoding.{max_money}
use Rattle.el_chain.specs.Faults.{full}
use Rattle.el_chain.specs.declared.fault.ConnectFault.{ConnectFault}
use Rattle.el_chain.specs.declared.fault.ConnectFault.TheVariants as refusal
use Rattle.el_chain.specs.RowCounts.{row_limit}
use Rattle.el_prepare.specs.declared.prepared.PreparedTx.{PreparedTx}
use Rattle.el_tables.specs.ChainLists.{ListedBlock}
use Rattle.el_tables.specs.Connecting.{◌>>=◌, spend_all, fund_all, listed_after, connect_tx, missing_at, ok_unless, bounds_by, full_by}
use Rattle.el_tables.specs.Lists.{Lists, ListedTx, ListedOut, ListedEntry, add_tx, unspent_sum, txid_at, newest_tx}
use Rattle.el_tables.specs.Tables.{HeadCounts}
use Rattle.el_tables.proofs.FitLemmas.{tx_fits}
use Rattle.el_row_formats.specs.Tables as held
use Rattle.el_schema.specs.Rows.{Hold}
use Rattle.el_connect.specs.declared.outputs.Maker.{Maker}
use Rattle.el_connect.specs.within.Full.{ReadyCoins}
use Rattle.el_connect.specs.within.Parts.{Reached, HasRoomFor, IsBetweenTxs, IsMaker, IsSmall, FitsTables, LedTo, LeadingOn, Overflows, TouchingOn, connect_next, connect_all, made_by, touch_coins, values}
use Rattle.el_connect.proofs.StepLemmas.{last_txid}
use Rattle.el_connect.proofs.TouchLemmas.{full_last, full_none, full_some, fund_more, refused_later, touch_txs, touch_outs, touch_ins}
use Rattle.el_connect.proofs.MadeLemmas.{between_next, made_txs, made_outs, made_ins, money_none, tx_leads}

-- 1. A transaction is listed

-- what then is known before its outputs are added
pub record Listed (counts : HeadCounts) (bs : List ListedBlock) (l : Lists) (rows : held.Tables) (left : ℕ) (m : Maker) (os : List (ℕ × Hash32)) : Type 0 where
  pub reached : Reached counts bs l rows left
  pub maker : IsMaker m l
  pub room : HasRoomFor l 0 (length os)
  pub fit : unspent_sum l.outs + values os < 2 ^ 64

pub tx_listed : (counts : HeadCounts) (bs : List ListedBlock) (l : Lists) (t : ListedTx) (before added new : held.Tables) (left number : ℕ) (older : Option ℕ) (os : List (ℕ × Hash32))
    → Reached counts bs l before left → HasRoomFor l 0 (length os) → unspent_sum l.outs + values os < 2 ^ 64
    → Hold counts bs (add_tx t l) added → number ≡ length l.txs → new ≡ added
    → ((x : Lists) → Hold counts bs x added → older ≡ newest_tx (txid_at number x.txs) (take number x.txs))
    → Listed counts bs (add_tx t l) new left (record { number = number; txid = t.txid; older = older }) os
tx_listed counts bs l t before added new left number older os reached room fit hold numbered same finds =
    let with_tx = add_tx t l in
    let sum_was = reached.sum_is in
    let id : txid_at number with_tx.txs ≡ t.txid = ap (λ (n : ℕ). txid_at n with_tx.txs) numbered ∙ last_txid l.txs t in
    record {
      reached = record {
        hold = subst (λ (T : held.Tables). Hold counts bs with_tx T) (sym same) hold;
        fits = tx_fits l t reached.fits;
        tx_heads = reached.tx_heads;
        script_heads = reached.script_heads;
        sum_is = sum_was;
      };
      maker = record { txid = id; older = finds with_tx hold ∙ ap (λ (h : Hash32). newest_tx h (take number with_tx.txs)) id };
      room = record { ins = room.ins; outs = room.outs; scripts = room.scripts; entries = room.entries };
      fit = fit;
    }

pub made_at : (l : Lists) (t : ListedTx) (os : List (ℕ × Hash32)) (number : ℕ) → number ≡ length l.txs → fund_all number 0 os (add_tx t l) ≡ made_by t os l
made_at l t os number is = ap (λ (k : ℕ). fund_all k 0 os (add_tx t l)) is

-- an input without a coin is the transaction's fault
pub tx_missing : (index height by : ℕ) (p : PreparedTx) (l : Lists) (e : ConnectFault) → by ≡ length l.txs → missing_at {A = Lists} index (spend_all by 0 p.inputs l) ≡ Err e
    → missing_at {A = Lists} index (connect_tx height p l) ≡ Err e
tx_missing index height by p l e count is =
    go (spend_all (length l.txs) 0 p.inputs l) (subst (λ (k : ℕ). missing_at {A = Lists} index (spend_all k 0 p.inputs l) ≡ Err e) count is)
  where
    go : (r : Result Lists ℕ) → missing_at {A = Lists} index r ≡ Err e
        → missing_at {A = Lists} index (r >>= (λ (x : Lists). Ok (fund_all (length l.txs) 0 p.outputs (add_tx (listed_after height p l) x)))) ≡ Err e
    go (Err i) h = h
    go (Ok x) h = absurd (wrong h)
      where
        wrong : Ok x ≡ Err e → ⊥
        wrong f = cc

pub missing_refused : (index height by : ℕ) (p : PreparedTx) (l : Lists) (is : List Outpoint) (e : ConnectFault) → by ≡ length l.txs → is ≡ p.inputs
    → (e ≡ refusal.DiskFailed) ⊎ ((e ≡ refusal.Memory) ⊎ (missing_at {A = Lists} index (spend_all by 0 is l) ≡ Err e))
    → (e ≡ refusal.DiskFailed) ⊎ ((e ≡ refusal.Memory) ⊎ (missing_at {A = Lists} index (connect_tx height p l) ≡ Err e))
missing_refused index height by p l is e count same (inl disk) = inl disk
missing_refused index height by p l is e count same (inr (inl memory)) = inr (inl memory)
missing_refused index height by p l is e count same (inr (inr missing)) =
    inr (inr (tx_missing index height by p l e count (subst (λ (xs : List Outpoint). missing_at {A = Lists} index (spend_all by 0 xs l) ≡ Err e) same missing)))

pub counted_of : (height : ℕ) (p : PreparedTx) (l : Lists) → height < row_limit 1 → length l.txs < row_limit 2 → length l.outs + length p.outputs ≤ row_limit 4 → length l.ins + length p.inputs ≤ row_limit 5
    → FitsTables height p l
counted_of height p l a b c d = record { block = a; txs = b; outs = c; ins = d }

-- what an outcome tells, told on
pub ok_joined : {P Q : ℕ → Type 0} {A : Type 0} (r : Result ℕ ConnectFault) → IfOk r P → OnOk r A → ((n : ℕ) → P n → A → Q n) → IfOk r Q
ok_joined (Ok n) p a f = f n p a
ok_joined (Err e) p a f = tt

pub err_mapped : {P Q : ConnectFault → Type 0} (r : Result ℕ ConnectFault) → IfErr r P → ((e : ConnectFault) → P e → Q e) → IfErr r Q
err_mapped (Ok n) p f = tt
err_mapped (Err e) p f = f e p

-- 2. With its bounds

module _ (counts : HeadCounts) (bs : List ListedBlock) (l : Lists) (height index : ℕ) (p : PreparedTx) (ready_rows : held.Tables) (left : ℕ) (counted : FitsTables height p l) (between : IsBetweenTxs l)
    (ready : ReadyCoins counts bs ready_rows left height p l) where
  abbrev t : ListedTx
  t = listed_after height p l

  abbrev end : Lists
  end = made_by t p.outputs ready.real

  real_txs : ready.real.txs ≡ l.txs
  real_txs = ap (λ (x : Lists). x.txs) ready.touched ∙ touch_txs (length l.txs) ready.coins ready.now ∙ ready.txs

  real_outs : ready.real.outs ≡ ready.now.outs
  real_outs = ap (λ (x : Lists). x.outs) ready.touched ∙ touch_outs (length l.txs) ready.coins ready.now

  real_ins : ready.real.ins ≡ ready.now.ins
  real_ins = ap (λ (x : Lists). x.ins) ready.touched ∙ touch_ins (length l.txs) ready.coins ready.now

  leads : connect_tx height p l ≡ Ok end
  leads = tx_leads height p l ready.real ready.led real_txs

  -- there is room for what comes
  pub room_ready : HasRoomFor ready.now 0 (length p.outputs)
  room_ready =
      let ins = ap (λ (xs : List ℕ). length xs) ready.ins in
      let joined = length-append l.ins ready.coins in
      let many = ready.many in
      let outs = ready.outs in
      let a = counted.ins in
      let b = counted.outs in
      let c = between.scripts in
      let d = between.entries in
      let e = ap (λ (xs : List Hash32). length xs) ready.scripts in
      let f = ap (λ (xs : List ListedEntry). length xs) ready.entries in
      record { ins = omega arith; outs = omega arith; scripts = omega arith; entries = omega arith }

  pub coins_at : (first : ℕ) → first ≡ length l.ins → drop first ready.now.ins ≡ ready.coins
  coins_at first is =
      ap (λ (n : ℕ). drop n ready.now.ins) is ∙ ap (drop (length l.ins)) ready.ins ∙ drop-append_seam l.ins ready.coins

  end_txs : length end.txs ≡ length l.txs + 1
  end_txs =
      let made = ap (λ (ts : List ListedTx). length ts) (made_txs t p.outputs ready.real) in
      let one = length-append ready.real.txs (t ∷ []) in
      let same = ap (λ (ts : List ListedTx). length ts) real_txs in
      omega arith

  end_outs : length end.outs ≤ row_limit 4
  end_outs =
      let made = made_outs t p.outputs ready.real in
      let same = ap (λ (xs : List ListedOut). length xs) real_outs in
      let outs = ready.outs in
      let b = counted.outs in
      omega arith

  end_ins : length end.ins ≤ row_limit 5
  end_ins =
      let made = ap (λ (xs : List ℕ). length xs) (made_ins t p.outputs ready.real) in
      let same = ap (λ (xs : List ℕ). length xs) real_ins in
      let ins = ap (λ (xs : List ℕ). length xs) ready.ins in
      let joined = length-append l.ins ready.coins in
      let many = ready.many in
      let a = counted.ins in
      omega arith

  full_end : full_by height end ≡ full 8 (length end.entries)
  full_end =
      let txs = end_txs in
      let few = counted.txs in
      let low = counted.block in
      full_last height end (omega arith) (omega arith) end_outs end_ins ready.few

  next_end : connect_next height index p l ≡ ok_unless (full 8 (length end.entries)) end
  next_end =
      let fine = money_none (unspent_sum end.outs) ready.money in
      let bounds : bounds_by height end ≡ full 8 (length end.entries) = ap (λ (r : Option ConnectFault). option_or r (full_by height end)) fine ∙ full_end in
      ap (λ (r : Result Lists ℕ). missing_at index r >>= (λ (m : Lists). ok_unless (bounds_by height m) m)) leads
      ∙ ap (λ (b : Option ConnectFault). ok_unless b end) bounds

  -- the table of entries is full
  overflowed : (e : ConnectFault) → Overflows end e → connect_next height index p l ≡ Err e
  overflowed e over =
      next_end ∙ ap (λ (b : Option ConnectFault). ok_unless b end) (full_some 8 (length end.entries) over.1) ∙ ap (λ (f : ConnectFault). Err f) (sym over.0)

  -- after the script hashes of its coins have their entries
  module _ (by : ℕ) (row : ListedTx) (os : List (ℕ × Hash32)) (rows : held.Tables) (is : by ≡ length l.txs) (row_is : row ≡ listed_after height p l) (os_are : os ≡ p.outputs)
      (touching : TouchingOn counts bs rows left ready.now (length p.outputs) (λ now. touch_coins by ready.coins ready.now ≡ now)) where
    real_is : touching.lists ≡ ready.real
    real_is = sym touching.left ∙ ap (λ (n : ℕ). touch_coins n ready.coins ready.now) is ∙ sym ready.touched

    end_is : made_by row os touching.lists ≡ end
    end_is =
        ap (λ (u : ListedTx). made_by u os touching.lists) row_is ∙ ap (λ (xs : List (ℕ × Hash32)). made_by (listed_after height p l) xs touching.lists) os_are
        ∙ ap (made_by (listed_after height p l) p.outputs) real_is

    pub fit_ready : IsSmall p → unspent_sum touching.lists.outs + values os < 2 ^ 64
    fit_ready small =
        let was = touching.reached.sum_is in
        let low = ready.low in
        let money = small.money in
        let same = ap values os_are in
        omega arith

    pub room_touching : HasRoomFor touching.lists 0 (length os)
    room_touching = subst (λ (xs : List (ℕ × Hash32)). HasRoomFor touching.lists 0 (length xs)) (sym os_are) touching.room

    pub few_txs : length touching.lists.txs < row_limit 2
    few_txs =
        let same = ap (λ (ts : List ListedTx). length ts) (touching.txs ∙ ready.txs) in
        let few = counted.txs in
        omega arith

    pub few_scripts : length (made_by row os touching.lists).scripts ≤ row_limit 6
    few_scripts = subst (λ (x : Lists). length x.scripts ≤ row_limit 6) (sym end_is) ready.few

    pub tx_led : (new : held.Tables) (after : ℕ) → Reached counts bs (made_by row os touching.lists) new after → HasRoomFor (made_by row os touching.lists) 0 0
        → LedTo counts bs new after (connect_next height index p l) × (after ≤ max_money)
    tx_led new after reached room =
        let few = subst (λ (x : Lists). length x.entries ≤ row_limit 8) end_is room.entries in
        let none = full_none 8 (length end.entries) few in
        let there = subst (λ (x : Lists). Reached counts bs x new after) end_is reached in
        let sum = there.sum_is in
        let money = ready.money in
        (record { lists = end; led = next_end ∙ ap (λ (b : Option ConnectFault). ok_unless b end) none; reached = there }, omega arith)

    pub outputs_refused : (e : ConnectFault) → (e ≡ refusal.DiskFailed) ⊎ ((e ≡ refusal.Memory) ⊎ Overflows (made_by row os touching.lists) e)
        → (e ≡ refusal.DiskFailed) ⊎ ((e ≡ refusal.Memory) ⊎ (connect_next height index p l ≡ Err e))
    outputs_refused e why = refused_later (made_by row os touching.lists) end e (let n = ap (λ (x : Lists). length x.entries) end_is in omega arith) (overflowed e) why

  pub inputs_refused : (by : ℕ) (e : ConnectFault) → by ≡ length l.txs → (e ≡ refusal.DiskFailed) ⊎ ((e ≡ refusal.Memory) ⊎ Overflows (touch_coins by ready.coins ready.now) e)
      → (e ≡ refusal.DiskFailed) ⊎ ((e ≡ refusal.Memory) ⊎ (connect_next height index p l ≡ Err e))
  inputs_refused by e is why =
      let real = ap (λ (n : ℕ). touch_coins n ready.coins ready.now) is ∙ sym ready.touched in
      let same = ap (λ (x : Lists). length x.entries) real in
      let more = (fund_more (length ready.real.txs) 0 p.outputs (add_tx t ready.real)).1 in
      refused_later (touch_coins by ready.coins ready.now) end e (omega arith) (overflowed e) why

  -- its script hashes have room so far
  pub few_touched : (by : ℕ) → by ≡ length l.txs → length (touch_coins by ready.coins ready.now).scripts ≤ row_limit 6
  few_touched by is =
      let real = ap (λ (n : ℕ). touch_coins n ready.coins ready.now) is ∙ sym ready.touched in
      let same = ap (λ (x : Lists). length x.scripts) real in
      let more = (fund_more (length ready.real.txs) 0 p.outputs (add_tx t ready.real)).0 in
      let few = ready.few in
      omega arith

pub tx_refused : (height index : ℕ) (p : PreparedTx) (l : Lists) (e : ConnectFault)
    → (e ≡ refusal.DiskFailed) ⊎ ((e ≡ refusal.Memory) ⊎ (missing_at index (connect_tx height p l) ≡ Err e))
    → (e ≡ refusal.DiskFailed) ⊎ ((e ≡ refusal.Memory) ⊎ (connect_next height index p l ≡ Err e))
tx_refused height index p l e (inl disk) = inl disk
tx_refused height index p l e (inr (inl memory)) = inr (inl memory)
tx_refused height index p l e (inr (inr missing)) =
    inr (inr (ap (λ (r : Result Lists ConnectFault). r >>= (λ (m : Lists). ok_unless (bounds_by height m) m)) missing))

-- 3. One after the other

pub small_here : (ps : List PreparedTx) (at : ℕ) (p : PreparedTx) → at < length ps → p ≡ get_or ps at p → AllByRecursion IsSmall (drop at ps) → IsSmall p
small_here ps at p lt is all = let left = left_at ps at p lt is in let here = rw left at all in here.0

pub small_after : (ps : List PreparedTx) (at : ℕ) (p : PreparedTx) → at < length ps → p ≡ get_or ps at p → AllByRecursion IsSmall (drop at ps) → AllByRecursion IsSmall (drop (at + 1) ps)
small_after ps at p lt is all = let left = left_at ps at p lt is in let here = rw left at all in here.1

module _ (counts : HeadCounts) (bs : List ListedBlock) (before : Lists) (height : ℕ) (ps : List PreparedTx) where
  abbrev pub Txs : held.Tables → ℕ → ℕ → Type 0
  Txs rows sum at = LeadingOn counts bs rows sum (λ now. connect_all height 0 ps before ≡ connect_all height at (drop at ps) now)

  pub txs_more : (rows new : held.Tables) (sum after at : ℕ) (p : PreparedTx) → at < length ps → p ≡ get_or ps at p → Txs rows sum at
      → ((now : Lists) → Reached counts bs now rows sum → sum ≤ max_money → IsBetweenTxs now → LedTo counts bs new after (connect_next height at p now) × (after ≤ max_money))
      → Txs new after (at + 1)
  txs_more rows new sum after at p lt is inv leads =
      let now = inv.lists in
      let next = leads now inv.reached inv.within inv.between in
      let left = left_at ps at p lt is in
      let led = next.0.led in
      let step : connect_all height at (drop at ps) now ≡ connect_all height (at + 1) (drop (at + 1) ps) next.0.lists = rw (left, led) refl in
      record { lists = next.0.lists; left = inv.left ∙ step; reached = next.0.reached; between = between_next height at p now next.0.lists led inv.between; within = next.1 }

  pub txs_refused : (rows : held.Tables) (sum at : ℕ) (p : PreparedTx) (e : ConnectFault) → at < length ps → p ≡ get_or ps at p → Txs rows sum at
      → ((now : Lists) → Reached counts bs now rows sum → sum ≤ max_money → IsBetweenTxs now
      → (e ≡ refusal.DiskFailed) ⊎ ((e ≡ refusal.Memory) ⊎ (connect_next height at p now ≡ Err e)))
      → (e ≡ refusal.DiskFailed) ⊎ ((e ≡ refusal.Memory) ⊎ (connect_all height 0 ps before ≡ Err e))
  txs_refused rows sum at p e lt is inv refused = by (refused inv.lists inv.reached inv.within inv.between)
    where
      by : (e ≡ refusal.DiskFailed) ⊎ ((e ≡ refusal.Memory) ⊎ (connect_next height at p inv.lists ≡ Err e))
          → (e ≡ refusal.DiskFailed) ⊎ ((e ≡ refusal.Memory) ⊎ (connect_all height 0 ps before ≡ Err e))
      by (inl disk) = inl disk
      by (inr (inl memory)) = inr (inl memory)
      by (inr (inr fault)) =
          let left = left_at ps at p lt is in
          let step : connect_all height at (drop at ps) inv.lists ≡ Err e = rw (left, fault) refl in
          inr (inr (inv.left ∙ step))

  pub txs_done : (rows : held.Tables) (sum at : ℕ) → length ps ≤ at → Txs rows sum at → LedTo counts bs rows sum (connect_all height 0 ps before) × (sum ≤ max_money)
  txs_done rows sum at le inv =
      let none = drop_all at ps le in
      let end : connect_all height at (drop at ps) inv.lists ≡ Ok inv.lists = rw none refl in
      (record { lists = inv.lists; led = inv.left ∙ end; reached = inv.reached }, inv.within)
