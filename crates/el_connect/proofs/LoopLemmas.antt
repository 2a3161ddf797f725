-- How the loops over inputs and outputs go on.
use Rattle.std.proofs.Common.{◌≡◌, ◌⊎◌, inl, inr, ℕ, ◌+◌, ◌-◌, ◌<◌, ◌≤◌, ◌^◌, List, [], length, drop, get_or, ap, sym, subst, ◌∙◌, arith}
use Rattle.std.proofs.lemmas.List.{get_or_default}
use Rattle.el_base.specs.declared.hash.Hash32.{Hash32}
use Rattle.el_tx.specs.declared.types.Outpoint.{Outpoint}
use Rattle.el_chain.specs.declared.fault.ConnectFault.{ConnectFault}
use Rattle.el_chain.specs.declared.fault.ConnectFault.TheVariants as refusal
use Rattle.el_chain.specs.RowCounts.{row_limit}
use Rattle.el_tables.specs.ChainLists.{ListedBlock}
use Rattle.el_tables.specs.Connecting.{fund, fund_all, script_of_output}
use Rattle.el_tables.specs.Lists.{Lists, ListedTx, add_entry, unspent_sum}
use Rattle.el_tables.specs.Tables.{HeadCounts}
use Rattle.el_row_formats.specs.Tables as held
use Rattle.el_connect.specs.declared.outputs.Maker.{Maker}
use Rattle.el_connect.specs.within.Parts.{Reached, HasRoomFor, IsMaker, FundingOn, TouchingOn, Overflows, touch_coins, values}
use Rattle.el_connect.proofs.StepLemmas.{output_funded, outputs_end, values_left, funded_at_most}
use Rattle.el_connect.proofs.TouchLemmas.{coin_here, coins_left, coins_end, touch_more, fund_more, refused_later}

-- a failure of the device or of memory, in place of more
pub fails : {X : Type 0} (e : ConnectFault) → (e ≡ refusal.DiskFailed) ⊎ (e ≡ refusal.Memory) → (e ≡ refusal.DiskFailed) ⊎ ((e ≡ refusal.Memory) ⊎ X)
fails e (inl disk) = inl disk
fails e (inr memory) = inr (inl memory)

-- what stands for outpoints and outputs after the last
abbrev pub no_outpoint : Outpoint
no_outpoint = record { txid = record { 0 = [] }; index = 0 }

abbrev pub no_output : ℕ × Hash32
no_output = (0, record { 0 = [] })

-- 1. The script hashes of inputs

module _ (counts : HeadCounts) (bs : List ListedBlock) (l : Lists) (by n first sum : ℕ) (ks : List ℕ) (coins : drop first l.ins ≡ ks) where
  abbrev pub Touches : held.Tables → ℕ → Type 0
  Touches rows at = TouchingOn counts bs rows sum l n (λ now. touch_coins by ks l ≡ touch_coins by (drop at ks) now)

  -- the lists after the next
  abbrev after : ℕ → Lists → Lists
  after at now = add_entry (script_of_output (get_or now.ins (first + at) 0) now) by now

  step : (rows : held.Tables) (at : ℕ) → at < length ks → (inv : Touches rows at) → touch_coins by ks l ≡ touch_coins by (drop (at + 1) ks) (after at inv.lists)
  step rows at lt inv =
      let now = inv.lists in
      let is : get_or now.ins (first + at) 0 ≡ get_or ks at 0 = ap (λ (xs : List ℕ). get_or xs (first + at) 0) inv.ins ∙ coin_here first at l.ins ks coins in
      let k = get_or now.ins (first + at) 0 in
      inv.left ∙ coins_left by at k ks now lt (is ∙ get_or_default ks at 0 k lt)

  pub touches_more : (rows new : held.Tables) (at : ℕ) → at < length ks → Touches rows at → ((now : Lists) → Reached counts bs now rows sum → Reached counts bs (after at now) new sum)
      → ((now : Lists) → Reached counts bs now rows sum → HasRoomFor now 0 n → HasRoomFor (after at now) 0 n) → Touches new (at + 1)
  touches_more rows new at lt inv touched room =
      let now = inv.lists in
      record {
        lists = after at now;
        left = step rows at lt inv;
        reached = touched now inv.reached;
        room = room now inv.reached inv.room;
        txs = inv.txs;
        outs = inv.outs;
        ins = inv.ins;
      }

  pub touches_fail : (rows : held.Tables) (at : ℕ) (e : ConnectFault) → at < length ks → Touches rows at → length (touch_coins by ks l).scripts ≤ row_limit 6
      → ((now : Lists) → Reached counts bs now rows sum → length (after at now).scripts ≤ row_limit 6 → (e ≡ refusal.DiskFailed) ⊎ ((e ≡ refusal.Memory) ⊎ Overflows (after at now) e))
      → (e ≡ refusal.DiskFailed) ⊎ ((e ≡ refusal.Memory) ⊎ Overflows (touch_coins by ks l) e)
  touches_fail rows at e lt inv few refused =
      let now = inv.lists in
      let grown = touch_more by (drop (at + 1) ks) (after at now) in
      let a = grown.0 in
      let b = grown.1 in
      let is = step rows at lt inv in
      let scripts = ap (λ (x : Lists). length x.scripts) is in
      let entries = ap (λ (x : Lists). length x.entries) is in
      refused_later (after at now) (touch_coins by ks l) e (omega arith) (λ o. o) (refused now inv.reached (omega arith))

  pub touches_done : (rows : held.Tables) (at : ℕ) → length ks ≤ at → Touches rows at → TouchingOn counts bs rows sum l n (λ now. touch_coins by ks l ≡ now)
  touches_done rows at le inv = record {
    lists = inv.lists;
    left = inv.left ∙ coins_end by at ks inv.lists le;
    reached = inv.reached;
    room = inv.room;
    txs = inv.txs;
    outs = inv.outs;
    ins = inv.ins;
  }

-- 2. Outputs

-- the maker is the same in lists with the same transactions
pub same_maker : (m : Maker) (l now : Lists) → now.txs ≡ l.txs → IsMaker m l → IsMaker m now
same_maker m l now same is =
    record {
      txid = ap (λ (ts : List ListedTx). Rattle.el_tables.specs.Lists.txid_at m.number ts) same ∙ is.txid;
      older = is.older ∙ ap (λ (ts : List ListedTx). Rattle.el_tables.specs.Lists.newest_tx m.txid (Rattle.std.proofs.Common.take m.number ts)) (sym same);
    }

module _ (counts : HeadCounts) (bs : List ListedBlock) (before : Lists) (m : Maker) (os : List (ℕ × Hash32)) where
  abbrev pub Outputs : held.Tables → ℕ → ℕ → Type 0
  Outputs rows after at =
      FundingOn counts bs rows after before.txs (length os - at) (values (drop at os)) (λ now. fund_all m.number 0 os before ≡ fund_all m.number at (drop at os) now)

  pub outputs_more : (rows new : held.Tables) (after more at : ℕ) (o : ℕ × Hash32) → at < length os → o ≡ get_or os at o → IsMaker m before → Outputs rows after at
      → ((now : Lists) → Reached counts bs now rows after → IsMaker m now → unspent_sum now.outs + o.0 < 2 ^ 64 → Reached counts bs (fund m.number at o now) new more)
      → ((now : Lists) (j : ℕ) → Reached counts bs now rows after → HasRoomFor now 0 (j + 1) → HasRoomFor (fund m.number at o now) 0 j)
      → Outputs new more (at + 1)
  outputs_more rows new after more at o lt is maker inv funds rooms =
      let now = inv.lists in
      let left = values_left at os o lt is in
      let fit = inv.fit in
      let most = funded_at_most (Rattle.el_tables.specs.Lists.add_entry o.1 m.number now) m.number at o.0
      (Rattle.el_tables.specs.Lists.script_number o.1 (Rattle.el_tables.specs.Lists.add_entry o.1 m.number now).scripts) in
      let k : length os - at ≡ length os - (at + 1) + 1 = omega arith in
      record {
        lists = fund m.number at o now;
        left = inv.left ∙ output_funded m.number at os o now lt is;
        reached = funds now inv.reached (same_maker m before now inv.same maker) (omega arith);
        room = rooms now (length os - (at + 1)) inv.reached (subst (λ (j : ℕ). HasRoomFor now 0 j) k inv.room);
        same = inv.same;
        fit = omega arith;
      }

  pub outputs_fail : (rows : held.Tables) (after at : ℕ) (o : ℕ × Hash32) (e : ConnectFault) → at < length os → o ≡ get_or os at o → Outputs rows after at
      → length (fund_all m.number 0 os before).scripts ≤ row_limit 6
      → ((now : Lists) (k : ℕ) → Reached counts bs now rows after → HasRoomFor now 0 (k + 1) → length (fund m.number at o now).scripts ≤ row_limit 6
      → (e ≡ refusal.DiskFailed) ⊎ ((e ≡ refusal.Memory) ⊎ Overflows (fund m.number at o now) e))
      → (e ≡ refusal.DiskFailed) ⊎ ((e ≡ refusal.Memory) ⊎ Overflows (fund_all m.number 0 os before) e)
  outputs_fail rows after at o e lt is inv few refused =
      let now = inv.lists in
      let k : length os - at ≡ length os - (at + 1) + 1 = omega arith in
      let step = inv.left ∙ output_funded m.number at os o now lt is in
      let grown = fund_more m.number (at + 1) (drop (at + 1) os) (fund m.number at o now) in
      let a = grown.0 in
      let b = grown.1 in
      let scripts = ap (λ (x : Lists). length x.scripts) step in
      let entries = ap (λ (x : Lists). length x.entries) step in
      refused_later (fund m.number at o now) (fund_all m.number 0 os before) e (omega arith) (λ o. o)
      (refused now (length os - (at + 1)) inv.reached (subst (λ (j : ℕ). HasRoomFor now 0 j) k inv.room) (omega arith))

  pub outputs_done : (rows : held.Tables) (after at : ℕ) → length os ≤ at → Outputs rows after at → Reached counts bs (fund_all m.number 0 os before) rows after
  outputs_done rows after at le inv =
      subst (λ (l : Lists). Reached counts bs l rows after) (sym (inv.left ∙ outputs_end m.number at os inv.lists le)) inv.reached

  pub outputs_room : (rows : held.Tables) (after at : ℕ) → length os ≤ at → Outputs rows after at → HasRoomFor (fund_all m.number 0 os before) 0 0
  outputs_room rows after at le inv =
      let none : length os - at ≡ 0 = omega arith in
      subst (λ (l : Lists). HasRoomFor l 0 0) (sym (inv.left ∙ outputs_end m.number at os inv.lists le)) (subst (λ (j : ℕ). HasRoomFor inv.lists 0 j) none inv.room)
