-- The lists after a transaction.
use Rattle.std.proofs.Common.{◌≡◌, ℕ, ◌+◌, ◌≤◌, List, [], ◌∷◌, ◌++◌, length, Option, None, Some, Result, Ok, Err, refl, ap, sym, subst, ◌∙◌, arith, length-append}
use Rattle.std.proofs.lemmas.Bool.{le-ltb}
use Rattle.el_base.specs.declared.hash.Hash32.{Hash32}
use Rattle.el_tx.specs.declared.types.Outpoint.{Outpoint}
use Rattle.el_tx.specs.Encoding.{max_money}
use Rattle.el_chain.specs.Faults.{money_fault, full}
use Rattle.el_chain.proofs.GoodChains.{first_none, second_none}
use Rattle.el_chain.specs.declared.fault.ConnectFault.{ConnectFault}
use Rattle.el_prepare.specs.declared.prepared.PreparedTx.{PreparedTx}
use Rattle.el_tables.specs.Connecting.{◌>>=◌, spend_all, spend_coin, fund, fund_all, listed_after, connect_tx, missing_at, ok_unless, bounds_by, full_by}
use Rattle.el_tables.specs.Lists.{State, Lists, ListedTx, ListedOut, add_entry, add_tx, bury, coin_number, replaced, script_number, unspent_sum}
use Rattle.el_tables.proofs.Steps.{length_state}
use Rattle.el_connect.specs.within.Parts.{IsBetweenTxs, OutsInTurn, connect_next, made_by}
use Rattle.el_connect.proofs.StepLemmas.{bury_long, fund_txs}
use Rattle.el_connect.proofs.TouchLemmas.{within_full}

pub money_none : (sum : ℕ) → sum ≤ max_money → money_fault sum ≡ None
money_none sum le = let e = le-ltb max_money sum le in rw e refl

-- 1. With the transaction and its outputs

outs_after : (tx at : ℕ) (os : List (ℕ × Hash32)) (l : Lists) → length (fund_all tx at os l).outs ≡ length l.outs + length os
outs_after tx at [] l = omega arith
outs_after tx at (o ∷ os) l =
    let rest = outs_after tx (at + 1) os (fund tx at o l) in
    let e = add_entry o.1 tx l in
    let x : ListedOut = record { tx = tx; value = o.0; script = script_number o.1 e.scripts; state = State.Unspent } in
    let one = length-append (bury tx (replaced tx at e) l.outs) (x ∷ []) in
    let same = bury_long tx (replaced tx at e) l.outs in
    omega arith

ins_after : (tx at : ℕ) (os : List (ℕ × Hash32)) (l : Lists) → (fund_all tx at os l).ins ≡ l.ins
ins_after tx at [] l = refl
ins_after tx at (o ∷ os) l = ins_after tx (at + 1) os (fund tx at o l)

pub made_txs : (t : ListedTx) (os : List (ℕ × Hash32)) (l : Lists) → (made_by t os l).txs ≡ l.txs ++ t ∷ []
made_txs t os l = fund_txs (length l.txs) 0 os (add_tx t l)

pub made_outs : (t : ListedTx) (os : List (ℕ × Hash32)) (l : Lists) → length (made_by t os l).outs ≡ length l.outs + length os
made_outs t os l = outs_after (length l.txs) 0 os (add_tx t l)

pub made_ins : (t : ListedTx) (os : List (ℕ × Hash32)) (l : Lists) → (made_by t os l).ins ≡ l.ins
made_ins t os l = ins_after (length l.txs) 0 os (add_tx t l)

-- where its coins led to these lists
pub tx_leads : (height : ℕ) (p : PreparedTx) (l real : Lists) → spend_all (length l.txs) 0 p.inputs l ≡ Ok real → real.txs ≡ l.txs
    → connect_tx height p l ≡ Ok (made_by (listed_after height p l) p.outputs real)
tx_leads height p l real led same =
    ap (λ (q : Result Lists ℕ). q >>= (λ (x : Lists). Ok (fund_all (length l.txs) 0 p.outputs (add_tx (listed_after height p l) x)))) led
    ∙ ap (λ (ts : List ListedTx). Ok (fund_all (length ts) 0 p.outputs (add_tx (listed_after height p l) real))) (sym same)

-- 2. Between transactions

-- what the inputs leave
inputs_leave : (by at : ℕ) (os : List Outpoint) (l m : Lists) → spend_all by at os l ≡ Ok m → (m.txs ≡ l.txs) × (length m.outs ≡ length l.outs)
inputs_leave by at [] l m e = let same : l ≡ m = cc in (ap (λ (x : Lists). x.txs) (sym same), ap (λ (x : Lists). length x.outs) (sym same))
inputs_leave by at (o ∷ os) l m e = go (λ k. inputs_leave by (at + 1) os (spend_coin by k l) m) (coin_number o l.txs l.outs) refl
  where
    wrong : (n : ℕ) → Err n ≡ Ok m → ⊥
    wrong n f = cc

    go : ((k : ℕ) → spend_all by (at + 1) os (spend_coin by k l) ≡ Ok m → (m.txs ≡ l.txs) × (length m.outs ≡ length (spend_coin by k l).outs))
        → (r : Option ℕ) → coin_number o l.txs l.outs ≡ r → (m.txs ≡ l.txs) × (length m.outs ≡ length l.outs)
    go later None is = absurd (wrong at (let f : spend_all by at (o ∷ os) l ≡ Err at = rw is refl in sym f ∙ e))
    go later (Some k) is =
        let f : spend_all by at (o ∷ os) l ≡ spend_all by (at + 1) os (spend_coin by k l) = rw is refl in
        let rest = later k (sym f ∙ e) in
        (rest.0, rest.1 ∙ length_state (State.Spent by) k l.outs)

turn_more : (first count more : ℕ) (ts : List ListedTx) (t : ListedTx) → OutsInTurn first ts count → t.first_out ≡ count → count + t.outs ≡ more → OutsInTurn first (ts ++ t ∷ []) more
turn_more first count more [] t h at end = let same : first ≡ count = h in (at ∙ sym same, ap (λ (n : ℕ). n + t.outs) same ∙ end)
turn_more first count more (u ∷ us) t h at end = (h.0, turn_more (first + u.outs) count more us t h.1 at end)

-- a transaction's steps lead from one such place to the next
pub between_next : (height index : ℕ) (p : PreparedTx) (l m : Lists) → connect_next height index p l ≡ Ok m → IsBetweenTxs l → IsBetweenTxs m
between_next height index p l m led between = go (spend_all (length l.txs) 0 p.inputs l) refl
  where
    wrong : (e : ConnectFault) → Err e ≡ Ok m → ⊥
    wrong e f = cc

    bounded : (b : Option ConnectFault) (x : Lists) → ok_unless b x ≡ Ok m → (b ≡ None) × (x ≡ m)
    bounded None x e = (refl, cc)
    bounded (Some f) x e = absurd (wrong f e)

    made : (real : Lists) → spend_all (length l.txs) 0 p.inputs l ≡ Ok real → IsBetweenTxs m
    made real is =
        let leaves = inputs_leave (length l.txs) 0 p.inputs l real is in
        let x = made_by (listed_after height p l) p.outputs real in
        let leads = tx_leads height p l real is leaves.0 in
        let step : connect_next height index p l ≡ ok_unless (bounds_by height x) x =
        ap (λ (r : Result Lists ℕ). missing_at index r >>= (λ (y : Lists). ok_unless (bounds_by height y) y)) leads in
        let both = bounded (bounds_by height x) x (sym step ∙ led) in
        let tables = second_none (money_fault (unspent_sum x.outs)) (full_by height x) both.0 in
        let low = second_none (full 5 (length x.ins)) _ (second_none (full 4 (length x.outs)) _ (second_none (full 2 (length x.txs)) _ (second_none (full 1 (height + 1)) _ tables))) in
        let txs = made_txs (listed_after height p l) p.outputs real ∙ ap (λ (ts : List ListedTx). ts ++ listed_after height p l ∷ []) leaves.0 in
        let outs = made_outs (listed_after height p l) p.outputs real in
        let long = leaves.1 in
        let turn = turn_more 0 (length l.outs) (length x.outs) l.txs (listed_after height p l) between.outs refl (omega arith) in
        subst IsBetweenTxs both.1 (record {
          outs = subst (λ (ts : List ListedTx). OutsInTurn 0 ts (length x.outs)) (sym txs) turn;
          scripts = within_full 6 (length x.scripts) (first_none _ _ low);
          entries = within_full 8 (length x.entries) (second_none (full 6 (length x.scripts)) _ low);
        })

    go : (r : Result Lists ℕ) → spend_all (length l.txs) 0 p.inputs l ≡ r → IsBetweenTxs m
    go (Ok real) is = made real is
    go (Err at) is =
        let step : connect_next height index p l ≡ missing_at {A = Lists} index (Err at) =
        ap (λ (r : Result Lists ℕ). missing_at index (r >>= (λ (x : Lists). Ok (fund_all (length l.txs) 0 p.outputs (add_tx (listed_after height p l) x)))) >>= (λ (y : Lists). ok_unless (bounds_by height y) y)) is in
        absurd (none (sym step ∙ led))
      where
        none : missing_at {A = Lists} index (Err at) ≡ Ok m → ⊥
        none f = cc
