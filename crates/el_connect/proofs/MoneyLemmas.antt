-- What all coins hold with outputs that are not made yet.
use Rattle.std.proofs.Common.{◌≡◌, ◌⊎◌, inl, inr, ℕ, zero, suc, ◌+◌, ◌-◌, ◌<◌, ◌≤◌, ◌^◌, Bool, true, false, List, [], ◌∷◌, ◌++◌, length, take, drop, get_or, min, nat_lt, Option, None, Some, option_and_then, refl, ap, sym, ◌∙◌, arith, length-append, if◌then◌else◌}
use Rattle.std.specs.Option.{option_or}
use Rattle.std.proofs.lemmas.Bool.{cases_Bool, and_parts, ltb-true}
use Rattle.std.proofs.lemmas.List.{get_or_append_left}
use Rattle.el_base.specs.declared.hash.Hash32.{Hash32}
use Rattle.el_tx.specs.declared.types.Outpoint.{Outpoint}
use Rattle.el_tx.specs.Encoding.{max_money}
use Rattle.el_chain.specs.Faults.{money_fault}
use Rattle.el_chain.specs.Headers.{same_hash}
use Rattle.el_chain.specs.declared.fault.ConnectFault.{ConnectFault}
use Rattle.el_tables.specs.Connecting.{fund, fund_all}
use Rattle.el_tables.specs.Edits.{no_out}
use Rattle.el_tables.specs.Lists.{State, Lists, ListedTx, ListedOut, add_entry, bury, coin_number, has_output, if_unspent, output_number, replaced, script_number, txid_at, unspent_at, unspent_sum, with_state}
use Rattle.el_tables.proofs.Steps.{unspent_front, named_of}
use Rattle.el_connect.specs.within.Parts.{OutsInTurn, coin_amount, output_amount, values}
use Rattle.el_connect.specs.within.Full.{IsNextTx}
use Rattle.el_connect.proofs.MadeLemmas.{money_none}
use Rattle.el_connect.proofs.StepLemmas.{bury_long, funded_sum, gone_within, output_funded, outputs_end, value_stays, values_left}

-- 1. Outputs in turn

turn_within : (first count : ℕ) (ts : List ListedTx) → OutsInTurn first ts count → first ≤ count
turn_within first count [] h = omega (arith, h)
turn_within first count (t ∷ ts) h = let rest = turn_within (first + t.outs) count ts h.1 in omega arith

either : (r : Option ℕ) (b : Bool) (m k : ℕ) → option_or r (if b then Some m else None) ≡ Some k → (r ≡ Some k) ⊎ ((b ≡ true) × (m ≡ k))
either (Some j) b m k e = inl e
either None true m k e = inr (refl, cc)
either None false m k e = absurd (wrong e)
  where
    wrong : None ≡ Some k → ⊥
    wrong f = cc

index_low : (o : Outpoint) (t : ListedTx) → has_output o t ≡ true → o.index < t.outs
index_low o t h = ltb-true o.index t.outs (and_parts (same_hash t.txid o.txid) (nat_lt o.index t.outs) h).1

-- an outpoint names one of them
named_within : (o : Outpoint) (first count k : ℕ) (ts : List ListedTx) → OutsInTurn first ts count → output_number o ts ≡ Some k → (first ≤ k) × (k < count)
named_within o first count k [] h e = absurd (wrong e)
  where
    wrong : None ≡ Some k → ⊥
    wrong f = cc
named_within o first count k (t ∷ ts) h e = by (named_within o (first + t.outs) count k ts h.1) (either (output_number o ts) (has_output o t) (t.first_out + o.index) k e)
  where
    by : (output_number o ts ≡ Some k → (first + t.outs ≤ k) × (k < count)) → (output_number o ts ≡ Some k) ⊎ ((has_output o t ≡ true) × (t.first_out + o.index ≡ k)) → (first ≤ k) × (k < count)
    by rest (inl later) = let there = rest later in let a = there.0 in (omega arith, there.1)
    by rest (inr here) =
        let low = index_low o t here.0 in
        let at = h.0 in
        let is = here.1 in
        let end = turn_within (first + t.outs) count ts h.1 in
        (omega arith, omega arith)

-- and with another index another one
named_apart : (id : Hash32) (i j first count k : ℕ) (ts : List ListedTx) → OutsInTurn first ts count → output_number (record { txid = id; index = i }) ts ≡ Some k
    → output_number (record { txid = id; index = j }) ts ≡ Some k → i ≡ j
named_apart id i j first count k [] h e f = absurd (wrong e)
  where
    wrong : None ≡ Some k → ⊥
    wrong g = cc
named_apart id i j first count k (t ∷ ts) h e f =
    by (named_apart id i j (first + t.outs) count k ts h.1) (either (output_number a ts) (has_output a t) (t.first_out + i) k e) (either (output_number b ts) (has_output b t) (t.first_out + j) k f)
  where
    a : Outpoint
    a = record { txid = id; index = i }

    b : Outpoint
    b = record { txid = id; index = j }

    by : (output_number a ts ≡ Some k → output_number b ts ≡ Some k → i ≡ j) → (output_number a ts ≡ Some k) ⊎ ((has_output a t ≡ true) × (t.first_out + i ≡ k)) → (output_number b ts ≡ Some k) ⊎ ((has_output b t ≡ true) × (t.first_out + j ≡ k)) → i ≡ j
    by rest (inl x) (inl y) = rest x y
    by rest (inl x) (inr y) = absurd (let late = (named_within a (first + t.outs) count k ts h.1 x).0 in let low = index_low b t y.0 in let at = h.0 in let is = y.1 in omega arith)
    by rest (inr x) (inl y) = absurd (let late = (named_within b (first + t.outs) count k ts h.1 y).0 in let low = index_low a t x.0 in let at = h.0 in let is = x.1 in omega arith)
    by rest (inr x) (inr y) = let p = x.1 in let q = y.1 in omega arith

-- 2. What an output leaves of the others' coins

unspent_apart : (s : State) (j k : ℕ) (xs : List ListedOut) → (j ≡ k → ⊥) → unspent_at k (with_state s j xs) ≡ unspent_at k xs
unspent_apart s j k [] apart = refl
unspent_apart s zero zero (x ∷ xs) apart = absurd (apart refl)
unspent_apart s zero (suc k) (x ∷ xs) apart = refl
unspent_apart s (suc j) zero (x ∷ xs) apart = refl
unspent_apart s (suc j) (suc k) (x ∷ xs) apart = unspent_apart s j k xs (λ e. apart (ap (λ n. suc n) e))

buried_apart : (n : ℕ) (r : Option ℕ) (k : ℕ) (xs : List ListedOut) → (r ≡ Some k → ⊥) → unspent_at k (bury n r xs) ≡ unspent_at k xs
buried_apart n None k xs apart = refl
buried_apart n (Some j) k xs apart = unspent_apart (State.Buried n) j k xs (λ e. apart (ap Some e))

buried_value : (n : ℕ) (r : Option ℕ) (k : ℕ) (xs : List ListedOut) → (get_or (bury n r xs) k no_out).value ≡ (get_or xs k no_out).value
buried_value n None k xs = refl
buried_value n (Some j) k xs = value_stays (State.Buried n) j k xs

held_still : (n : ℕ) (r names : Option ℕ) (x : ListedOut) (xs : List ListedOut) → ((k : ℕ) → names ≡ Some k → (k < length xs) × (r ≡ Some k → ⊥))
    → output_amount (option_and_then (if_unspent (bury n r xs ++ x ∷ [])) names) (bury n r xs ++ x ∷ []) ≡ output_amount (option_and_then (if_unspent xs) names) xs
held_still n r None x xs known = refl
held_still n r (Some k) x xs known =
    let at = known k refl in
    let long = bury_long n r xs in
    let here = at.0 in
    let low : k < length (bury n r xs) = omega arith in
    let unspent : unspent_at k (bury n r xs ++ x ∷ []) ≡ unspent_at k xs = unspent_front k (bury n r xs) (x ∷ []) low ∙ buried_apart n r k xs at.1 in
    let value : (get_or (bury n r xs ++ x ∷ []) k no_out).value ≡ (get_or xs k no_out).value =
    ap (λ (y : ListedOut). y.value) (get_or_append_left (bury n r xs) (x ∷ []) no_out k low) ∙ buried_value n r k xs in
    elim (cases_Bool (unspent_at k xs)) [
      | inl e ↦ rw (unspent, e) value
      | inr e ↦ rw (unspent, e) refl
    ]

-- 3. Outputs one after the other

module _ (l next : Lists) (number : ℕ) (id : Hash32) (turn : OutsInTurn 0 l.txs (length l.outs)) (is_next : IsNextTx l next number id) where
  abbrev point : ℕ → Outpoint
  point j = record { txid = id; index = j }

  keeps_one : (at j : ℕ) (o : ℕ × Hash32) (now : Lists) → now.txs ≡ next.txs → length l.outs ≤ length now.outs → at < j
      → coin_amount (point j) number (fund number at o now) ≡ coin_amount (point j) number now
  keeps_one at j o now txs longer lt =
      let front : take number now.txs ≡ l.txs = ap (take number) txs ∙ is_next.front in
      let own : txid_at number now.txs ≡ id = ap (txid_at number) txs ∙ is_next.id in
      let names : replaced number at now ≡ option_and_then (if_unspent now.outs) (output_number (point at) l.txs) =
      ap (λ (h : Hash32). coin_number (record { txid = h; index = at }) (take number now.txs) now.outs) own ∙ ap (λ (ts : List ListedTx). coin_number (point at) ts now.outs) front in
      let x : ListedOut = record { tx = number; value = o.0; script = script_number o.1 (add_entry o.1 number now).scripts; state = State.Unspent } in
      let r = replaced number at now in
      let known : (k : ℕ) → output_number (point j) (take number now.txs) ≡ Some k → (k < length now.outs) × (r ≡ Some k → ⊥) =
      λ k is.
      let here : output_number (point j) l.txs ≡ Some k = ap (output_number (point j)) (sym front) ∙ is in
      let low = (named_within (point j) 0 (length l.outs) k l.txs turn here).1 in
      (omega arith, λ buried. let same = named_apart id at j 0 (length l.outs) k l.txs turn (named_of now.outs (output_number (point at) l.txs) k (sym names ∙ buried)) here in omega arith) in
      held_still number r (output_number (point j) (take number now.txs)) x now.outs known

  -- so many outputs are counted
  pub record Counting (os : List (ℕ × Hash32)) (after at : ℕ) : Type 0 where
    pub now : Lists
    pub left : fund_all number 0 os next ≡ fund_all number at (drop at os) now
    pub txs : now.txs ≡ next.txs
    pub sum_is : after ≡ unspent_sum now.outs
    pub fit : unspent_sum now.outs + values (drop at os) < 2 ^ 64
    pub longer : length l.outs ≤ length now.outs
    pub keeps : (j : ℕ) → at ≤ j → coin_amount (point j) number now ≡ coin_amount (point j) number l

  pub counting_more : (os : List (ℕ × Hash32)) (after more gone at : ℕ) (o : ℕ × Hash32) → at < length os → o ≡ get_or os at o → gone ≡ coin_amount (point at) number l
      → more ≡ min (after - gone + o.0) 18446744073709551615 → Counting os after at → Counting os more (at + 1)
  counting_more os after more gone at o lt is gone_is more_is inv =
      let now = inv.now in
      let e = add_entry o.1 number now in
      let own : txid_at number now.txs ≡ id = ap (txid_at number) inv.txs ∙ is_next.id in
      let replaces : output_amount (replaced number at e) e.outs ≡ gone =
      ap (λ (h : Hash32). coin_amount (record { txid = h; index = at }) number now) own ∙ inv.keeps at (omega arith) ∙ sym gone_is in
      let sums = funded_sum e number at o.0 (script_number o.1 e.scripts) in
      let part = gone_within e number at in
      let left = values_left at os o lt is in
      let was = inv.sum_is in
      let fit = inv.fit in
      let x : ListedOut = record { tx = number; value = o.0; script = script_number o.1 e.scripts; state = State.Unspent } in
      let long = length-append (bury number (replaced number at e) e.outs) (x ∷ []) in
      let same = bury_long number (replaced number at e) e.outs in
      let longer = inv.longer in
      let exact : after - gone + o.0 ≡ unspent_sum (fund number at o now).outs = omega arith in
      record {
        now = fund number at o now;
        left = inv.left ∙ output_funded number at os o now lt is;
        txs = inv.txs;
        sum_is = omega (arith, exact, more_is, fit, left, sums);
        fit = omega arith;
        longer = omega arith;
        keeps = λ j le. keeps_one at j o now inv.txs inv.longer (omega arith) ∙ inv.keeps j (omega arith);
      }

  pub counting_done : (os : List (ℕ × Hash32)) (after at : ℕ) → length os ≤ at → Counting os after at → after ≡ unspent_sum (fund_all number 0 os next).outs
  counting_done os after at le inv =
      inv.sum_is ∙ ap (λ (x : Lists). unspent_sum x.outs) (sym (inv.left ∙ outputs_end number at os inv.now le))

-- 4. Faults

sum_at_most : (tx at : ℕ) (os : List (ℕ × Hash32)) (l : Lists) → unspent_sum (fund_all tx at os l).outs ≤ unspent_sum l.outs + values os
sum_at_most tx at [] l = omega arith
sum_at_most tx at (o ∷ os) l =
    let e = add_entry o.1 tx l in
    let one = funded_sum e tx at o.0 (script_number o.1 e.scripts) in
    let rest = sum_at_most tx (at + 1) os (fund tx at o l) in
    omega arith

pub few_fine : (l next : Lists) (number left : ℕ) (id : Hash32) (os : List (ℕ × Hash32)) → IsNextTx l next number id → left ≡ unspent_sum l.outs → left + values os ≤ max_money
    → money_fault (unspent_sum (fund_all number 0 os next).outs) ≡ None
few_fine l next number left id os is_next is few =
    let most = sum_at_most number 0 os next in
    let same = ap unspent_sum is_next.outs in
    money_none (unspent_sum (fund_all number 0 os next).outs) (omega arith)

pub summed : (next : Lists) (number after : ℕ) (xs os : List (ℕ × Hash32)) (r : Option ConnectFault) → after ≡ unspent_sum (fund_all number 0 xs next).outs → xs ≡ os → money_fault after ≡ r
    → money_fault (unspent_sum (fund_all number 0 os next).outs) ≡ r
summed next number after xs os r is same fault =
    ap (λ (ys : List (ℕ × Hash32)). money_fault (unspent_sum (fund_all number 0 ys next).outs)) (sym same) ∙ ap money_fault (sym is) ∙ fault
