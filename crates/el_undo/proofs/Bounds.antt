-- The sums on the way back: taking an output back lowers the sum of all coins by no more than the output's
-- value, and giving an input back doesn't lower it.
use Rattle.std.proofs.Common.{◌≡◌, inl, inr, ℕ, zero, suc, ◌+◌, ◌≤◌, List, [], ◌∷◌, Option, None, Some, refl, ap, ◌∙◌, arith}
use Rattle.std.proofs.lemmas.Bool.{cases_Bool}
use Rattle.el_tables.specs.Lists.{ListedOut, ListedEntry, Lists, State, is_unspent, with_state, unspent_sum}
use Rattle.el_tables.specs.Lists.State.{Unspent}
use Rattle.el_tables.specs.Disconnecting.{but_last, last, times, unbury, give_back, buried_at, spent_at, named_before, without_output, take_back_output, unspend, take_back_entry, take_back_entries, without_entry, is_entry_of}

-- what outputs hold, whatever became of them
abbrev pub all_values : List ListedOut → ℕ
all_values [] = 0
all_values (x ∷ xs) = x.value + all_values xs

-- 1. States

unspent_more : (k : ℕ) (xs : List ListedOut) → unspent_sum xs ≤ unspent_sum (with_state Unspent k xs)
unspent_more k [] = omega arith
unspent_more zero (x ∷ xs) = elim (cases_Bool (is_unspent x.state)) [
  | inl u ↦ rw u (omega arith)
  | inr u ↦ rw u (omega arith)
]
unspent_more (suc k) (x ∷ xs) = let rest = unspent_more k xs in omega arith

values_same : (s : State) (k : ℕ) (xs : List ListedOut) → all_values (with_state s k xs) ≡ all_values xs
values_same s k [] = refl
values_same s zero (x ∷ xs) = refl
values_same s (suc k) (x ∷ xs) = ap (λ (n : ℕ). x.value + n) (values_same s k xs)

-- 2. An output

unbury_more : (by : ℕ) (r : Option ℕ) (xs : List ListedOut) → unspent_sum xs ≤ unspent_sum (unbury by r xs)
unbury_more by None xs = omega arith
unbury_more by (Some k) xs = elim (cases_Bool (buried_at by k xs)) [
  | inl h ↦ rw h (unspent_more k xs)
  | inr h ↦ rw h (omega arith)
]

unbury_same : (by : ℕ) (r : Option ℕ) (xs : List ListedOut) → all_values (unbury by r xs) ≡ all_values xs
unbury_same by None xs = refl
unbury_same by (Some k) xs = elim (cases_Bool (buried_at by k xs)) [
  | inl h ↦ rw h (values_same Unspent k xs)
  | inr h ↦ rw h refl
]

-- the last one has no more in the sum than its value
last_part : (xs : List ListedOut) → unspent_sum xs + all_values (but_last xs) ≤ unspent_sum (but_last xs) + all_values xs
last_part [] = omega arith
last_part (x ∷ []) = elim (cases_Bool (is_unspent x.state)) [
  | inl u ↦ rw u (omega arith)
  | inr u ↦ rw u (omega arith)
]
last_part (x ∷ y ∷ xs) = let rest = last_part (y ∷ xs) in omega arith

last_none : (xs : List ListedOut) → last xs ≡ None → xs ≡ []
last_none [] h = refl
last_none (x ∷ []) h = absurd (some_none h)
  where
    some_none : Some x ≡ None → ⊥
    some_none e = cc
last_none (x ∷ y ∷ xs) h = let bad = last_none (y ∷ xs) h in absurd (wrong bad)
  where
    wrong : y ∷ xs ≡ [] → ⊥
    wrong e = cc

output_back : (l : Lists) → unspent_sum l.outs + all_values (take_back_output l).outs ≤ unspent_sum (take_back_output l).outs + all_values l.outs
output_back l = go (last l.outs) refl
  where
    go : (x : Option ListedOut) → last l.outs ≡ x → unspent_sum l.outs + all_values (without_output x l).outs ≤ unspent_sum (without_output x l).outs + all_values l.outs
    go None e = omega arith
    go (Some x) e =
        let part = last_part l.outs in
        let more = unbury_more x.tx (named_before (Some x) l) (but_last l.outs) in
        let same = unbury_same x.tx (named_before (Some x) l) (but_last l.outs) in
        omega arith

output_less : (l : Lists) → all_values (take_back_output l).outs ≤ all_values l.outs
output_less l = go (last l.outs)
  where
    front : (xs : List ListedOut) → all_values (but_last xs) ≤ all_values xs
    front [] = omega arith
    front (x ∷ []) = omega arith
    front (x ∷ y ∷ xs) = let rest = front (y ∷ xs) in omega arith

    go : (x : Option ListedOut) → all_values (without_output x l).outs ≤ all_values l.outs
    go None = omega arith
    go (Some x) =
        let less = front l.outs in
        let same = unbury_same x.tx (named_before (Some x) l) (but_last l.outs) in
        omega arith

-- 3. An input

give_more : (r : Option ℕ) (xs : List ListedOut) → unspent_sum xs ≤ unspent_sum (give_back r xs)
give_more None xs = omega arith
give_more (Some k) xs = elim (cases_Bool (spent_at k xs)) [
  | inl h ↦ rw h (unspent_more k xs)
  | inr h ↦ rw h (omega arith)
]

give_same : (r : Option ℕ) (xs : List ListedOut) → all_values (give_back r xs) ≡ all_values xs
give_same None xs = refl
give_same (Some k) xs = elim (cases_Bool (spent_at k xs)) [
  | inl h ↦ rw h (values_same Unspent k xs)
  | inr h ↦ rw h refl
]

-- 4. Many steps

-- after some of so many outputs the sum is no more than after all, and what the others hold
pub outputs_back : (k more : ℕ) (l : Lists)
    → unspent_sum (times k take_back_output l).outs + all_values (times (more + k) take_back_output l).outs
    ≤ unspent_sum (times (more + k) take_back_output l).outs + all_values (times k take_back_output l).outs
outputs_back k zero l = let e : zero + k ≡ k = omega arith in rw e (omega arith)
outputs_back k (suc more) l =
    let rest = outputs_back k more l in
    let one = output_back (times (more + k) take_back_output l) in
    let e : suc more + k ≡ suc (more + k) = omega arith in
    rw e (omega arith)

pub outputs_less : (k : ℕ) (l : Lists) → all_values (times k take_back_output l).outs ≤ all_values l.outs
outputs_less zero l = omega arith
outputs_less (suc k) l = let rest = outputs_less k l in let one = output_less (times k take_back_output l) in omega arith

-- after some of so many inputs the sum is no more than after all
pub inputs_back : (k more : ℕ) (l : Lists) → unspent_sum (times k unspend l).outs ≤ unspent_sum (times (more + k) unspend l).outs
inputs_back k zero l = let e : zero + k ≡ k = omega arith in rw e (omega arith)
inputs_back k (suc more) l =
    let rest = inputs_back k more l in
    let one = give_more (last (times (more + k) unspend l).ins) (times (more + k) unspend l).outs in
    let e : suc more + k ≡ suc (more + k) = omega arith in
    rw e (omega arith)

pub inputs_same : (k : ℕ) (l : Lists) → all_values (times k unspend l).outs ≡ all_values l.outs
inputs_same zero l = refl
inputs_same (suc k) l = give_same (last (times k unspend l).ins) (times k unspend l).outs ∙ inputs_same k l

pub entries_keep : (k tx : ℕ) (l : Lists) → (take_back_entries k tx l).outs ≡ l.outs
entries_keep zero tx l = refl
entries_keep (suc k) tx l = elim (cases_Bool (is_entry_of tx (last l.entries))) [
  | inl h ↦ rw h (entries_keep k tx (take_back_entry l) ∙ one (last l.entries))
  | inr h ↦ rw h refl
]
  where
    one : (e : Option ListedEntry) → (without_entry e l).outs ≡ l.outs
    one None = refl
    one (Some e) = refl
