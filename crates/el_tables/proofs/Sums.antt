-- What a step does to the sums: what the crate of outputs needs for running balances, and `connect` for the sum of all coins.
use Rattle.std.proofs.Common.{◌≡◌, ◌≤◌, ◌==◌, Bool, if◌then◌else◌, ◌&&◌, ℕ, zero, suc, ◌+◌, true, false, List, [], ◌∷◌, ◌++◌, refl, arith, eq-eqb, ne_eqb, ◌<◌, ◌^◌}
use Rattle.el_tables.specs.Lists.{ListedOut, State, is_unspent, unspent_at, with_state, script_at, held, balance_of, unspent_sum}

-- the value of the output of that number
abbrev pub value_at : ℕ → List ListedOut → ℕ
value_at k [] = 0
value_at zero (x ∷ xs) = x.value
value_at (suc k) (x ∷ xs) = value_at k xs

-- an unspent output is taken or buried
pub all_less : (s : State) (k : ℕ) (rows : List ListedOut) → is_unspent s ≡ false → unspent_at k rows ≡ true → unspent_sum (with_state s k rows) + value_at k rows ≡ unspent_sum rows
all_less s k [] gone u = absurd (wrong u)
  where
    wrong : false ≡ true → ⊥
    wrong e = cc
all_less s zero (x ∷ xs) gone u = rw (gone, u) (let e : 0 + unspent_sum xs + x.value ≡ x.value + unspent_sum xs = omega arith in e)
all_less s (suc k) (x ∷ xs) gone u = let rest = all_less s k xs gone u in omega arith

pub all_more : (rows : List ListedOut) (x : ListedOut) → x.state ≡ State.Unspent → unspent_sum (rows ++ x ∷ []) ≡ unspent_sum rows + x.value
all_more [] x is = rw is (let e : x.value + 0 ≡ 0 + x.value = omega arith in e)
all_more (y ∷ ys) x is = let rest = all_more ys x is in omega arith

-- its script's balance falls by what it held
pub balance_less : (s : State) (k j : ℕ) (rows : List ListedOut) → is_unspent s ≡ false → unspent_at k rows ≡ true → script_at k rows ≡ j
    → balance_of j (with_state s k rows) + value_at k rows ≡ balance_of j rows
balance_less s k j [] gone u is = absurd (wrong u)
  where
    wrong : false ≡ true → ⊥
    wrong e = cc
balance_less s zero j (x ∷ xs) gone u is =
    let self = eq-eqb x.script j is in
    rw (self, gone, u) (let e : 0 + balance_of j xs + x.value ≡ x.value + balance_of j xs = omega arith in e)
balance_less s (suc k) j (x ∷ xs) gone u is = let rest = balance_less s k j xs gone u is in omega arith

-- and no other balance changes
pub balance_same : (s : State) (k j : ℕ) (rows : List ListedOut) → is_unspent s ≡ false → (script_at k rows ≡ j → ⊥) → balance_of j (with_state s k rows) ≡ balance_of j rows
balance_same s k j [] gone other = refl
balance_same s zero j (x ∷ xs) gone other = let apart = ne_eqb x.script j other in rw apart refl
balance_same s (suc k) j (x ∷ xs) gone other = let rest = balance_same s k j xs gone other in rw rest refl

-- one output more
pub balance_more : (j : ℕ) (rows : List ListedOut) (x : ListedOut) → balance_of j (rows ++ x ∷ []) ≡ balance_of j rows + held j x
balance_more j [] x = let e : held j x + 0 ≡ 0 + held j x = omega arith in e
balance_more j (y ∷ ys) x = let rest = balance_more j ys x in omega arith

-- it is a part of what all hold
pub balance_within : (j : ℕ) (rows : List ListedOut) → balance_of j rows ≤ unspent_sum rows
balance_within j [] = omega arith
balance_within j (x ∷ xs) =
    let rest = balance_within j xs in
    let one = part (x.script == j) (is_unspent x.state) x.value in
    omega arith
  where
    part : (a b : Bool) (v : ℕ) → (if a && b then v else 0) ≤ (if b then v else 0)
    part true true v = omega arith
    part true false v = omega arith
    part false true v = omega arith
    part false false v = omega arith

pub balances_fit : (rows : List ListedOut) → unspent_sum rows < 2 ^ 64 → (j : ℕ) → balance_of j rows < 2 ^ 64
balances_fit rows fit j = let part = balance_within j rows in omega arith
