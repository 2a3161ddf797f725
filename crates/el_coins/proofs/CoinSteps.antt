-- Steps over inputs, outputs and transactions, by what each leaves of the coins.
use Rattle.std.proofs.Common.{◌≡◌, ℕ, ◌+◌, ◌<◌, true, false, List, ◌∷◌, length, drop, get_or, Some, refl}
use Rattle.std.proofs.lemmas.List.Sums.{sum_by-cons}
use Rattle.std.specs.List.{AllByRecursion}
use Rattle.el_base.specs.declared.hash.Hash32.{Hash32}
use Rattle.el_base.proofs.Lists.{left_at}
use Rattle.el_tx.specs.Encoding.{total_value}
use Rattle.el_tx.specs.declared.types.TxIn.{TxIn}
use Rattle.el_tx.specs.declared.types.TxOut.{TxOut}
use Rattle.el_tx.specs.declared.types.Tx.{Tx}
use Rattle.el_chain.specs.declared.coin.Coin.{Coin}
use Rattle.el_chain.specs.Coins.{without, add_coin, spend_inputs, coin_made, add_outputs}
use Rattle.el_chain.specs.CoinLists.{FitsBlock}
use Rattle.el_chain.specs.Faults.{has_coin, missing_input}

-- an input whose coin is there: the inputs after it go on without the coin
pub input_step : (n : ℕ) (inputs : List TxIn) (i : TxIn) (coins : List Coin) → n < length inputs → i ≡ get_or inputs n i → true ≡ has_coin i.from coins
    → (missing_input n (drop n inputs) coins ≡ missing_input (n + 1) (drop (n + 1) inputs) (without i.from coins))
    × (spend_inputs (drop n inputs) coins ≡ spend_inputs (drop (n + 1) inputs) (without i.from coins))
input_step n inputs i coins lt is here =
    let left = left_at inputs n i lt is in
    (rw left (found (drop (n + 1) inputs) here), rw left refl)
  where
    found : (is : List TxIn) → true ≡ has_coin i.from coins → missing_input n (i ∷ is) coins ≡ missing_input (n + 1) is (without i.from coins)
    found is e = rw (← e) refl

-- an input whose coin is missing
pub input_stop : (n : ℕ) (inputs : List TxIn) (i : TxIn) (coins : List Coin) → n < length inputs → i ≡ get_or inputs n i → false ≡ has_coin i.from coins
    → missing_input n (drop n inputs) coins ≡ Some n
input_stop n inputs i coins lt is gone =
    let left = left_at inputs n i lt is in
    rw left (missing (drop (n + 1) inputs) gone)
  where
    missing : (is : List TxIn) → false ≡ has_coin i.from coins → missing_input n (i ∷ is) coins ≡ Some n
    missing is e = rw (← e) refl

-- an output, which puts its coin in
pub output_step : (id : Hash32) (height n : ℕ) (outputs : List TxOut) (o : TxOut) (coins : List Coin) → n < length outputs → o ≡ get_or outputs n o
    → add_outputs id height n (drop n outputs) coins ≡ add_outputs id height (n + 1) (drop (n + 1) outputs) (add_coin (coin_made id height n o) coins)
output_step id height n outputs o coins lt is =
    let left = left_at outputs n o lt is in
    rw left refl

-- the values of the outputs that are left
pub values_left : (n : ℕ) (outputs : List TxOut) (o : TxOut) → n < length outputs → o ≡ get_or outputs n o
    → total_value (drop n outputs) ≡ o.value + total_value (drop (n + 1) outputs)
values_left n outputs o lt is =
    let left = left_at outputs n o lt is in
    rw left (sum_by-cons (λ (x : TxOut). x.value) o (drop (n + 1) outputs))

-- the transactions after one that fits
pub fits_after : (ts : List Tx) (n : ℕ) (t : Tx) → n < length ts → t ≡ get_or ts n t → AllByRecursion FitsBlock (drop n ts) → AllByRecursion FitsBlock (drop (n + 1) ts)
fits_after ts n t lt is all =
    let left = left_at ts n t lt is in
    let here = rw left at all in
    here.1

pub fits_here : (ts : List Tx) (n : ℕ) (t : Tx) → n < length ts → t ≡ get_or ts n t → AllByRecursion FitsBlock (drop n ts) → FitsBlock t
fits_here ts n t lt is all =
    let left = left_at ts n t lt is in
    let here = rw left at all in
    here.0
