-- The history of a script hash by the outpoints of its own coins alone.
use Rattle.std.proofs.Common.{◌≡◌, ℕ, ◌+◌, ◌<◌, List, length, drop, get_or, refl}
use Rattle.std.specs.List.{AllByRecursion}
use Rattle.el_tx.specs.declared.types.TxIn.{TxIn}
use Rattle.el_tx.specs.declared.types.Tx.{Tx}
use Rattle.el_chain.specs.declared.placed.Placed.{Placed}
use Rattle.el_chain.specs.declared.coin.Coin.{Coin}
use Rattle.el_chain.specs.Chains.{Chain}
use Rattle.el_chain.specs.Coins.{without, spend_inputs, coins_after, coins_after_all}
use Rattle.el_coins.specs.CoinTables.{HasFitting}
use Rattle.el_base.proofs.Lists.{left_at}

-- an input takes its coin, and the others go on
pub drop_step : (inputs : List TxIn) (n : ℕ) (i : TxIn) (coins : List Coin) → n < length inputs → i ≡ get_or inputs n i
    → spend_inputs (drop n inputs) coins ≡ spend_inputs (drop (n + 1) inputs) (without i.from coins)
drop_step inputs n i coins lt is =
    let left = left_at inputs n i lt is in
    rw left refl

-- the coins go on so too
pub after_step : (height n : ℕ) (ts : List Tx) (t : Tx) (coins : List Coin) → n < length ts → t ≡ get_or ts n t
    → coins_after_all height (drop n ts) coins ≡ coins_after_all height (drop (n + 1) ts) (coins_after height t coins)
after_step height n ts t coins lt is =
    let left = left_at ts n t lt is in
    rw left refl

-- the blocks after one
pub fit_here : (chain : Chain) (n : ℕ) (b : Placed) → n < length chain → b ≡ get_or chain n b → AllByRecursion HasFitting (drop n chain) → HasFitting b
fit_here chain n b lt is all =
    let left = left_at chain n b lt is in
    let here = rw left at all in
    here.0

pub fit_after : (chain : Chain) (n : ℕ) (b : Placed) → n < length chain → b ≡ get_or chain n b → AllByRecursion HasFitting (drop n chain)
    → AllByRecursion HasFitting (drop (n + 1) chain)
fit_after chain n b lt is all =
    let left = left_at chain n b lt is in
    let here = rw left at all in
    here.1
