-- What clients see of a script hash, over a chain and the kept transactions (Electrum Protocol 1.4,
-- blockchain.scripthash.listunspent and blockchain.scripthash.get_balance). A script hash stands in inner
-- order.
use Rattle.std.specs.Prelude.{ℕ, ℤ, pos, ◌-ℤ◌, not, List, ◌++◌, filter}
use Rattle.el_tx.specs.declared.types.Tx.{Tx}
use Rattle.el_chain.specs.Chains.{Chain}
use Rattle.el_chain.specs.Coins.{supply}
use Rattle.el_chain.specs.declared.coin.Coin.{Coin}
use Rattle.el_model.specs.Queries as confirmed
use Rattle.el_mempool.specs.Sift.{is_taken}
use Rattle.el_mempool.specs.Unconfirmed.{pool_unspent}
use Rattle.el_view.specs.declared.views.Balance.{Balance}

-- these coins without those that a kept transaction takes
abbrev pub untaken : List Tx → List Coin → List Coin
untaken kept coins = filter (λ (c : Coin). not (is_taken c.outpoint kept)) coins

-- The coins of the chain that no kept transaction takes, in chain order of their transactions and then by
-- index; and then those that kept ones make and no kept one takes, by the shown txid and then by index.
abbrev pub unspent : Chain → List Tx → List ℕ → List Coin
unspent chain kept script_hash =
    untaken kept (confirmed.unspent chain script_hash) ++ pool_unspent kept script_hash

-- by how much all of these hold more than the coins of the chain; below 0 where they hold less
abbrev pub unconfirmed : Chain → List Tx → List ℕ → ℤ
unconfirmed chain kept script_hash =
    pos (supply (unspent chain kept script_hash)) -ℤ pos (confirmed.balance chain script_hash)

-- what the coins of the chain hold, and what the kept transactions change of it
abbrev pub balance : Chain → List Tx → List ℕ → Balance
balance chain kept script_hash = record {
  confirmed = confirmed.balance chain script_hash;
  unconfirmed = unconfirmed chain kept script_hash;
}
