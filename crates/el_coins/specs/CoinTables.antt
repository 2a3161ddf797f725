-- What the ledger's tables of coins, and a script hash's own coins, stand for.
use Rattle.std.specs.Prelude.{◌≡◌, ℕ, List, Option}
use Rattle.std.specs.List.{AllByRecursion}
use Rattle.std.specs.Option.{option_or, option_flatten}
use Rattle.indexmap.specs.IndexMap.{IndexMap, get}
use Rattle.el_tx.specs.declared.types.Outpoint.{Outpoint}
use Rattle.el_tx.specs.Hashing.{same_outpoint}
use Rattle.el_chain.specs.declared.placed.Placed.{Placed}
use Rattle.el_chain.specs.declared.coin.Coin.{Coin}
use Rattle.el_chain.specs.Coins.{supply}
use Rattle.el_chain.specs.CoinLists.{coin_in, AreOnce, FitsBlock}

-- what a table says of an outpoint: nothing, or its coin, or that it was taken
abbrev pub lookup : {S : Type 0} → IndexMap Outpoint (Option Coin) S → Outpoint → Option (Option Coin)
lookup table o = get same_outpoint table o

-- the coin of an outpoint by a table
abbrev pub coin_by : {S : Type 0} → IndexMap Outpoint (Option Coin) S → Outpoint → Option Coin
coin_by table o = option_flatten (lookup table o)

-- the coin of an outpoint where a table of changes lies over another one
abbrev pub coin_over : {S : Type 0} → IndexMap Outpoint (Option Coin) S → IndexMap Outpoint (Option Coin) S
    → Outpoint → Option Coin
coin_over base changes o = option_flatten (option_or (lookup changes o) (lookup base o))

-- look-ups and a sum stand for coins: each outpoint has the coin that it has there, they hold that sum, and
-- no outpoint has two
pub record CoinsStandFor (look : Outpoint → Option Coin) (sum : ℕ) (coins : List Coin) : Type 0 where
  pub each : (o : Outpoint) → look o ≡ coin_in coins o
  pub total : sum ≡ supply coins
  pub once : AreOnce coins

-- each transaction of the block can be in one
abbrev pub HasFitting : Placed → Type 0
HasFitting b = AllByRecursion FitsBlock b.block.txs
