-- A table of changes that lies over the ledger's table of coins.
use Rattle.std.specs.Prelude.{ℕ, ◌≤◌, length, List, Option}
use Rattle.std.specs.Option.{option_or}
use Rattle.el_tx.specs.Encoding.{max_money}
use Rattle.el_chain.specs.declared.coin.Coin.{Coin}
use Rattle.el_coins.specs.declared.coins.CoinTable.{CoinTable}
use Rattle.el_chain.specs.RowCounts.{row_limit}
use Rattle.el_chain.specs.Chains.{Chain}
use Rattle.el_chain.specs.Coins.{coins, coins_after, supply}
use Rattle.el_chain.specs.History.{positions}
use Rattle.el_chain.specs.Faults.{missing_fault, money_fault, IsGood}
use Rattle.el_coins.specs.Tallies.{IsTally, AreFew}
use Rattle.el_coins.specs.declared.tally.Tally.{Tally}
use Rattle.el_chain.specs.declared.fault.ConnectFault.{ConnectFault}
use Rattle.el_tx.specs.declared.types.Tx.{Tx}
use Rattle.el_coins.specs.CoinTables.{coin_by, coin_over, CoinsStandFor}

-- the changes over the base stand for these coins
abbrev pub Holds : CoinTable → CoinTable → List Coin → Type 0
Holds base changes coins = CoinsStandFor (coin_over base.map changes.map) changes.supply coins

-- the changes over the base stand for some coins
abbrev pub HoldsSome : CoinTable → CoinTable → Type 0
HoldsSome base changes = (coins : List Coin) × Holds base changes coins

-- this is so of the coins that the changes over the base stand for
abbrev pub IfHolds : CoinTable → CoinTable → (List Coin → Type 0) → Type 0
IfHolds base changes P = (coins : List Coin) → Holds base changes coins → P coins

-- the first fault of a transaction that its coins have: one is missing, or all hold too much after it
abbrev pub coin_fault : ℕ → ℕ → Tx → List Coin → Option ConnectFault
coin_fault height index t coins =
    option_or (missing_fault index t coins) (money_fault (supply (coins_after height t coins)))

-- The ledger's blocks are a good chain, of no more than there can be, its table stands for the coins after
-- them, and its counts are those of their transactions.
pub record IsPlainChain (chain : Chain) (kept : CoinTable) (tally : Tally) : Type 0 where
  pub good : IsGood chain
  pub few : length chain ≤ row_limit 1
  pub money : kept.supply ≤ max_money
  pub stands : CoinsStandFor (coin_by kept.map) kept.supply (coins chain)
  pub counted : IsTally tally (positions chain)
  pub rows : AreFew tally
