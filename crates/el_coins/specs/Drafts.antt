-- A chain that is not kept yet, as changes over the coins of the kept one.
use Rattle.std.specs.Prelude.{◌≤◌, length}
use Rattle.el_tx.specs.Encoding.{max_money}
use Rattle.el_coins.specs.declared.coins.CoinTable.{CoinTable}
use Rattle.el_chain.specs.Chains.{Chain}
use Rattle.el_chain.specs.Coins.{coins}
use Rattle.el_chain.specs.Faults.{IsGood}
use Rattle.el_chain.specs.RowCounts.{row_limit}
use Rattle.el_coins.specs.CoinLayers.{Holds}
use Rattle.el_coins.specs.Tallies.{IsTally, AreFew}
use Rattle.el_coins.specs.declared.tally.Tally.{Tally}
use Rattle.el_chain.specs.History.{positions}

-- A good chain, of no more blocks than there can be, after which the changes over the base stand for the
-- coins, and the counts of its transactions.
pub record IsDrafted (base : CoinTable) (chain : Chain) (changes : CoinTable) (tally : Tally) : Type 0 where
  pub good : IsGood chain
  pub few : length chain ≤ row_limit 1
  pub money : changes.supply ≤ max_money
  pub stands : Holds base changes (coins chain)
  pub counted : IsTally tally (positions chain)
  pub rows : AreFew tally
