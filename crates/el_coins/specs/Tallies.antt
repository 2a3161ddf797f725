-- The counts that are kept as a chain grows.
use Rattle.std.specs.Prelude.{◌≡◌, ℕ, ◌≤◌, List, [], ◌++◌, length, map, Option}
use Rattle.std.specs.Option.{option_or}
use Rattle.std.specs.List.{AllByRecursion}
use Rattle.el_chain.specs.CoinLists.{AreOnce}
use Rattle.el_tx.specs.declared.types.Tx.{Tx}
use Rattle.el_chain.specs.declared.fault.ConnectFault.{ConnectFault}
use Rattle.el_coins.specs.declared.tally.Tally.{Tally}
use Rattle.el_chain.specs.Chains.{Chain}
use Rattle.el_chain.specs.Coins.{coins}
use Rattle.el_chain.specs.History.{Position}
use Rattle.el_chain.specs.RowCounts.{row_limit, concerned_scripts, output_count, input_count, script_count, entry_count}
use Rattle.el_chain.specs.Faults.{full}
use Rattle.el_coins.specs.within.Meters.{met_in, met_from}

-- these are the counts of the transactions of those positions
pub record IsTally (tally : Tally) (ps : List Position) : Type 0 where
  pub txs : tally.txs ≡ length ps
  pub outputs : tally.outputs ≡ output_count ps
  pub inputs : tally.inputs ≡ input_count ps

-- no count is above what its table may have
pub record AreFew (tally : Tally) : Type 0 where
  pub txs : tally.txs ≤ row_limit 2
  pub outputs : tally.outputs ≤ row_limit 4
  pub inputs : tally.inputs ≤ row_limit 5

-- the first of the tables 1 to 5 that is full by the number of blocks and these counts
abbrev pub tally_fault : ℕ → Tally → Option ConnectFault
tally_fault blocks tally =
    option_or (full 1 blocks) (option_or (full 2 tally.txs)
    (option_or (full 4 tally.outputs) (full 5 tally.inputs)))

-- the first of the tables 6 and 8 that is full for the transactions of these positions
abbrev pub met_fault : List Position → Option ConnectFault
met_fault ps = option_or (full 6 (script_count ps)) (full 8 (entry_count ps))

-- The transactions of the positions concern what those of a chain concern, and after them some of the block
-- that stands after the chain; no outpoint has two coins before any of them.
pub record MeetAs (chain : Chain) (ts : List Tx) (ps : List Position) : Type 0 where
  pub met_are : map concerned_scripts ps ≡ met_from 0 chain [] ++ met_in (length chain) ts (coins chain)
  pub once : AllByRecursion (λ (p : Position). AreOnce p.before) ps
