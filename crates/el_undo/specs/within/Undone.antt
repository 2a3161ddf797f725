-- What has to fit where transactions are taken back step by step.
use Rattle.std.specs.Prelude.{◌≡◌, ◌<◌, ◌≤◌, ◌++◌, ◌∷◌, [], ℕ, Some}
use Rattle.el_chain.specs.Chains.{Chain}
use Rattle.el_chain.specs.Faults.{IsGood}
use Rattle.el_chain.specs.declared.placed.Placed.{Placed}
use Rattle.el_tables.specs.ChainLists.{lists, listed_blocks}
use Rattle.el_tables.specs.Disconnecting.{last, times, take_back_output, unspend, disconnect_tx}
use Rattle.el_tables.specs.Fits.{IsNumbered}
use Rattle.el_tables.specs.Lists.{ListedTx, Lists}
use Rattle.el_row_formats.specs.Tables as held
use Rattle.el_tables.specs.Tables.{in_both}
use Rattle.el_schema.specs.Rows.{Hold}
use Rattle.el_spend.specs.Outputs.{BalancesFit}

-- the balances fit 64 bits after each of so many steps
abbrev pub FitAfter : ℕ → (Lists → Lists) → Lists → Type 0
FitAfter count step l = (k : ℕ) → k ≤ count → BalancesFit (times k step l).outs

-- The last transaction is this one, and can be taken back step by step: balances fit on the way, and script
-- hashes are numbered in the order of their first entries.
pub record CanUndo (l : Lists) : Type 0 where
  pub tx : ListedTx
  pub is_last : last l.txs ≡ Some tx
  pub outputs : FitAfter tx.outs take_back_output l
  pub inputs : FitAfter tx.ins unspend (times tx.outs take_back_output l)
  pub numbered : IsNumbered l.scripts l.entries

-- each of the last transactions, so many, can be taken back once those after it are
abbrev pub CanUndoAll : ℕ → Lists → Type 0
CanUndoAll count l = (k : ℕ) → k < count → CanUndo (times k disconnect_tx l)

-- The rows hold the blocks of a chain with one more, and the lists of the chain without it, with so many
-- heads.
pub record LacksTxs (heads : ℕ) (rows : held.Tables) (chain : Chain) (b : Placed) : Type 0 where
  pub some : 0 < heads
  pub good : IsGood chain
  pub hold : Hold (in_both heads) (listed_blocks (chain ++ b ∷ [])) (lists chain) rows
