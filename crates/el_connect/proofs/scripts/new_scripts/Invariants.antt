use Rattle.std.proofs.Common.{◌≡◌, ◌≤◌, ◌<◌, ◌+◌, List, length, take}
use Rattle.el_chain.specs.RowCounts.{add_scripts}
use Rattle.el_rows.specs.Transaction.{with_edits}
use Rattle.el_rows.proofs.TransactionLemmas.{SoFar}
use Rattle.el_tables.specs.ChainLists.{ListedBlock}
use Rattle.el_tables.specs.Fits.{Fits}
use Rattle.el_tables.specs.Lists.{Lists}
use Rattle.el_tables.specs.Tables.{HeadCounts}
use Rattle.el_schema.specs.Rows.{Hold}
use Rattle.el_connect.specs.within.Parts.{output_scripts}
use Rattle.el_connect.proofs.scripts.new_scripts.Given as goal

-- those of the first outputs are counted
abbrev pub invariant-loop-index : goal.invariant-loop-index
invariant-loop-index g l = record {
  counted : (counts : HeadCounts) (bs : List ListedBlock) (x : Lists) → g.R.Rows.tells → Hold counts bs x (with_edits {G = g.R.Rows} l.fn.t) → Fits x → 0 < counts.scripts
      → length x.scripts + l.new ≡ length (add_scripts x.scripts (output_scripts (take l.index l.outputs)));
  few : l.new ≤ l.index;
  read : SoFar {G = g.R.Rows} l.fn.t l.t;
}
