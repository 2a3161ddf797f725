use Rattle.std.proofs.Common.{◌≡◌, ◌<◌, List, drop}
use Rattle.el_rows.specs.Transaction.{with_edits}
use Rattle.el_rows.proofs.TransactionLemmas.{EditedSoFar}
use Rattle.el_row_formats.specs.declared.table.Table.TheVariants as table
use Rattle.el_tables.specs.ChainLists.{ListedBlock}
use Rattle.el_tables.specs.Connecting.{spend_all}
use Rattle.el_tables.specs.Lists.{Lists, unspent_sum}
use Rattle.el_tables.specs.Tables.{HeadCounts}
use Rattle.el_schema.specs.Rows.{Hold}
use Rattle.el_connect.specs.within.Full.{TakingOn}
use Rattle.el_connect.proofs.coins.take_coins.Given as goal

-- the inputs that are left complete the whole
abbrev pub invariant-loop-input : goal.invariant-loop-input
invariant-loop-input g l =
    let shown = with_edits {G = g.R.Rows} l.fn.t in
    record {
      taken : (counts : HeadCounts) (bs : List ListedBlock) (start before : Lists) → g.R.Rows.tells → Hold counts bs start shown → 0 < counts.txs → start.txs ≡ before.txs → start.outs ≡ before.outs
          → l.fn.sum ≡ unspent_sum before.outs
          → TakingOn counts bs l.by start before (with_edits {G = g.R.Rows} l.t) l.left l.fn.sum l.input (λ real. spend_all l.by 0 l.inputs before ≡ spend_all l.by l.input (drop l.input l.inputs) real);
      blocks : with_edits {G = g.R.Rows} l.t table.Blocks ≡ shown table.Blocks;
      edits : EditedSoFar {G = g.R.Rows} l.fn.t l.t;
    }
