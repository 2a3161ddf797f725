use Rattle.std.proofs.Common.{◌≡◌, ◌≤◌, ◌+◌, ◌-◌, max, map, take, drop}
use Rattle.el_rows.specs.Transaction.{with_edits, reads_in}
use Rattle.el_rows.proofs.TransactionLemmas.{SoFar}
use Rattle.el_tables.specs.Tables as typed
use Rattle.el_schema.specs.Rows.{Encode}
use Rattle.el_queries.proofs.blocks.txids_between.Given as goal

abbrev pub invariant-loop-n : goal.invariant-loop-n
invariant-loop-n g l =
    let shown = with_edits {G = g.R.Rows} l.fn.t in
    record {
      read : SoFar {G = g.R.Rows} l.fn.t l.t;
      rows : reads_in {G = g.R.Rows} l.t + l.first ≤ reads_in {G = g.R.Rows} l.fn.t + l.n;
      within : l.n ≤ max l.first l.there;
      txids : (tb : typed.Tables) → g.R.Rows.tells → Encode shown tb
          → l.found.items ≡ map (λ (r : typed.TxRow). r.listed.txid) (take (l.n - l.first) (drop l.first tb.txs));
    }
