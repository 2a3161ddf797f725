use Rattle.std.proofs.Common.{◌≡◌, ◌≤◌, ◌+◌, map, take, length}
use Rattle.el_rows.specs.Transaction.{with_edits, reads_in}
use Rattle.el_rows.proofs.TransactionLemmas.{SoFar}
use Rattle.el_tables.specs.Tables as typed
use Rattle.el_schema.specs.Rows.{Encode}
use Rattle.el_queries.proofs.Heights.{hash_in}
use Rattle.el_queries.proofs.blocks.hashes.Given as goal

abbrev pub invariant-loop-h : goal.invariant-loop-h
invariant-loop-h g l =
    let shown = with_edits {G = g.R.Rows} l.fn.t in
    record {
      read : SoFar {G = g.R.Rows} l.fn.t l.t;
      rows : reads_in {G = g.R.Rows} l.t ≤ reads_in {G = g.R.Rows} l.fn.t + l.h;
      len : length l.found.items ≡ l.h;
      hashes : (tb : typed.Tables) → g.R.Rows.tells → Encode shown tb → l.found.items ≡ map hash_in (take l.h tb.blocks);
    }
