use Rattle.std.proofs.Common.{◌≤◌, length, arith}
use Rattle.el_rows.specs.Transaction.{with_edits}
use Rattle.el_tables.specs.Tables.{tables_of}
use Rattle.el_schema.proofs.Held.{count_txs}
use Rattle.el_queries.proofs.Outpoints.{entry_told, past_txs}
use Rattle.el_queries.proofs.outputs.entry_at.Goals as goal

pub returns-then-n-count-clause-entry : goal.returns-then-n-count-clause-entry
returns-then-n-count-clause-entry g c counts bs l told hold =
    let many = count_txs counts bs l (with_edits {G = g.R.Rows} c.args.t.now) hold in
    let le : length l.txs ≤ c.args.n = omega (arith, many, c.count.ensures.count, c.if-n-count.true) in
    past_txs c.args.n l.txs le

pub returns-clause-entry : goal.returns-clause-entry
returns-clause-entry g c counts bs l told hold =
    entry_told counts.txs c.args.n l.txs c.in_ok-row.row (c.in_ok-row.ensures.row (tables_of counts bs l) told hold)
