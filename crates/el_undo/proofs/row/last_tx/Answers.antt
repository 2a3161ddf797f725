use Rattle.std.proofs.Common.{◌≡◌, ◌+◌, ◌-◌, length, arith}
use Rattle.el_rows.specs.Transaction.{with_edits}
use Rattle.el_row_formats.specs.declared.table.Table.TheVariants as table
use Rattle.el_tables.specs.Tables.{tables_of}
use Rattle.el_undo.proofs.LastRows.{no_last_tx, last_tx_is}
use Rattle.el_undo.proofs.row.last_tx.Goals as goal

pub returns-then-count-eq0-clause-last : goal.returns-then-count-eq0-clause-last
returns-then-count-eq0-clause-last g c counts bs l told hold =
    let shown = with_edits {G = g.R.Rows} c.args.t.now in
    let none : length (shown table.Txs) ≡ 0 = omega (arith, c.count-count.ensures.count, c.if-count-eq0.true) in
    no_last_tx counts bs l shown hold none

pub returns-clause-last : goal.returns-clause-last
returns-clause-last g c counts bs l told hold =
    let shown = with_edits {G = g.R.Rows} c.args.t.now in
    let n = c.count-count.result - 1 in
    let long : length (shown table.Txs) ≡ n + 1 = omega (arith, c.count-count.ensures.count, c.if-count-eq0.false) in
    last_tx_is counts bs l shown hold n c.in_ok-row.row long (c.in_ok-row.ensures.row (tables_of counts bs l) told hold)
