use Rattle.std.proofs.Common.{arith, sym, subst}
use Rattle.el_rows.specs.Transaction.{with_edits}
use Rattle.el_tables.specs.Tables.{tables_of}
use Rattle.el_schema.specs.Rows.{Hold}
use Rattle.el_schema.proofs.Held.{count_txs, count_scripts}
use Rattle.el_queries.proofs.Outpoints.{coin_by_rows}
use Rattle.el_queries.proofs.outputs.coin_at.Goals.{then-row-count-via-then-row-count, then-row-count-via-else-row-count+then-row-count-2}
use Rattle.el_queries.proofs.outputs.coin_at.Goals as goal

pub returns-then-row-count-clause-coin : goal.returns-then-row-count-clause-coin
returns-then-row-count-clause-coin g c counts bs l told hold script_there tx_there =
    let shown = with_edits {G = g.R.Rows} c.args.t.now in
    let txs = count_txs counts bs l shown hold in
    let scripts = count_scripts counts bs l shown hold in
    elim c.then-row-count.branch [
      | then-row-count-via-then-row-count w ↦ absurd (omega (arith, script_there, scripts, c.count.ensures.count, w.if-row-count.true))
      | then-row-count-via-else-row-count+then-row-count-2 w ↦ absurd (omega (arith, tx_there, txs, w.count-else-row-count.ensures.count, w.if-row-count-2.true))
    ]

pub returns-clause-coin : goal.returns-clause-coin
returns-clause-coin g c counts bs l told hold script_there tx_there =
    let after = subst (λ T. Hold counts bs l T) (sym c.script_row.ensures.read.tables) hold in
    coin_by_rows counts.txs counts.scripts c.args.o.now l c.args.row.now c.in_ok-tx.tx c.in_ok-script.script
    (c.in_ok-tx.ensures.row (tables_of counts bs l) told after) (c.in_ok-script.ensures.row (tables_of counts bs l) told hold)
