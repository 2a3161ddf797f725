use Rattle.std.proofs.Common.{◌∙◌, ◌++◌, List, sym, ap, arith}
use Rattle.el_chain.specs.declared.entry.Entry.{Entry}
use Rattle.el_rows.specs.Transaction.{with_edits}
use Rattle.el_tables.specs.Tables.{tables_of}
use Rattle.el_schema.proofs.Held.{count_txs}
use Rattle.el_queries.proofs.TxRows.{shown_past, shown_at}
use Rattle.el_queries.proofs.histories.push_entry.Goals as goal

pub returns-then-tx-count-clause-pushed : goal.returns-then-tx-count-clause-pushed
returns-then-tx-count-clause-pushed g c counts bs l told hold =
    let many = count_txs counts bs l (with_edits {G = g.R.Rows} c.args.t.now) hold in
    shown_past c.args.found.now.items l.txs c.args.tx (omega (arith, many, c.count.ensures.count, c.if-tx-count.true))

pub returns-clause-pushed : goal.returns-clause-pushed
returns-clause-pushed g c counts bs l told hold =
    let shown = shown_at counts.txs l.txs c.args.tx c.in_ok-row.row (c.in_ok-row.ensures.row (tables_of counts bs l) told hold) in
    c.in_ok-push.ensures.items ∙ ap (λ (es : List Entry). c.args.found.now.items ++ es) (sym shown)
