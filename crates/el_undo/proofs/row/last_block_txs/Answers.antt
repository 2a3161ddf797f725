use Rattle.el_rows.specs.Transaction.{with_edits}
use Rattle.el_tables.specs.Tables.{tables_of}
use Rattle.el_undo.proofs.LastRows.{last_block_is}
use Rattle.el_undo.proofs.row.last_block_txs.Goals as goal

pub returns-clause-txs : goal.returns-clause-txs
returns-clause-txs g c counts bs b l told hold there =
    last_block_is counts bs l (with_edits {G = g.R.Rows} c.args.t.now) hold c.args.last b c.in_ok-row.row c.requires.last (c.in_ok-row.ensures.row (tables_of counts bs l) told hold) there
