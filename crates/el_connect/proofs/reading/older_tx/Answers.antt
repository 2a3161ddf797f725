use Rattle.std.proofs.Common.{◌≡◌, Some, option_map, slice_get}
use Rattle.el_row_formats.specs.declared.tx_row.TxRow.{TxRow}
use Rattle.el_tables.specs.Tables.{tables_of, rows_from, tx_row}
use Rattle.el_schema.specs.Rows.{tx_fields}
use Rattle.el_schema.proofs.Answered.{of_value}
use Rattle.el_connect.proofs.RowLemmas.{older_read}
use Rattle.el_connect.proofs.reading.older_tx.Goals as goal

pub returns-clause-older : goal.returns-clause-older
returns-clause-older g c counts bs l told hold =
    older_read counts.txs l.txs c.args.n c.in_ok-row.row
    (of_value (λ (r : TxRow). Some r ≡ option_map tx_fields (slice_get (rows_from (tx_row counts.txs l.txs) 0 l.txs) c.args.n)) _ c.tx_row.result c.map_err.result c.in_ok-row.row c.map_err.ensures.cases c.in_ok-row.ensures.variant
    c.in_ok-row.was (c.tx_row.ensures.row (tables_of counts bs l) told hold))
