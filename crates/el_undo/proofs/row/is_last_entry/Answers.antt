use Rattle.std.proofs.Common.{◌≡◌, ◌+◌, ◌-◌, Some, option_map, slice_get, length, arith}
use Rattle.el_rows.specs.Transaction.{with_edits}
use Rattle.el_row_formats.specs.declared.table.Table.TheVariants as table
use Rattle.el_row_formats.specs.declared.entry_row.EntryRow.{EntryRow}
use Rattle.el_tables.specs.Tables.{tables_of, rows_from, entry_row}
use Rattle.el_schema.specs.Rows.{entry_fields}
use Rattle.el_schema.proofs.Answered.{of_value}
use Rattle.el_undo.proofs.LastRows.{no_last_entry, last_entry_is}
use Rattle.el_undo.proofs.row.is_last_entry.Goals as goal

pub returns-then-count-eq0-clause-is : goal.returns-then-count-eq0-clause-is
returns-then-count-eq0-clause-is g c counts bs l told hold =
    let shown = with_edits {G = g.R.Rows} c.args.t.now in
    let none : length (shown table.Entries) ≡ 0 = omega (arith, c.count-count.ensures.count, c.if-count-eq0.true) in
    no_last_entry counts bs l shown hold c.args.tx none

pub returns-clause-is : goal.returns-clause-is
returns-clause-is g c counts bs l told hold =
    let shown = with_edits {G = g.R.Rows} c.args.t.now in
    let n = c.count-count.result - 1 in
    let long : length (shown table.Entries) ≡ n + 1 = omega (arith, c.count-count.ensures.count, c.if-count-eq0.false) in
    last_entry_is counts bs l shown hold c.args.tx n c.in_ok-row.row long
    (of_value (λ (r : EntryRow). Some r ≡ option_map entry_fields (slice_get (rows_from (entry_row l.entries) 0 l.entries) n)) _ c.entry_row.result c.map_err.result c.in_ok-row.row c.map_err.ensures.cases c.in_ok-row.ensures.variant
    c.in_ok-row.was (c.entry_row.ensures.row (tables_of counts bs l) told hold))
