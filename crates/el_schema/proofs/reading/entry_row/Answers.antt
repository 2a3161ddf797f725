use Rattle.std.proofs.Common.{◌∙◌, sym}
use Rattle.el_row_formats.specs.declared.table.Table.TheVariants as table
use Rattle.el_row_formats.specs.RowBytes.{entry_row_bytes, FitsEntryRow}
use Rattle.el_rows.specs.Transaction.{with_edits}
use Rattle.el_schema.specs.Rows.{entry_fields}
use Rattle.el_schema.proofs.Rows.{read_at}
use Rattle.el_schema.proofs.reading.entry_row.Goals as goal

pub returns-clause-row : goal.returns-clause-row
returns-clause-row g c tb told same =
    let shown = with_edits {G = g.R.Rows} c.args.t.now in
    read_at entry_row_bytes entry_fields FitsEntryRow tb.entries (shown table.Entries) c.args.n c.read.result c.get.new.buf (same.each table.Entries) same.fit.entries c.requires.below
    (c.in_ok-get.ensures.row told) c.read.ensures.only

pub returns-clause-only : goal.returns-clause-only
returns-clause-only g c told x fits is = c.read.ensures.only x fits (is ∙ sym (c.in_ok-get.ensures.row told))
