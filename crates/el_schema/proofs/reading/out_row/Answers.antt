use Rattle.std.proofs.Common.{◌∙◌, sym}
use Rattle.el_row_formats.specs.declared.table.Table.TheVariants as table
use Rattle.el_row_formats.specs.RowBytes.{out_row_bytes, FitsOutRow}
use Rattle.el_rows.specs.Transaction.{with_edits}
use Rattle.el_schema.specs.Rows.{out_fields}
use Rattle.el_schema.proofs.Rows.{read_at}
use Rattle.el_schema.proofs.reading.out_row.Goals as goal

pub returns-clause-row : goal.returns-clause-row
returns-clause-row g c tb told same =
    let shown = with_edits {G = g.R.Rows} c.args.t.now in
    read_at out_row_bytes out_fields FitsOutRow tb.outs (shown table.Outs) c.args.n c.read.result c.get.new.buf (same.each table.Outs) same.fit.outs c.requires.below
    (c.in_ok-get.ensures.row told) c.read.ensures.only

pub returns-clause-only : goal.returns-clause-only
returns-clause-only g c told x fits is = c.read.ensures.only x fits (is ∙ sym (c.in_ok-get.ensures.row told))
