use Rattle.std.proofs.Common.{◌≡◌, ◌-◌, length, ap, ◌∙◌, arith}
use Rattle.std.proofs.lemmas.List.{length-map}
use Rattle.el_row_formats.specs.declared.table.Table.TheVariants as table
use Rattle.el_row_formats.specs.RowBytes.{block_row_bytes}
use Rattle.el_rows.specs.Transaction.{with_edits}
use Rattle.el_tables.specs.ChainLists.{ListedBlock}
use Rattle.el_tables.specs.Tables.{tables_of}
use Rattle.el_schema.specs.Rows.{block_fields}
use Rattle.el_queries.proofs.Walks.{last_read}
use Rattle.el_queries.proofs.touching.first_tx.Goals as goal

pub returns-clause-first : goal.returns-clause-first
returns-clause-first g c counts bs l told hold =
    let shown = with_edits {G = g.R.Rows} c.args.t.now in
    let count = c.count-count.result in
    let some = c.if-count-eq0.false in
    let many = c.count-count.ensures.count in
    let long : length (shown table.Blocks) ≡ length bs = ap length (hold.each table.Blocks) ∙ length-map bs (λ (b : ListedBlock). block_row_bytes (block_fields b)) in
    last_read bs (count - 1) c.in_ok-row.row (omega (arith, some, many, long)) (c.in_ok-row.ensures.row (tables_of counts bs l) told hold)
