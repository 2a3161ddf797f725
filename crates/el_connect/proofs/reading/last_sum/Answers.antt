use Rattle.std.proofs.Common.{◌≡◌, ◌-◌, ◌+◌, ◌++◌, ◌∷◌, [], Some, option_map, slice_get, arith, ap, length, ◌∙◌}
use Rattle.std.proofs.lemmas.List.{length-map}
use Rattle.el_row_formats.specs.RowBytes.{block_row_bytes}
use Rattle.el_row_formats.specs.declared.block_row.BlockRow.{BlockRow}
use Rattle.el_row_formats.specs.declared.table.Table.TheVariants as table
use Rattle.el_rows.specs.Transaction.{with_edits}
use Rattle.el_tables.specs.ChainLists.{ListedBlock}
use Rattle.el_tables.specs.Tables.{tables_of}
use Rattle.el_schema.specs.Rows.{block_fields}
use Rattle.el_schema.proofs.Answered.{of_value}
use Rattle.el_connect.proofs.RowLemmas.{sum_read}
use Rattle.el_connect.proofs.reading.last_sum.Goals as goal

pub returns-clause-sum : goal.returns-clause-sum
returns-clause-sum g c counts bs b l told hold =
    let shown = with_edits {G = g.R.Rows} c.args.t.now in
    let n = c.count-count.result - 1 in
    let many : length (shown table.Blocks) ≡ length (bs ++ b ∷ []) =
    ap length (hold.each table.Blocks) ∙ length-map (bs ++ b ∷ []) (λ (x : ListedBlock). block_row_bytes (block_fields x)) in
    let long : length (bs ++ b ∷ []) ≡ n + 1 = omega (arith, many, c.count-count.ensures.count, c.if-count-eq0.false) in
    sum_read bs b n c.in_ok-row.row long
    (of_value (λ (r : BlockRow). Some r ≡ option_map block_fields (slice_get (bs ++ b ∷ []) n)) _ c.block_row.result c.map_err.result c.in_ok-row.row c.map_err.ensures.cases c.in_ok-row.ensures.variant
    c.in_ok-row.was (c.block_row.ensures.row (tables_of counts (bs ++ b ∷ []) l) told hold))
