use Rattle.std.proofs.Common.{◌≡◌, Some, option_map, slice_get, ap}
use Rattle.el_row_formats.specs.declared.out_row.OutRow.{OutRow}
use Rattle.el_tables.specs.Tables.{tables_of}
use Rattle.el_schema.specs.Rows.{out_fields}
use Rattle.el_schema.proofs.Answered.{of_value}
use Rattle.el_tables.specs.Edits.{no_out}
use Rattle.el_schema.proofs.Rows.{found_at}
use Rattle.el_connect.proofs.reading.output_value.Goals as goal

pub returns-clause-value : goal.returns-clause-value
returns-clause-value g c counts bs l told hold =
    let found = of_value (λ (r : OutRow). Some r ≡ option_map out_fields (slice_get l.outs c.args.k)) _ c.out_row.result c.map_err.result c.in_ok-row.row c.map_err.ensures.cases c.in_ok-row.ensures.variant
    c.in_ok-row.was (c.out_row.ensures.row (tables_of counts bs l) told hold) in
    ap (λ (x : OutRow). x.value) (found_at out_fields l.outs c.args.k no_out c.in_ok-row.row found)
