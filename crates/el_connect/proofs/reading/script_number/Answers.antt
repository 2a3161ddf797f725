use Rattle.std.proofs.Common.{◌≡◌, ◌≤◌, Some, option_map, slice_get, arith, ap, length, sym, ◌∙◌}
use Rattle.std.proofs.lemmas.List.{get_or_past}
use Rattle.el_rows.specs.Transaction.{with_edits}
use Rattle.el_tables.specs.Edits.{no_out}
use Rattle.el_tables.specs.Lists.{ListedOut}
use Rattle.el_tables.proofs.OutEdits.{script_is}
use Rattle.el_row_formats.specs.declared.out_row.OutRow.{OutRow}
use Rattle.el_tables.specs.Tables.{tables_of}
use Rattle.el_schema.specs.Rows.{out_fields}
use Rattle.el_schema.proofs.Answered.{of_value}
use Rattle.el_connect.proofs.RowLemmas.{script_read}
use Rattle.el_connect.proofs.reading.script_number.Goals as goal
use Rattle.el_schema.proofs.Held.{count_outs}

pub returns-then-k-count-clause-script : goal.returns-then-k-count-clause-script
returns-then-k-count-clause-script g c counts bs l told hold =
    let many = count_outs counts bs l (with_edits {G = g.R.Rows} c.args.t.now) hold in
    let le : length l.outs ≤ c.args.k = omega (arith, many, c.count.ensures.count, c.if-k-count.true) in
    sym (script_is c.args.k l.outs ∙ ap (λ (x : ListedOut). x.script) (get_or_past l.outs c.args.k no_out le))

pub returns-clause-script : goal.returns-clause-script
returns-clause-script g c counts bs l told hold =
    script_read l.outs c.args.k c.in_ok-row.row
    (of_value (λ (r : OutRow). Some r ≡ option_map out_fields (slice_get l.outs c.args.k)) _ c.out_row.result c.map_err.result c.in_ok-row.row c.map_err.ensures.cases c.in_ok-row.ensures.variant
    c.in_ok-row.was (c.out_row.ensures.row (tables_of counts bs l) told hold))
