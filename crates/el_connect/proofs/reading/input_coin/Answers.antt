use Rattle.std.proofs.Common.{◌≡◌, ◌≤◌, Some, option_map, slice_get, arith, ap, length, sym}
use Rattle.std.proofs.lemmas.List.{get_or_past}
use Rattle.el_rows.specs.Transaction.{with_edits}
use Rattle.el_row_formats.specs.declared.in_row.InRow.{InRow}
use Rattle.el_tables.specs.Tables.{tables_of}
use Rattle.el_schema.specs.Rows.{in_fields}
use Rattle.el_schema.proofs.Answered.{of_value}
use Rattle.el_schema.proofs.Rows.{found_at}
use Rattle.el_connect.proofs.reading.input_coin.Goals as goal
use Rattle.el_schema.proofs.Held.{count_ins}

pub returns-then-n-count-clause-coin : goal.returns-then-n-count-clause-coin
returns-then-n-count-clause-coin g c counts bs l told hold =
    let many = count_ins counts bs l (with_edits {G = g.R.Rows} c.args.t.now) hold in
    let le : length l.ins ≤ c.args.n = omega (arith, many, c.count.ensures.count, c.if-n-count.true) in
    sym (get_or_past l.ins c.args.n 0 le)

pub returns-clause-coin : goal.returns-clause-coin
returns-clause-coin g c counts bs l told hold =
    let found = of_value (λ (r : InRow). Some r ≡ option_map in_fields (slice_get l.ins c.args.n)) _ c.in_row.result c.map_err.result c.in_ok-row.row c.map_err.ensures.cases c.in_ok-row.ensures.variant
    c.in_ok-row.was (c.in_row.ensures.row (tables_of counts bs l) told hold) in
    ap (λ (x : InRow). x.out) (found_at in_fields l.ins c.args.n 0 c.in_ok-row.row found)
