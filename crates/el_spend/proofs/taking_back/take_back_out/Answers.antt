use Rattle.std.proofs.Common.{◌≡◌, ◌+◌, ◌-◌, ◌≤◌, Some, ℕ, length, option_map, slice_get, get_or, ap, ap₂, sym, subst, ◌∙◌, arith}
use Rattle.std.proofs.lemmas.List.{length-take-le}
use Rattle.el_rows.specs.Transaction.{with_edits, reads_in}
use Rattle.el_row_formats.specs.declared.out_row.OutRow.{OutRow}
use Rattle.el_row_formats.specs.declared.table.Table.TheVariants as table
use Rattle.el_tables.specs.Disconnecting.{but_last, last, take_back_output}
use Rattle.el_tables.specs.Edits.{no_out}
use Rattle.el_tables.specs.Lists.{Lists, ListedOut, txid_at}
use Rattle.el_tables.specs.Tables.{tables_of}
use Rattle.el_schema.specs.Rows.{Hold, out_fields}
use Rattle.el_schema.proofs.Held.{but_last_at, last_at}
use Rattle.el_schema.proofs.Answered.{of_value}
use Rattle.el_spend.specs.Outputs.{BalancesFit, rows_to_find}
use Rattle.el_spend.specs.within.Parts.{unburied_lists}
use Rattle.el_schema.proofs.Rows.{found_at, count_outs, on_success}
use Rattle.el_spend.proofs.Steps.{last_gone, taken_back}
use Rattle.el_spend.proofs.taking_back.take_back_out.Goals as goal

pub returns-clause-lists : goal.returns-clause-lists
returns-clause-lists g c counts bs l told hold some fit =
    let shown = with_edits {G = g.R.Rows} c.args.t.now in
    let middle = with_edits {G = g.R.Rows} c.drop_output.new.t in
    let n = c.count-count.result - 1 in
    let row = c.in_ok-row.row in
    let tb = tables_of counts bs l in
    let long : length (shown table.Outs) ≡ n + 1 = omega (arith, c.count-count.ensures.count, c.if-count-eq0.false) in
    let many = count_outs shown shown tb hold in
    let listed : length l.outs ≡ n + 1 = omega (arith, long, many) in
    let last_out = get_or l.outs n no_out in
    let is = of_value (λ (r : OutRow). Some r ≡ option_map out_fields (slice_get l.outs n)) _ c.out_row.result c.map_err.result row c.map_err.ensures.cases c.in_ok-row.ensures.variant c.in_ok-row.was
    (c.out_row.ensures.row tb told hold) in
    let fields : row ≡ out_fields last_out = found_at out_fields l.outs n no_out row is in
    let tx : row.tx ≡ last_out.tx = ap (λ (r : OutRow). r.tx) fields in
    let named : last l.outs ≡ Some last_out = last_at l.outs n no_out listed in
    let before = subst (λ T. Hold counts bs l T) (sym c.out_row.ensures.read.tables) hold in
    let gone = last_gone counts bs l middle last_out named (c.in_ok-drop_output.ensures.dropped tb last_out told before fields) in
    let left : Lists = record l { outs = but_last l.outs } in
    let number : n ≡ length (but_last l.outs) = sym (ap length (but_last_at l.outs n listed) ∙ length-take-le n l.outs (omega (arith, listed))) in
    let whole : unburied_lists row.tx n left ≡ take_back_output l = ap₂ (λ (a b : ℕ). unburied_lists a b left) tx number ∙ taken_back l last_out named in
    let fits : BalancesFit (unburied_lists row.tx n left).outs = subst (λ (m : Lists). BalancesFit m.outs) (sym whole) fit in
    on_success _ _ c.unbury.result (c.unbury.ensures.lists counts bs left told gone some fits)
    (λ enc. subst (λ (m : Lists). Hold counts bs m (with_edits {G = g.R.Rows} c.unbury.new.t)) whole enc)

pub returns-clause-rows : goal.returns-clause-rows
returns-clause-rows g c counts bs l x told hold some is_last =
    let shown = with_edits {G = g.R.Rows} c.args.t.now in
    let middle = with_edits {G = g.R.Rows} c.drop_output.new.t in
    let n = c.count-count.result - 1 in
    let row = c.in_ok-row.row in
    let tb = tables_of counts bs l in
    let long : length (shown table.Outs) ≡ n + 1 = omega (arith, c.count-count.ensures.count, c.if-count-eq0.false) in
    let many = count_outs shown shown tb hold in
    let listed : length l.outs ≡ n + 1 = omega (arith, long, many) in
    let last_out = get_or l.outs n no_out in
    let is = of_value (λ (r : OutRow). Some r ≡ option_map out_fields (slice_get l.outs n)) _ c.out_row.result c.map_err.result row c.map_err.ensures.cases c.in_ok-row.ensures.variant c.in_ok-row.was
    (c.out_row.ensures.row tb told hold) in
    let fields : row ≡ out_fields last_out = found_at out_fields l.outs n no_out row is in
    let tx : row.tx ≡ last_out.tx = ap (λ (r : OutRow). r.tx) fields in
    let named : last l.outs ≡ Some last_out = last_at l.outs n no_out listed in
    let before = subst (λ T. Hold counts bs l T) (sym c.out_row.ensures.read.tables) hold in
    let gone = last_gone counts bs l middle last_out named (c.in_ok-drop_output.ensures.dropped tb last_out told before fields) in
    let left : Lists = record l { outs = but_last l.outs } in
    let both : Some last_out ≡ Some x = sym named ∙ is_last in
    let same : last_out ≡ x = cc in
    let by : row.tx ≡ x.tx = tx ∙ ap (λ (y : ListedOut). y.tx) same in
    let bound = subst (λ (k : ℕ). (reads_in {G = g.R.Rows} c.unbury.new.t) ≤ (reads_in {G = g.R.Rows} c.drop_output.new.t) + rows_to_find counts.txs (txid_at k l.txs) l + 2) by (c.unbury.ensures.rows counts bs left told gone some) in
    omega (arith, bound, c.drop_output.ensures.rows, c.out_row.ensures.rows)
