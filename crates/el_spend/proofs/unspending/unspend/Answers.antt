use Rattle.std.proofs.Common.{◌≡◌, ◌+◌, ◌-◌, Option, Some, ℕ, length, option_map, slice_get, get_or, ap, sym, subst, ◌∙◌, arith}
use Rattle.el_row_formats.specs.Tables.{Tables}
use Rattle.el_rows.specs.Transaction.{with_edits}
use Rattle.el_row_formats.specs.declared.in_row.InRow.{InRow}
use Rattle.el_row_formats.specs.declared.table.Table.TheVariants as table
use Rattle.el_tables.specs.Disconnecting.{give_back, but_last, last}
use Rattle.el_tables.specs.Tables.{tables_of}
use Rattle.el_schema.specs.Rows.{Encode, Hold, in_fields}
use Rattle.el_schema.proofs.Held.{last_at}
use Rattle.el_schema.proofs.Answered.{of_value}
use Rattle.el_spend.specs.Outputs.{BalancesFit}
use Rattle.el_spend.specs.within.Parts.{spent_given_back}
use Rattle.el_schema.proofs.Rows.{found_at, count_ins}
use Rattle.el_spend.proofs.Rows.{in_less}
use Rattle.el_spend.proofs.unspending.unspend.Goals as goal

pub returns-clause-lists : goal.returns-clause-lists
returns-clause-lists g c counts bs l told hold fit =
    let shown = with_edits {G = g.R.Rows} c.args.t.now in
    let middle = with_edits {G = g.R.Rows} c.give_back_spent.new.t in
    let after = with_edits {G = g.R.Rows} c.shrink.new.self in
    let n = c.count-count.result - 1 in
    let row = c.in_ok-row.row in
    let tb = tables_of counts bs l in
    let long : length (shown table.Ins) ≡ n + 1 = omega (arith, c.count-count.ensures.count, c.if-count-eq0.false) in
    let many = count_ins shown shown tb hold in
    let is = of_value (λ (r : InRow). Some r ≡ option_map in_fields (slice_get l.ins n)) _ c.in_row.result c.map_err.result row c.map_err.ensures.cases c.in_ok-row.ensures.variant c.in_ok-row.was
    (c.in_row.ensures.row tb told hold) in
    let out : row.out ≡ get_or l.ins n 0 = ap (λ (r : InRow). r.out) (found_at in_fields l.ins n 0 row is) in
    let named : last l.ins ≡ Some row.out = last_at l.ins n 0 (omega (arith, long, many)) ∙ ap Some (sym out) in
    let before = subst (λ T. Hold counts bs l T) (sym c.in_row.ensures.read.tables) hold in
    let given = c.in_ok-give_back_spent.ensures.lists counts bs l told before (subst (λ (r : Option ℕ). BalancesFit (give_back r l.outs)) named fit) in
    let ins : length (middle table.Ins) ≡ n + 1 = ap length (c.give_back_spent.ensures.others table.Ins (λ q. cc) (λ q. cc)) ∙ ap (λ (T : Tables). length (T table.Ins)) c.in_row.ensures.read.tables ∙ long in
    let enc = in_less middle after (tables_of counts bs (spent_given_back row.out l)) given n ins c.shrink.ensures.shrunk in
    subst (λ (r : Option ℕ). Encode after (tables_of counts bs (record l { outs = give_back r l.outs; ins = but_last l.ins }))) (sym named) enc
