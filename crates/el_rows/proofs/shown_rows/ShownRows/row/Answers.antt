use Rattle.std.proofs.Common.{◌≡◌, ◌≤◌, ◌-◌, ℕ, List, length, slice_get, ap, sym, ◌∙◌, arith}
use Rattle.el_rows.proofs.ShownLemmas.{rows_long, row_added}
use Rattle.el_rows.proofs.shown_rows.ShownRows.row.Goals as goal

pub overflow_add-result : goal.overflow_add-result
overflow_add-result c = let here = c.self.inside in
    omega (arith, c.requires, c.self.invariant.1, rows_long here.below.items here.base here.added, ap length c.self.view_is, here.below.ok.0)

pub returns : goal.returns
returns c =
    let here = c.self.inside in
    let long : c.len-2.result ≡ length here.below.items = omega (arith, here.below.ok.0, c.len-2.ensures) in
    let past : length here.below.items ≤ c.args.i = omega (arith, here.below.ok.0, c.len.ensures, c.if-i-len.false) in
    ap (λ (l : List ℕ). slice_get l c.args.i) (sym c.self.view_is)
    ∙ row_added here.below.items here.base here.added c.args.i (c.args.i - c.len-2.result) (omega (arith, long, past))
    (omega (arith, c.requires, long, past, rows_long here.below.items here.base here.added, ap length c.self.view_is))
