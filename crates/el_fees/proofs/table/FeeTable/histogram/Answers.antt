use Rattle.std.proofs.Common.{◌∙◌, ap₂, List, ℕ, filter, nat_lt, zip}
use Rattle.el_fees.proofs.Balance.{rows_are}
use Rattle.el_fees.proofs.table.FeeTable.histogram.Goals as goal

pub returns : goal.returns
returns c = λ entries chain kept is stands.
    c.in_ok-rows.ensures
    ∙ ap₂ (λ (edges sizes : List ℕ). filter (λ (row : ℕ × ℕ). nat_lt 0 row.1) (zip edges sizes)) c.as_slice.ensures c.as_slice-2.ensures
    ∙ rows_are entries chain kept c.self.inside.sizes (c.self.view_is ∙ is) stands.are
