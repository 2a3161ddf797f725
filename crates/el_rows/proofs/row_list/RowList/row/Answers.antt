use Rattle.std.proofs.Common.{◌≤◌, ◌+◌, ◌*◌, ◌-◌, length, arith, ◌∙◌, ap, take, drop, ℕ, List}
use Rattle.el_rows.proofs.RowListLemmas.{is_within, row_is}
use Rattle.el_rows.proofs.row_list.RowList.row.Goals as goal
use Rattle.el_rows.proofs.row_list.RowList.row.Goals.{After-self}

within : (c : After-self) → c.args.i * c.self.inside.size + c.self.inside.size ≤ length c.self.inside.bytes.items
within c = is_within c.args.self.now c.self.inside.size c.self.inside.bytes.items c.self.inside.count c.self.view_is c.args.i c.self.invariant c.requires

pub overflow_mul-at : goal.overflow_mul-at
overflow_mul-at c = omega (arith, within c)

pub overflow_add-result : goal.overflow_add-result
overflow_add-result c = omega (arith, within (goal.at.overflow_add-result c).After-self)

pub slice_bounds-result-end : goal.slice_bounds-result-end
slice_bounds-result-end c = omega (arith, within (goal.at.slice_bounds-result-end c).After-self)

pub returns-clause-row : goal.returns-clause-row
returns-clause-row c = let at = c.args.i * c.self.inside.size in
    ap (λ (b : List ℕ). take (at + c.self.inside.size - at) (drop at b)) c.deref.ensures.value
    ∙ row_is c.args.self.now c.self.inside.size c.self.inside.bytes.items c.self.inside.count c.self.view_is c.args.i c.requires
