use Rattle.std.proofs.Common.{◌≤◌, ◌+◌, ◌*◌, ◌-◌, length, arith, ◌∙◌, sym}
use Rattle.el_rows.proofs.RowListLemmas.{size_is, is_within, written, put_row}
use Rattle.el_rows.proofs.row_list.RowList.write.Goals as goal
use Rattle.el_rows.proofs.row_list.RowList.write.Goals.{After-self}

within : (c : After-self) → c.args.i * c.self.inside.size + c.self.inside.size ≤ length c.self.inside.bytes.items
within c = is_within c.args.self.now c.self.inside.size c.self.inside.bytes.items c.self.inside.count c.self.view_is c.args.i c.self.invariant c.requires.within

pub overflow_mul-at : goal.overflow_mul-at
overflow_mul-at c = omega (arith, within c)

pub overflow_add-at : goal.overflow_add-at
overflow_add-at c = omega (arith, within (goal.at.overflow_add-at c).After-self)

pub slice_bounds-copy_from_slice-end : goal.slice_bounds-copy_from_slice-end
slice_bounds-copy_from_slice-end c = omega (arith, within (goal.at.slice_bounds-copy_from_slice-end c).After-self)

pub returns : goal.returns
returns c =
    let at = c.args.i * c.self.inside.size in
    let size = c.self.inside.size in
    let part = at + size - at in
    written c.args.self.now size c.self.inside.bytes.items c.self.inside.count c.self.view_is _ c.args.i c.args.bytes.now c.self.invariant c.requires.within c.requires.sized
    (put_row c.self.inside.bytes at size part c.deref_mut.result.now c.copy_from_slice.new.self c.args.bytes.now c.deref_mut.ensures.value c.copy_from_slice.ensures.after
    (c.requires.sized ∙ sym (size_is c.args.self.now size c.self.inside.bytes.items c.self.inside.count c.self.view_is)) (omega arith) (within (goal.at.returns c).After-self))
