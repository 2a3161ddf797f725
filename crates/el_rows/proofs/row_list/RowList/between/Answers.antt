use Rattle.std.proofs.Common.{◌*◌, ◌-◌, ℕ, List, take, drop, ap, ◌∙◌, arith}
use Rattle.std.proofs.lemmas.Nat.{mul-le}
use Rattle.el_row_formats.specs.Tables.{row_at}
use Rattle.el_rows.proofs.RowListLemmas.{is_end, between_rows}
use Rattle.el_rows.proofs.row_list.RowList.between.Goals as goal

pub overflow_mul-result : goal.overflow_mul-result
overflow_mul-result c = omega (
  arith,
  mul-le c.args.from c.self.inside.size c.args.to c.self.inside.size c.requires.rising (omega arith),
  is_end c.args.self.now c.self.inside.size c.self.inside.bytes.items c.self.inside.count c.self.view_is c.args.to c.self.invariant c.requires.within,
)

pub overflow_mul-result-2 : goal.overflow_mul-result-2
overflow_mul-result-2 c = omega (arith, is_end c.args.self.now c.self.inside.size c.self.inside.bytes.items c.self.inside.count c.self.view_is c.args.to c.self.invariant c.requires.within)

pub slice_bounds-result-end : goal.slice_bounds-result-end
slice_bounds-result-end c = omega (
  arith,
  mul-le c.args.from c.self.inside.size c.args.to c.self.inside.size c.requires.rising (omega arith),
  is_end c.args.self.now c.self.inside.size c.self.inside.bytes.items c.self.inside.count c.self.view_is c.args.to c.self.invariant c.requires.within,
)

pub returns-clause-each : goal.returns-clause-each
returns-clause-each c j lt =
    let here = c.self.inside in
    ap (λ (b : List ℕ). row_at c.args.self.now.size (take (c.args.to * here.size - c.args.from * here.size) (drop (c.args.from * here.size) b)) j) c.deref.ensures.value
    ∙ between_rows c.args.self.now here.size here.bytes.items here.count c.self.view_is c.args.from c.args.to j c.requires.within lt
