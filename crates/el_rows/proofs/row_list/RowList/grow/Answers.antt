use Rattle.std.proofs.Common.{◌≡◌, ◌-◌, ℕ, length, ap, ◌∙◌, arith}
use Rattle.el_rows.proofs.RowListLemmas.{count_is, length-cut_rows, grown}
use Rattle.el_rows.proofs.row_list.RowList.grow.Goals as goal

pub returns-then-n-self-clause-enough : goal.returns-then-n-self-clause-enough
returns-then-n-self-clause-enough c = omega (arith, count_is c.args.self.now c.self.inside.size c.self.inside.bytes.items c.self.inside.count c.self.view_is)

pub returns-clause-grown : goal.returns-clause-grown
returns-clause-grown c =
    let bytes = c.self.inside.bytes in
    let more = c.in_ok-add_zeros.ensures.ok in
    grown c.args.self.now c.self.inside.size bytes.items c.self.inside.count c.self.view_is c.add_zeros.new.bytes.items more.0 c.args.n c.in-Some.total c.self.invariant
    more.1 (more.2 ∙ c.saturating_sub-more.ensures ∙ ap (λ (n : ℕ). c.in-Some.total - n) (c.len.ensures ∙ (let e : bytes.len ≡ length bytes.items = omega (arith, bytes.ok.0) in e))) c.in-Some.ensures.1 (omega arith)

pub returns-clause-enough : goal.returns-clause-enough
returns-clause-enough c = omega (arith, length-cut_rows c.self.inside.size c.add_zeros.new.bytes.items c.args.n)
