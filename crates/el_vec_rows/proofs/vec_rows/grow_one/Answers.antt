use Rattle.std.proofs.Common.{ℕ, ap, ◌∙◌, arith, subst}
use Rattle.std.proofs.Math.ListN.{set}
use Rattle.el_rows.specs.SizedRows.{SizedRows, HasGrown}
use Rattle.el_row_formats.proofs.Keys.{index_within}
use Rattle.el_vec_rows.proofs.InMemoryLemmas.{is_read, one_grown}
use Rattle.el_vec_rows.proofs.vec_rows.grow_one.Goals as goal

pub returns-clause-grown : goal.returns-clause-grown
returns-clause-grown c =
    let kept = c.args.kept.now in
    let list = c.grow.new.self in
    let read = is_read kept c.args.t c.index.result c.index-kept-index.result (omega (arith, c.told-kept, c.index.ensures.within)) c.index.ensures.index in
    one_grown kept _ c.args.t list (ap (λ (n : ℕ). set kept n list) c.index.ensures.index) (omega (arith, index_within c.args.t, c.told-kept))
    (subst (λ (l : SizedRows). HasGrown l.size l.rows list.rows) read c.grow.ensures.grown) (c.grow.ensures.size ∙ ap (λ (l : SizedRows). l.size) read)
