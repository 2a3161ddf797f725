use Rattle.std.proofs.Common.{◌≡◌, ◌<◌, ℕ, List, [], length, get_or, replicate, None, refl, ap, sym, subst, ◌∙◌, arith, ⊎_elim}
use Rattle.std.proofs.Math.ListN.{length-set}
use Rattle.std.proofs.lemmas.Bool.{cases_eq}
use Rattle.std.proofs.lemmas.List.{ext_get_or, get_or-replicate, get_or-set_same, get_or-set_other, length-replicate}
use Rattle.el_row_formats.specs.RowBytes.{link_bytes}
use Rattle.el_row_formats.specs.Tables.{tables_listed}
use Rattle.el_vec_rows.proofs.vec_rows.clear_heads.Goals as goal

pub loop-i-init : goal.loop-i-init
loop-i-init c = record { long = refl; done = λ j lt. absurd (omega (arith, lt)); others = λ u ne. refl }

pub loop-i-preserved : goal.loop-i-preserved
loop-i-preserved c =
    let was = c.loop-i.invariant in
    let i = c.loop-i.i in
    let rows = tables_listed c.loop-i.rows c.args.t in
    let within : i < length rows = omega (arith, was.long, c.loop-i-test.true, c.count-i-end.ensures.count) in
    let wrote = c.write.ensures in
    record {
      long = ap length wrote.here ∙ length-set rows i (link_bytes None) ∙ was.long;
      done = λ j lt. ap (λ (xs : List (List ℕ)). get_or xs j []) wrote.here ∙ ⊎_elim
          (λ (is : j ≡ i). subst (λ n. get_or (Rattle.std.proofs.Math.ListN.set rows i (link_bytes None)) n [] ≡ link_bytes None) (sym is) (get_or-set_same rows i (link_bytes None) [] within))
          (λ ne. get_or-set_other rows i j (link_bytes None) [] ne ∙ was.done j (omega (arith, lt, ne)))
          (cases_eq j i);
      others = λ u ne. wrote.others u ne ∙ was.others u ne;
    }

pub returns-clause-here : goal.returns-clause-here
returns-clause-here c =
    let all = c.loop-i.invariant in
    let old = tables_listed c.args.rows.now c.args.t in
    let rows = tables_listed c.loop-i.rows c.args.t in
    let n = length old in
    ext_get_or [] rows (replicate n (link_bytes None)) (all.long ∙ sym (length-replicate n (link_bytes None)))
    (λ j lt. let below : j < n = omega (arith, lt, all.long) in
    all.done j (omega (arith, below, c.loop-i-test.false, c.count-i-end.ensures.count)) ∙ sym (get_or-replicate n j (link_bytes None) [] below))

pub returns-clause-others : goal.returns-clause-others
returns-clause-others c = c.loop-i.invariant.others
