use Rattle.std.proofs.Common.{◌≡◌, ◌≤◌, ⊎_elim, refl, sym, subst, ◌∙◌, arith}
use Rattle.el_row_formats.specs.Tables.{index_of}
use Rattle.el_row_formats.proofs.Keys.{same_index}
use Rattle.std.proofs.lemmas.Bool.{cases_eq}
use Rattle.el_rows.specs.Changes.{count_at}
use Rattle.el_pages.specs.declared.layout.TheConstants.{FORMAT_1}
use Rattle.el_pages.specs.Layouts.{file_of, limit_in}
use Rattle.el_recovery.proofs.Fronts.{fault_is}
use Rattle.el_recovery.proofs.Orders.{nth_table, nth_index}
use Rattle.el_migrate.proofs.old_files.check_counts.Goals as goal

pub returns-then-count-limit-clause-bad : goal.returns-then-count-limit-clause-bad
returns-then-count-limit-clause-bad c =
    let t = nth_table c.loop-t.t-index in
    let at = nth_index c.loop-t.t-index (omega (arith, c.loop-t-test.true)) in (
      (file_of FORMAT_1 t, limit_in FORMAT_1 t, count_at c.args.counts.now t),
      fault_is c.file.ensures c.limit-limit.ensures c.number_in-count.ensures,
      record {
        of = t;
        before = λ u lt. c.loop-t.invariant u (omega (arith, lt, at));
        above = omega (arith, c.if-count-limit.true, c.limit-limit.ensures, c.number_in-count.ensures);
        is = refl;
      },
    )

pub loop-t-preserved : goal.loop-t-preserved
loop-t-preserved c = λ u lt.
    let n = c.loop-t.t-index in
    let t = nth_table n in
    let at = nth_index n (omega (arith, c.loop-t-test.true)) in
    let here : count_at c.args.counts.now t ≤ limit_in FORMAT_1 t = omega (arith, c.if-count-limit.false, c.limit-limit.ensures, c.number_in-count.ensures) in
    ⊎_elim
    (λ (is : index_of u ≡ n). subst (λ v. count_at c.args.counts.now v ≤ limit_in FORMAT_1 v) (sym (same_index u t (is ∙ sym at))) here)
    (λ ne. c.loop-t.invariant u (omega (arith, lt, ne)))
    (cases_eq (index_of u) n)
