use Rattle.std.proofs.Common.{◌≡◌, ◌≤◌, ◌*◌, ⊎_elim, refl, ap, sym, subst, ◌∙◌, arith}
use Rattle.el_row_formats.specs.Tables.{index_of}
use Rattle.el_row_formats.proofs.Keys.{same_index, few_rows}
use Rattle.std.proofs.lemmas.Bool.{cases_eq}
use Rattle.el_rows.specs.Changes.{count_at}
use Rattle.el_pages.specs.declared.layout.TheConstants.{FORMAT_2}
use Rattle.el_pages.specs.Layouts.{file_of, size_in}
use Rattle.el_pages.proofs.Laid.{sizes_2, small_size, limits_2}
use Rattle.std.proofs.lemmas.Nat.{mul-le}
use Rattle.el_recovery.proofs.Fronts.{fault_is}
use Rattle.el_recovery.proofs.Orders.{nth_table, nth_index}
use Rattle.el_recovery.proofs.files.check_sizes.Goals as goal

pub returns-then-found-wanted-clause-bad : goal.returns-then-found-wanted-clause-bad
returns-then-found-wanted-clause-bad c =
    let t = nth_table c.loop-t.t-index in
    let at = nth_index c.loop-t.t-index (omega (arith, c.loop-t-test.true)) in
    let count = count_at c.args.counts.now t in
    let wanted : c.number_in-count.result * c.size-size.result ≡ count * size_in FORMAT_2 t =
    ap (λ n. n * c.size-size.result) c.number_in-count.ensures ∙ ap (λ s. count * s) c.size-size.ensures in (
      (file_of FORMAT_2 t, count * size_in FORMAT_2 t, count_at c.args.sizes.now t),
      fault_is c.file.ensures wanted c.number_in-found.ensures,
      record {
        of = t;
        before = λ u lt. c.loop-t.invariant u (omega (arith, lt, at));
        short = omega (arith, c.if-found-wanted.true, wanted, c.number_in-found.ensures);
        is = refl;
      },
    )

pub overflow_mul-wanted : goal.overflow_mul-wanted
overflow_mul-wanted c =
    let t = nth_table c.loop-t.t-index in
    let product = mul-le c.number_in-count.result c.size-size.result 1099511627776 116 (omega (arith, c.number_in-count.ensures, c.requires.limited t, limits_2 t, few_rows t)) (omega (arith, c.size-size.ensures, sizes_2 t, small_size t)) in
    omega (arith, product)

pub loop-t-preserved : goal.loop-t-preserved
loop-t-preserved c = λ u lt.
    let n = c.loop-t.t-index in
    let t = nth_table n in
    let at = nth_index n (omega (arith, c.loop-t-test.true)) in
    let count = count_at c.args.counts.now t in
    let wanted : c.number_in-count.result * c.size-size.result ≡ count * size_in FORMAT_2 t =
    ap (λ n. n * c.size-size.result) c.number_in-count.ensures ∙ ap (λ s. count * s) c.size-size.ensures in
    let here : count * size_in FORMAT_2 t ≤ count_at c.args.sizes.now t = omega (arith, c.if-found-wanted.false, wanted, c.number_in-found.ensures) in
    ⊎_elim
    (λ (is : index_of u ≡ n). subst (λ v. count_at c.args.counts.now v * size_in FORMAT_2 v ≤ count_at c.args.sizes.now v) (sym (same_index u t (is ∙ sym at))) here)
    (λ ne. c.loop-t.invariant u (omega (arith, lt, ne)))
    (cases_eq (index_of u) n)
