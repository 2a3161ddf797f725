use Rattle.std.proofs.Common.{◌≡◌, ◌+◌, ◌-◌, ◌*◌, [], length, get_or, ap, sym, subst, ◌∙◌, arith}
use Rattle.el_row_formats.specs.Tables.{size_of, row_at}
use Rattle.el_row_formats.specs.OldRowBytes.{old_size_of}
use Rattle.el_migrate.specs.within.Moving.{HeadsOf, IsOldRow, new_rows}
use Rattle.el_migrate.proofs.OldLimits.{sizes_1}
use Rattle.el_migrate.proofs.RowRuns.{put_long, put_rows}
use Rattle.el_migrate.proofs.runs.move_rows.Goals as goal

pub returns-clause-rows : goal.returns-clause-rows
returns-clause-rows c counts bs l moved given heads j lt = c.loop-j.invariant.rows counts bs l moved given heads j (omega (arith, lt, c.loop-j-test.false))

pub returns-clause-heads : goal.returns-clause-heads
returns-clause-heads c counts bs l moved given heads =
    let all : c.loop-j.j ≡ c.args.rows = omega (arith, c.loop-j.auto.j-end, c.loop-j-test.false) in
    subst (λ k. HeadsOf c.args.t l (c.args.first + k) c.loop-j.links) all (c.loop-j.invariant.heads counts bs l moved given heads)

pub loop-j-preserved : goal.loop-j-preserved
loop-j-preserved c =
    let was = c.loop-j.invariant in
    let t = c.args.t in
    let j = c.loop-j.j in
    let first = c.args.first in
    let s = c.size-size.result in
    let size_is : s ≡ size_of t = c.size-size.ensures in
    let old_is : c.size-old_size.result ≡ old_size_of t = c.size-old_size.ensures ∙ sizes_1 t in
    let place : j * s ≡ j * size_of t = ap (λ n. j * n) size_is in
    let part : j * s + s - j * s ≡ size_of t = omega (arith, size_is) in
    record {
      many = c.move_row.ensures.many ∙ was.many;
      long = put_long (size_of t) c.args.rows j (j * s) (j * s + s - j * s) c.loop-j.new c.move_row.new.new was.long c.loop-j-test.true c.move_row.ensures.long place part;
      rows = λ counts bs l moved given heads.
          let old_row = subst (λ n. IsOldRow counts bs l t (first + j) (row_at n c.args.old.now j)) (sym old_is) (given j c.loop-j-test.true) in
          put_rows (size_of t) c.args.rows j (j * s) (j * s + s - j * s) c.loop-j.new c.move_row.new.new was.long c.loop-j-test.true c.move_row.ensures.long place part
          (λ i. get_or (new_rows (length c.args.links.now) bs l t) (first + i) []) (was.rows counts bs l moved given heads)
          (c.move_row.ensures.row counts bs l moved old_row (was.heads counts bs l moved given heads) ∙ ap (λ k. get_or (new_rows k bs l t) (first + j) []) was.many);
      heads = λ counts bs l moved given heads.
          let old_row = subst (λ n. IsOldRow counts bs l t (first + j) (row_at n c.args.old.now j)) (sym old_is) (given j c.loop-j-test.true) in
          subst (λ n. HeadsOf t l n c.move_row.new.links) (let e : first + j + 1 ≡ first + (j + 1) = omega arith in e)
          (c.move_row.ensures.heads counts bs l moved old_row (was.heads counts bs l moved given heads));
    }
