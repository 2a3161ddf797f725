use Rattle.std.proofs.Common.{◌≡◌, ◌+◌, ◌*◌, ◌++◌, ℕ, List, length, take, sym, ap, subst, ◌∙◌, arith}
use Rattle.el_row_formats.specs.Tables.{size_of}
use Rattle.el_row_formats.proofs.Keys.{few_rows}
use Rattle.el_pages.specs.within.Runs.{AreConsecutiveRows}
use Rattle.el_pages.proofs.GatheredRuns.{rows_more}
use Rattle.el_pages.proofs.gathering.gather.Goals as goal

pub overflow_add-first : goal.overflow_add-first
overflow_add-first c = omega (arith, c.loop-next.invariant.rows.limit, few_rows c.run-head.result.table)

pub loop-next-preserved : goal.loop-next-preserved
loop-next-preserved c =
    let was = c.loop-next.invariant in
    let next = c.in-Some.next in
    let t = c.run-head.result.table in
    let rows = c.loop-next.rows in
    let used : rows * c.size-size.result ≡ rows * size_of t = ap (λ s. rows * s) c.size-size.ensures in
    let both : (rows + next.rows) * size_of t ≡ rows * size_of t + next.rows * size_of t = omega arith in
    record {
      same = c.copy.ensures.long ∙ was.same;
      few = omega (arith, was.few, c.in-Some.ensures.few);
      fits = omega (arith, c.in-Some.ensures.fits);
      rows = subst (λ (b : List ℕ). AreConsecutiveRows c.args.sealed.now.changes c.args.k t c.run-head.result.first (rows + next.rows) b)
          (sym (ap (λ n. take n c.copy.new.buffer) (let e : (rows + next.rows) * size_of t ≡ rows * c.size-size.result + length next.bytes.now = omega (arith, used, both, c.in-Some.ensures.rows.long) in e)
          ∙ c.copy.ensures.put ∙ ap (λ n. take n c.loop-next.buffer ++ next.bytes.now) used))
          (rows_more c.args.sealed.now.changes c.args.k t c.run-head.result.first rows next.rows (take (rows * size_of t) c.loop-next.buffer) next.bytes.now was.rows c.in-Some.ensures.rows);
    }
