use Rattle.std.proofs.Common.{◌≡◌, ◌+◌, ◌*◌, ◌++◌, ℕ, length, take, refl, ap, subst, ◌∙◌, arith}
use Rattle.el_row_formats.specs.Tables.{key, size_of, row_at}
use Rattle.el_row_formats.proofs.Keys.{few_rows}
use Rattle.el_redo.specs.RedoBody.{change_bytes, changes_bytes}
use Rattle.el_redo.proofs.BodyLemmas.{changes_put}
use Rattle.el_redone.proofs.Runs.{aside_none, aside_more}
use Rattle.el_pages.specs.within.Staging.{written_so_far, IsPaid}
use Rattle.el_pages.proofs.Calls.{paid_on, few_on, few_paid, row_long, rows_most}
use Rattle.el_pages.proofs.staging.put_rows.Goals as goal

pub overflow_add-first : goal.overflow_add-first
overflow_add-first g c = omega (arith, c.requires.limit, c.loop-j-test.true, few_rows c.args.t)

pub loop-j-init : goal.loop-j-init
loop-j-init g c = record {
  ready = c.requires.ready;
  same = refl;
  written = λ told changes k front each start. start ∙ ap (λ (n : ℕ). front ++ changes_bytes (take n changes)) (let e : k ≡ k + 0 = omega arith in e);
  aside = λ told. aside_none g.D.Disk c.args.span.first c.args.span.redo c.args.disk.now;
  paid = record { end = omega arith; paid = omega arith };
  faults = refl;
}

pub loop-j-preserved : goal.loop-j-preserved
loop-j-preserved g c =
    let was = c.loop-j.invariant in
    let t = c.args.t in
    let j = c.loop-j.j in
    let bytes = c.args.bytes.now in
    let redo = c.args.span.redo in
    let before = written_so_far (g.D.Disk.seen c.loop-j.disk redo) c.loop-j.here.at c.loop-j.buffer c.loop-j.here.used in
    let after = written_so_far (g.D.Disk.seen c.put_change.new.disk redo) c.in_ok-here.here.at c.put_change.new.buffer c.in_ok-here.here.used in
    record {
      ready = c.in_ok-here.ensures.ready;
      same = c.put_change.ensures.same ∙ was.same;
      written = λ told changes k front each start.
          changes_put before after front changes (k + j) (key t (c.args.first + j), row_at (size_of t) bytes j) (each j c.loop-j-test.true)
          (c.in_ok-here.ensures.written told ∙ ap (λ (s : ℕ). before ++ change_bytes (key t (c.args.first + j), row_at s bytes j)) c.size-size.ensures)
          (was.written told changes k front each start)
          ∙ ap (λ (n : ℕ). front ++ changes_bytes (take n changes)) (let e : k + j + 1 ≡ k + (j + 1) = omega arith in e);
      aside = λ told. aside_more g.D.Disk (λ d t u i le left. g.met.D.Disk.earlier d t u i told le left) c.args.span.first c.args.span.redo c.args.disk.now c.loop-j.disk c.put_change.new.disk
          (was.aside told) (c.put_change.ensures.aside told);
      paid = paid_on (length c.args.buffer.now) (length c.loop-j.buffer) (g.D.Disk.calls c.args.disk.now) (g.D.Disk.calls c.loop-j.disk) (g.D.Disk.calls c.put_change.new.disk) c.args.next c.loop-j.here c.in_ok-here.here
          (j * (9 + size_of t)) (9 + length (row_at c.size-size.result bytes j)) ((j + 1) * (9 + size_of t)) was.same
          (let e : j * (9 + size_of t) + (9 + length (row_at c.size-size.result bytes j)) ≡ (j + 1) * (9 + size_of t) = omega (arith, row_long c.size-size.result t bytes c.args.rows j c.size-size.ensures c.requires.long c.loop-j-test.true) in e)
          was.paid c.in_ok-here.ensures.paid;
      faults = c.in_ok-here.ensures.cause.uncounted ∙ was.faults;
    }

pub returns-in_err-here-clause-aside : goal.returns-in_err-here-clause-aside
returns-in_err-here-clause-aside g c told =
    aside_more g.D.Disk (λ d t u i le left. g.met.D.Disk.earlier d t u i told le left) c.args.span.first c.args.span.redo c.args.disk.now c.loop-j.disk c.put_change.new.disk
    (c.loop-j.invariant.aside told) (c.put_change.ensures.aside told)

pub returns-clause-paid : goal.returns-clause-paid
returns-clause-paid g c =
    subst (λ n. IsPaid (length c.args.buffer.now) (g.D.Disk.calls c.args.disk.now) (g.D.Disk.calls c.loop-j.disk) c.args.next c.loop-j.here (n * (9 + size_of c.args.t)))
    (let e : c.loop-j.j ≡ c.args.rows = omega arith in e) c.loop-j.invariant.paid

pub returns-in_err-here-clause-calls : goal.returns-in_err-here-clause-calls
returns-in_err-here-clause-calls g c =
    let t = c.args.t in
    let j = c.loop-j.j in
    let bytes = c.args.bytes.now in
    few_on (length c.args.buffer.now) (length c.loop-j.buffer) (g.D.Disk.calls c.args.disk.now) (g.D.Disk.calls c.loop-j.disk) (g.D.Disk.calls c.put_change.new.disk) c.args.next c.loop-j.here
    (j * (9 + size_of t)) (9 + length (row_at c.size-size.result bytes j)) (c.args.rows * (9 + size_of t)) c.loop-j.invariant.same
    (rows_most j c.args.rows (size_of t) (length (row_at c.size-size.result bytes j)) (row_long c.size-size.result t bytes c.args.rows j c.size-size.ensures c.requires.long c.loop-j-test.true) c.loop-j-test.true)
    c.loop-j.invariant.paid c.put_change.ensures.calls

pub returns-clause-calls : goal.returns-clause-calls
returns-clause-calls g c =
    few_paid (length c.args.buffer.now) (g.D.Disk.calls c.args.disk.now) (g.D.Disk.calls c.loop-j.disk) c.args.next c.loop-j.here (c.args.rows * (9 + size_of c.args.t)) (returns-clause-paid g c)
