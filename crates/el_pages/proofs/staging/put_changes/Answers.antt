use Rattle.std.proofs.Common.{◌+◌, ◌*◌, length, take, refl, sym, subst, ◌∙◌, arith, append-nil}
use Rattle.std.proofs.lemmas.List.{take_all}
use Rattle.el_row_formats.specs.Tables.{size_of}
use Rattle.el_rows.specs.Changes.{Changes}
use Rattle.el_redo.specs.RedoBody.{changes_bytes}
use Rattle.el_redone.proofs.Runs.{aside_none, aside_more}
use Rattle.el_pages.specs.within.Staging.{written_so_far, IsPaid}
use Rattle.el_pages.proofs.Calls.{paid_none, paid_on, few_on, few_paid, length-run, length-changes-le}
use Rattle.el_pages.proofs.staging.put_changes.Goals as goal

pub loop-k-init : goal.loop-k-init
loop-k-init g c = record {
  within = omega arith;
  ready = c.requires.ready;
  same = refl;
  written = λ told. sym (append-nil (written_so_far (g.D.Disk.seen c.args.disk.now c.args.span.redo) c.args.next.at c.args.buffer.now c.args.next.used));
  aside = λ told. aside_none g.D.Disk c.args.span.first c.args.span.redo c.args.disk.now;
  paid = paid_none (length c.args.buffer.now) (g.D.Disk.calls c.args.disk.now) c.args.next;
  faults = refl;
}

pub loop-k-preserved : goal.loop-k-preserved
loop-k-preserved g c =
    let was = c.loop-k.invariant in
    record {
      within = omega (arith, c.run-run.ensures.within);
      ready = c.in_ok-here.ensures.ready;
      same = c.put_rows.ensures.same ∙ was.same;
      written = λ told. c.in_ok-here.ensures.written told c.args.sealed.now.changes c.loop-k.k
          (written_so_far (g.D.Disk.seen c.args.disk.now c.args.span.redo) c.args.next.at c.args.buffer.now c.args.next.used)
          c.run-run.ensures.each (was.written told);
      aside = λ told. aside_more g.D.Disk (λ d t u i le left. g.met.D.Disk.earlier d t u i told le left) c.args.span.first c.args.span.redo c.args.disk.now c.loop-k.disk c.put_rows.new.disk
          (was.aside told) (c.put_rows.ensures.aside told);
      paid = let run = c.run-run.result in
          let changes = c.args.sealed.now.changes in
          paid_on (length c.args.buffer.now) (length c.loop-k.buffer) (g.D.Disk.calls c.args.disk.now) (g.D.Disk.calls c.loop-k.disk) (g.D.Disk.calls c.put_rows.new.disk) c.args.next c.loop-k.here c.in_ok-here.here
          (length (changes_bytes (take c.loop-k.k changes))) (run.rows * (9 + size_of run.table)) (length (changes_bytes (take (c.loop-k.k + run.rows) changes))) was.same
          (sym (length-run changes c.loop-k.k run.table run.first run.rows run.bytes.now c.run-run.ensures.long c.run-run.ensures.each run.rows (omega arith)))
          was.paid c.in_ok-here.ensures.paid;
      faults = c.in_ok-here.ensures.cause.uncounted ∙ was.faults;
    }

pub returns-in_err-here-clause-aside : goal.returns-in_err-here-clause-aside
returns-in_err-here-clause-aside g c told =
    aside_more g.D.Disk (λ d t u i le left. g.met.D.Disk.earlier d t u i told le left) c.args.span.first c.args.span.redo c.args.disk.now c.loop-k.disk c.put_rows.new.disk
    (c.loop-k.invariant.aside told) (c.put_rows.ensures.aside told)

pub returns-clause-paid : goal.returns-clause-paid
returns-clause-paid g c =
    subst (λ (es : Changes). IsPaid (length c.args.buffer.now) (g.D.Disk.calls c.args.disk.now) (g.D.Disk.calls c.loop-k.disk) c.args.next c.loop-k.here (length (changes_bytes es)))
    (take_all c.loop-k.k c.args.sealed.now.changes (omega arith)) c.loop-k.invariant.paid

pub returns-clause-calls : goal.returns-clause-calls
returns-clause-calls g c =
    few_paid (length c.args.buffer.now) (g.D.Disk.calls c.args.disk.now) (g.D.Disk.calls c.loop-k.disk) c.args.next c.loop-k.here (length (changes_bytes c.args.sealed.now.changes)) (returns-clause-paid g c)

pub returns-in_err-here-clause-calls : goal.returns-in_err-here-clause-calls
returns-in_err-here-clause-calls g c =
    let run = c.run-run.result in
    let changes = c.args.sealed.now.changes in
    few_on (length c.args.buffer.now) (length c.loop-k.buffer) (g.D.Disk.calls c.args.disk.now) (g.D.Disk.calls c.loop-k.disk) (g.D.Disk.calls c.put_rows.new.disk) c.args.next c.loop-k.here
    (length (changes_bytes (take c.loop-k.k changes))) (run.rows * (9 + size_of run.table)) (length (changes_bytes changes)) c.loop-k.invariant.same
    (omega (arith, length-run changes c.loop-k.k run.table run.first run.rows run.bytes.now c.run-run.ensures.long c.run-run.ensures.each run.rows (omega arith), length-changes-le changes (c.loop-k.k + run.rows)))
    c.loop-k.invariant.paid c.put_rows.ensures.calls
