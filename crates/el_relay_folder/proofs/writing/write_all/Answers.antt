use Rattle.std.proofs.Common.{◌≡◌, arith, rules}
use Rattle.std.specs.IoError.{error_kind}
use Rattle.std.specs.declared.io.ErrorKind.TheVariants as ErrorKind
use Rattle.el_relay_folder.proofs.Steps.{none_then, length_rest, front_kept, front_more}
use Rattle.el_relay_folder.proofs.writing.write_all.Goals.{in-Ok-2, in-Err}
use Rattle.el_relay_folder.proofs.writing.write_all.Goals as goal

pub loop-preserved : goal.loop-preserved
loop-preserved g c = elim c.match-write.branch [
  | in-Ok-2 w ↦ record {
    within = omega (arith, w.done-is, w.in-Ok.ensures.within, length_rest c.loop.done c.args.text.now, c.loop.invariant.within);
    written = λ told. rw w.done-is (front_more (g.F.Outbox.draft c.args.file.now) (g.F.Outbox.draft c.loop.file) (g.F.Outbox.draft c.write.new.file)
        c.args.text.now c.loop.done w.in-Ok.n (c.loop.invariant.written told)
        (omega (arith, w.in-Ok.ensures.within, length_rest c.loop.done c.args.text.now)) (w.in-Ok.ensures.written told));
    none = λ told. none_then (g.F.Outbox.files c.args.outbox.now) (g.F.Outbox.files c.loop.outbox) (g.F.Outbox.files c.write.new.self)
        (c.loop.invariant.none told) (c.write.ensures.none told);
  }
  | in-Err w ↦ record {
    within = omega (arith, w.done-is, c.loop.invariant.within);
    written = λ told.
        let kind : error_kind w.in-Err.e ≡ ErrorKind.Interrupted = search rules in
        rw w.done-is (front_kept (g.F.Outbox.draft c.args.file.now) (g.F.Outbox.draft c.loop.file) (g.F.Outbox.draft c.write.new.file)
        c.args.text.now c.loop.done (w.in-Err.ensures.interrupted told kind) (c.loop.invariant.written told));
    none = λ told. none_then (g.F.Outbox.files c.args.outbox.now) (g.F.Outbox.files c.loop.outbox) (g.F.Outbox.files c.write.new.self)
        (c.loop.invariant.none told) (c.write.ensures.none told);
  }
]
