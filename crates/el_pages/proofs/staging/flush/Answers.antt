use Rattle.std.proofs.Common.{◌+◌, List, ℕ, refl, ap, ◌∙◌}
use Rattle.el_pages.specs.within.Staging.{behind}
use Rattle.el_pages.proofs.Puts.{flushed}
use Rattle.el_pages.proofs.staging.flush.Goals as goal

pub returns-clause-written : goal.returns-clause-written
returns-clause-written g c told =
    ap (λ (b : List ℕ). behind b (c.args.next.at + c.args.next.used)) (c.in_ok-write_behind.ensures.written told)
    ∙ flushed (g.D.Disk.seen c.args.disk.now c.args.span.redo) c.args.buffer.now c.args.next.at c.args.next.used (c.args.next.at + c.args.next.used)
    c.requires.ready.past_gate (c.requires.ready.reach told) c.requires.ready.filled refl
