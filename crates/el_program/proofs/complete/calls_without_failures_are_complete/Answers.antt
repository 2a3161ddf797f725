use Rattle.std.proofs.Common.{false, true≢false, [], sym}
use Rattle.el_program.specs.IndexDisks.{LeavesOneOf}
use Rattle.el_program.specs.Opened.{IndexChain, certain}
use Rattle.el_program.proofs.Audits.{serve_no_summary, once_no_summary}
use Rattle.el_program.proofs.Completes.{Calm, index_complete, once_complete}
use Rattle.el_program.proofs.Servings.{only_served, only_once, same_networks}
use Rattle.el_program.proofs.complete.calls_without_failures_are_complete.Goals as goal

pub returns-clause-serve : goal.returns-clause-serve
returns-clause-serve g c = λ l magic was flight chain call serves told shows is has none.
    let calm : Calm g.A.Archive = record {
      run = c.runs_are_undisturbed.ensures.run;
      halts = c.runs_are_undisturbed.ensures.halts;
      stay = c.records_stay.ensures.records;
      moved = c.moves_have_records.ensures.written;
    } in
    let e = call.served (serve_no_summary serves.is_serve) was flight (certain chain)
    (λ sure m also. rw (same_networks also serves) is) in
    let ends = only_served serves e.2 in (
      e.0,
      e.1,
      ends,
      index_complete g.A.Archive calm told _ none e.0 magic serves.said.settings.limits serves.said.settings.relays chain
          (LeavesOneOf g.D.Disk magic l.after.disk) l.before.files l.after.files has shows was flight l.status ends,
    )

pub returns-clause-once : goal.returns-clause-once
returns-clause-once g c = λ l magic call asks told shows none.
    let calm : Calm g.A.Archive = record {
      run = c.runs_are_undisturbed.ensures.run;
      halts = c.runs_are_undisturbed.ensures.halts;
      stay = c.records_stay.ensures.records;
      moved = c.moves_have_records.ensures.written;
    } in
    let no_index : IndexChain = record { sure = false; chain = [] } in
    let e = call.served (once_no_summary asks.is_once) [] [] no_index
    (λ sure. absurd (true≢false (sym sure))) in
    let ends = only_once asks e.2 in (
      e.0,
      e.1,
      ends,
      once_complete g.A.Archive calm told _ none e.0 magic (g.A.Archive.bytes l.before.files)
          (g.A.Archive.bytes l.after.files) shows l.status ends,
    )
