use Rattle.el_program.specs.IndexDisks.{LeavesOneOf}
use Rattle.el_program.specs.Opened.{certain}
use Rattle.el_program.proofs.OwnAudits.{never_differs, stands_good}
use Rattle.el_program.proofs.own_audits.audits_of_own_blocks_are_the_same.Goals as goal

pub returns : goal.returns
returns g c = λ l magic was flight chain call asks told is has paths.
    let e = call.audited magic asks was flight (certain chain) (λ sure. is) in
    never_differs g.A.Archive magic was flight chain (LeavesOneOf g.D.Disk magic l.after.disk) _ l.before.files l.after.files e.0 l.status told
    (stands_good magic _ chain is.reads) has paths e.2
