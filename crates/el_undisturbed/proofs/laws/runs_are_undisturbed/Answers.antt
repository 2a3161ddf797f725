use Rattle.el_outside.proofs.Traces.{all_grow_none}
use Rattle.el_undisturbed.proofs.Turned.{run_goes, halt_goes, keeps_first}
use Rattle.el_undisturbed.proofs.Led.{Records}
use Rattle.el_undisturbed.proofs.laws.runs_are_undisturbed.Goals as goal

pub returns-clause-run : goal.returns-clause-run
returns-clause-run g c = λ first world arrivals messages closings deeds told shows nobody sure has none run.
    let records : Records g.A.Archive = record { stay = c.records_stay.ensures.records; moved = c.moves_have_records.ensures.written } in
    let went = run_goes g.A.Archive records told world.side.files run none (keeps_first g.A.Archive records told first nobody sure has)
    shows (all_grow_none world.side.files) in
    (went.keeps.has, went.calm)

pub returns-clause-halts : goal.returns-clause-halts
returns-clause-halts g c = λ first stop arrivals messages closings deeds told nobody sure has none halts shows.
    let records : Records g.A.Archive = record { stay = c.records_stay.ensures.records; moved = c.moves_have_records.ensures.written } in
    halt_goes g.A.Archive records told halts none (keeps_first g.A.Archive records told first nobody sure has) shows
