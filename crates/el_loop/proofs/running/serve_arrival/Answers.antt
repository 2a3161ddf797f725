use Rattle.std.proofs.Common.{inl, sym, ap, ◌∙◌}
use Rattle.std.proofs.lemmas.Result.{on_ok_weaker}
use Rattle.el_loop.proofs.Arrivals.{arrival_done, arrival_stopped, arrival_lost, taken_files, if_err}
use Rattle.el_side.specs.Beneath.{ghosts}
use Rattle.el_loop.specs.within.Progress.{all_ghosts}
use Rattle.el_loop.proofs.running.serve_arrival.Goals as goal

pub returns-in-Ok-clause-served : goal.returns-in-Ok-clause-served
returns-in-Ok-clause-served g c = λ world stood told grown are.
    let t = c.in-Ok.ensures.taken world stood in
    let still = sym stood.ahead ∙ c.requires.idle.ahead in
    let same = taken_files g.G.Ledger.stands _ world c.take.new.self t in
    let done = c.work_off.ensures.finished t.next t.left t.stood (record {
      are_open = λ tells. are tells t.next c.take.new.self t.after;
      grown = λ tells. rw same (grown tells);
    }) in
    on_ok_weaker c.work_off.result (λ f. arrival_done (all_ghosts (ghosts g.G.Ledger g.A.Archive) g.Y.Relay g.K.Link) _ world c.args.server.now
    c.take.new.self _ _ _ _ still told c.in-Ok.ensures.ledger t f)
    done

pub returns-in-Ok-clause-stopped : goal.returns-in-Ok-clause-stopped
returns-in-Ok-clause-stopped g c = λ world stood told grown are.
    let t = c.in-Ok.ensures.taken world stood in
    let still = sym stood.ahead ∙ c.requires.idle.ahead in
    let same = taken_files g.G.Ledger.stands _ world c.take.new.self t in
    let stopped = c.work_off.ensures.stopped t.next t.left t.stood (record {
      are_open = λ tells. are tells t.next c.take.new.self t.after;
      grown = λ tells. rw same (grown tells);
    }) in
    if_err _ _ c.work_off.result (λ e f. arrival_stopped (all_ghosts (ghosts g.G.Ledger g.A.Archive) g.Y.Relay g.K.Link) _ _ world
    c.args.server.now c.take.new.self _ _ _ _ _ still told c.in-Ok.ensures.ledger t f)
    stopped

pub returns-in-Err-clause-stopped : goal.returns-in-Err-clause-stopped
returns-in-Err-clause-stopped g c = λ world stood told grown are.
    rw c.in-Err.ensures.refused (arrival_lost (all_ghosts (ghosts g.G.Ledger g.A.Archive) g.Y.Relay g.K.Link) _ _ world _
    c.in-Err.ensures.memory grown
    (λ sure tells left now. inl (g.met.G.Ledger.leaves_own c.args.server.now.ledger world.side.chain left tells
    c.requires.live
    (stood.chain sure) now)))

pub returns-in-Ok-clause-numbers : goal.returns-in-Ok-clause-numbers
returns-in-Ok-clause-numbers g c = λ last now le up new.
    c.work_off.ensures.numbers now (c.in-Ok.ensures.numbers last now le up new)

pub returns-in-Ok-clause-beside : goal.returns-in-Ok-clause-beside
returns-in-Ok-clause-beside g c = λ told.
    c.work_off.ensures.beside told ∙ ap g.G.Ledger.beside c.in-Ok.ensures.ledger

pub returns-in-Err-clause-beside : goal.returns-in-Err-clause-beside
returns-in-Err-clause-beside g c = λ told. ap g.G.Ledger.beside c.in-Err.ensures.ledger
