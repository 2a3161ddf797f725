use Rattle.std.proofs.Common.{ℕ}
use Rattle.el_outside.specs.Counts.{RoseBy}
use Rattle.el_outside.specs.Seen.{seen}
use Rattle.el_outside.proofs.Traces.{grows_by}
use Rattle.el_methods.proofs.Found.{stopped}
use Rattle.el_methods.proofs.Places.{transaction_stays}
use Rattle.el_methods.proofs.Unchanged.{not_told, text_answers}
use Rattle.el_methods.proofs.Own.{own_found, own_stopped}
use Rattle.el_methods.proofs.transactions.confirmed_get.Goals as goal

pub returns-in-Err-clause-answer : goal.returns-in-Err-clause-answer
returns-in-Err-clause-answer g c = λ chain stands tells whole.
    stopped chain c.args.id c.in-Err.stop (c.in-Err.ensures.none chain stands)

pub returns-clause-answer : goal.returns-clause-answer
returns-clause-answer g c = λ chain stands tells has.
    let a = g.A.Archive in
    let now = c.text_of.new.archive in
    text_answers (seen a now) chain c.args.id c.in-Ok.spot
    (transaction_stays (a.bytes now) (seen a now) chain c.args.id (λ file. grows_by (a.bytes now file) (a.padding now file)) has)
    (c.in-Ok.ensures.found chain stands) c.text_of.result (c.text_of.ensures.text tells) c.text_of.ensures.never

pub returns-clause-unchanged : goal.returns-clause-unchanged
returns-clause-unchanged g c = λ chain stands tells has.
    let a = g.A.Archive in
    let now = c.text_of.new.archive in
    not_told (seen a now) chain c.args.id c.in-Ok.spot
    (g.met.G.Ledger.good c.args.ledger.now chain stands)
    (transaction_stays (a.bytes now) (seen a now) chain c.args.id (λ file. grows_by (a.bytes now file) (a.padding now file)) has)
    (c.in-Ok.ensures.found chain stands) c.text_of.result (c.text_of.ensures.changed tells)

pub returns-in-Err-clause-own : goal.returns-in-Err-clause-own
returns-in-Err-clause-own g c = λ chain stands.
    own_stopped (λ (n : ℕ). RoseBy (g.G.Ledger.faults c.args.ledger.now) (g.G.Ledger.faults c.spot_of.new.ledger) n) chain c.args.id c.in-Err.stop
    c.in-Err.ensures.counted (c.in-Err.ensures.none chain stands)

pub returns-clause-own : goal.returns-clause-own
returns-clause-own g c = λ chain stands.
    own_found chain c.args.id c.in-Ok.spot (c.in-Ok.ensures.found chain stands) c.text_of.result
    c.text_of.ensures.own c.text_of.ensures.never
