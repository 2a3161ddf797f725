use Rattle.std.proofs.Common.{false, true≢false, inl, inr, [], sym}
use Rattle.el_program.specs.Opened.{IndexChain}
use Rattle.el_program.proofs.Audits.{serve_no_summary}
use Rattle.el_program.proofs.Servings.{only_served}
use Rattle.el_failure_tests.proofs.silent_disk.serve_silent.Goals as goal

pub returns-clause-ends : goal.returns-clause-ends
returns-clause-ends g c = λ magic asked.
    let unsure : IndexChain = record { sure = false; chain = [] } in
    let e = c.serve.ensures.ends.served (serve_no_summary asked.is_serve) [] [] unsure
    (λ sure. absurd (true≢false (sym sure))) in
    (e.0, e.1.0 tt, only_served asked e.2)

pub returns-clause-ended : goal.returns-clause-ended
returns-clause-ended g c = λ magic asked is.
    let unsure : IndexChain = record { sure = false; chain = [] } in
    let e = c.serve.ensures.ends.served (serve_no_summary asked.is_serve) [] [] unsure
    (λ sure. absurd (true≢false (sym sure))) in
    elim (rw is at (only_served asked e.2)) [
      | inl unopened ↦ absurd unopened
      | inr served ↦ (e.0, e.1.0 tt, served.run.1)
    ]
