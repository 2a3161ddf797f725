use Rattle.std.proofs.Common.{◌≡◌, ◌≢◌, ◌<◌, ◌≤◌, inl, ℕ, length, refl, ap, sym, ◌∙◌, arith}
use Rattle.std.proofs.lemmas.Result.{on_ok_weaker}
use Rattle.el_outside.specs.Disk.{Image}
use Rattle.el_outside.specs.Moments.{LeftNow}
use Rattle.el_redone.specs.Steps.{IsBegun}
use Rattle.el_redone.specs.declared.steps.TheConstants.{ROOT}
use Rattle.el_redone.proofs.Runs.{stays, goes_on, now_has}
use Rattle.el_redone.proofs.Begins.{begun_later}
use Rattle.el_redone.proofs.opening.begin.Goals as goal

pub returns-in_err-sync-clause-crash : goal.returns-in_err-sync-clause-crash
returns-in_err-sync-clause-crash g c told =
    stays g.D.Disk c.args.disk.now c.sync.new.self (IsBegun g.D.Disk c.args.span.redo c.args.disk.now) (c.sync.ensures.time told) (c.sync.ensures.crash told)
    (λ i left. record { from = i; left = left; others = λ f ne. refl; here = inl refl })

pub returns-in_err-sync-clause-beside : goal.returns-in_err-sync-clause-beside
returns-in_err-sync-clause-beside g c told f ne out = c.sync.ensures.others told f ne

pub returns-clause-others : goal.returns-clause-others
returns-clause-others g c told =
    on_ok_weaker c.begin_files.result (λ same f ne. same f ne ∙ ap (λ (s : Image). s f) (c.in_ok-sync.ensures.seen told)) (c.begin_files.ensures.others told)

pub returns-clause-kept : goal.returns-clause-kept
returns-clause-kept g c told long =
    let same = ap (λ (s : Image). s c.args.span.redo) (c.in_ok-sync.ensures.seen told) in
    on_ok_weaker c.begin_files.result (λ (is : g.D.Disk.seen c.begin_files.new.disk c.args.span.redo ≡ g.D.Disk.seen c.sync.new.self c.args.span.redo). is ∙ same)
    (c.begin_files.ensures.kept told (omega (arith, long, ap length same)))

pub returns-clause-begun : goal.returns-clause-begun
returns-clause-begun g c told short =
    let same = ap (λ (s : Image). length (s c.args.span.redo)) (c.in_ok-sync.ensures.seen told) in
    c.begin_files.ensures.begun told (omega (arith, short, same))

pub returns-clause-beside : goal.returns-clause-beside
returns-clause-beside g c told f ne out = c.begin_files.ensures.beside told f out ∙ c.sync.ensures.others told f ne

pub returns-clause-crash : goal.returns-clause-crash
returns-clause-crash g c told =
    goes_on g.D.Disk (λ d t u i le left. g.met.D.Disk.earlier d t u i told le left) c.args.disk.now c.sync.new.self c.begin_files.new.disk (IsBegun g.D.Disk c.args.span.redo c.args.disk.now)
    (stays g.D.Disk c.args.disk.now c.sync.new.self (IsBegun g.D.Disk c.args.span.redo c.args.disk.now) (c.sync.ensures.time told) (c.sync.ensures.crash told)
    (λ i left. record { from = i; left = left; others = λ f ne. refl; here = inl refl }))
    (λ now. begun_later g.D.Disk c.args.span.redo (λ d t u i le left. g.met.D.Disk.earlier d t u i told le left) c.args.disk.now c.sync.new.self c.begin_files.new.disk (c.sync.ensures.crash told)
    (c.begin_files.ensures.crash told))

pub returns-clause-root_durable : goal.returns-clause-root_durable
returns-clause-root_durable g c told =
    on_ok_weaker c.begin_files.result (λ others after i left.
    let begun = now_has g.D.Disk (λ d t u j le left. g.met.D.Disk.earlier d t u j told le left) c.sync.new.self c.begin_files.new.disk (IsBegun g.D.Disk c.args.span.redo c.sync.new.self)
    (c.begin_files.ensures.crash told) i left in
    let ne : ROOT ≢ c.args.span.redo = λ is. omega (arith, after, is) in
    begun.others ROOT ne ∙ c.in_ok-sync.ensures.durable told begun.from begun.left ∙ sym (others ROOT ne))
    (c.begin_files.ensures.others told)
