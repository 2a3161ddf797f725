use Rattle.std.proofs.Common.{inl, inr, refl, ap, sym, subst, ◌∙◌, arith, rules}
use Rattle.std.proofs.lemmas.Result.{err_from_is_err_and}
use Rattle.el_outside.specs.Disk.{Image}
use Rattle.el_outside.specs.Moments.{LeftNow}
use Rattle.el_redone.specs.Redone.{ImageStandsFor}
use Rattle.el_redone.proofs.Runs.{now_has}
use Rattle.el_pages.specs.declared.layout.TheConstants.{FORMAT_1}
use Rattle.el_pages.specs.Records.{Spells}
use Rattle.el_migrate.proofs.OldLimits.{sizes_1, small_old, some_old}
use Rattle.el_recovery.proofs.Decided.{stands_or_bad}
use Rattle.el_migrate.proofs.OldVerdicts.{settled_or_bad}
use Rattle.el_migrate.proofs.OldRefusals.{one_told, none_told, body_refused, body_untouched, files_refused}
use Rattle.el_recovery.proofs.Settles.{Begun, begun_none, begun_short_is, stands_before, calls_before, rest_read, alike_begun, alike_redone, alike_read}
use Rattle.el_migrate.proofs.old_opening.open_old_files.Goals as goal
use Rattle.el_migrate.specs.OldIndexes.{HasOldCounts}

pub finish-requires : goal.finish-requires
finish-requires g c = record {
  few = omega arith;
  narrow = λ t. omega (arith, sizes_1 t, small_old t);
  sized = λ t. some_old t;
  meta = omega arith;
  on_disk = λ told. c.in_ok-begin.ensures.durable told;
  redo_on_disk = λ told. c.in_ok-begin.ensures.redo_durable told;
  root_on_disk = λ told. c.in_ok-begin.ensures.root_durable told;
  begun = λ told lt.
      let start : Begun 9 (g.D.Disk.seen c.args.disk.now) (g.D.Disk.seen c.begin.new.disk) = record { others = c.in_ok-begin.ensures.others told; kept = c.in_ok-begin.ensures.kept told; short = c.in_ok-begin.ensures.begun told } in
      begun_short_is FORMAT_1 (g.D.Disk.seen c.args.disk.now) (g.D.Disk.seen c.begin.new.disk) start lt;
}

-- ---- images

pub returns-in_err-begin-clause-crash : goal.returns-in_err-begin-clause-crash
returns-in_err-begin-clause-crash g c told =
    alike_begun g.D.Disk (λ d t u i le left. g.met.D.Disk.earlier d t u i told le left) FORMAT_1 c.args.disk.now c.begin.new.disk (c.begin.ensures.crash told)

pub returns-in_err-finish-clause-crash : goal.returns-in_err-finish-clause-crash
returns-in_err-finish-clause-crash g c told =
    let begun = c.begin.new.disk in
    alike_redone g.D.Disk (λ d t u i le left. g.met.D.Disk.earlier d t u i told le left) FORMAT_1 c.args.disk.now begun (c.begin.ensures.crash told)
    (g.met.D.Disk.reads_an_image begun told) c.finish.new.disk (c.finish.ensures.crash told)

pub returns-in_err-counts-clause-crash : goal.returns-in_err-counts-clause-crash
returns-in_err-counts-clause-crash g c told =
    let begun = c.begin.new.disk in
    alike_read g.D.Disk (λ d t u i le left. g.met.D.Disk.earlier d t u i told le left) FORMAT_1 c.args.disk.now begun (c.begin.ensures.crash told)
    (g.met.D.Disk.reads_an_image begun told) c.finish.new.disk (c.finish.ensures.crash told) c.check_old_files.new.disk (c.check_old_files.ensures.crash told)

pub returns-clause-crash : goal.returns-clause-crash
returns-clause-crash g c told =
    let begun = c.begin.new.disk in
    alike_read g.D.Disk (λ d t u i le left. g.met.D.Disk.earlier d t u i told le left) FORMAT_1 c.args.disk.now begun (c.begin.ensures.crash told)
    (g.met.D.Disk.reads_an_image begun told) c.finish.new.disk (c.finish.ensures.crash told) c.check_old_files.new.disk (c.check_old_files.ensures.crash told)

-- ---- bad indexes

pub returns-in_err-finish-clause-bad : goal.returns-in_err-finish-clause-bad
returns-in_err-finish-clause-bad g c told =
    let seen = g.D.Disk.seen c.args.disk.now in
    let begun = g.D.Disk.seen c.begin.new.disk in
    let start : Begun 9 seen begun = record { others = c.in_ok-begin.ensures.others told; kept = c.in_ok-begin.ensures.kept told; short = c.in_ok-begin.ensures.begun told } in
    let p = err_from_is_err_and c.from_residual-in_err-finish.result c.from_residual-in_err-finish.ensures.1 in
    rw (p.1, p.2) (body_refused c.args.magic seen begun (g.D.Disk.seen c.finish.new.disk) start _ (c.in_err-finish.ensures.bad told))

pub returns-in_err-finish-clause-is_bad : goal.returns-in_err-finish-clause-is_bad
returns-in_err-finish-clause-is_bad g c told found bad =
    let seen = g.D.Disk.seen c.args.disk.now in
    let begun = g.D.Disk.seen c.begin.new.disk in
    let start : Begun 9 seen begun = record { others = c.in_ok-begin.ensures.others told; kept = c.in_ok-begin.ensures.kept told; short = c.in_ok-begin.ensures.begun told } in
    let p = err_from_is_err_and c.from_residual-in_err-finish.result c.from_residual-in_err-finish.ensures.1 in
    rw (p.1, p.2) (one_told c.args.magic seen (g.met.D.Disk.small c.args.disk.now 9 told) _ (body_refused c.args.magic seen begun (g.D.Disk.seen c.finish.new.disk) start _ (c.in_err-finish.ensures.bad told)) found bad)

pub returns-in_err-finish-clause-untouched : goal.returns-in_err-finish-clause-untouched
returns-in_err-finish-clause-untouched g c told found body =
    let seen = g.D.Disk.seen c.args.disk.now in
    let begun = g.D.Disk.seen c.begin.new.disk in
    let start : Begun 9 seen begun = record { others = c.in_ok-begin.ensures.others told; kept = c.in_ok-begin.ensures.kept told; short = c.in_ok-begin.ensures.begun told } in
    let p = err_from_is_err_and c.from_residual-in_err-finish.result c.from_residual-in_err-finish.ensures.1 in
    rw (p.1, p.2) (body_untouched c.args.magic seen begun (g.D.Disk.seen c.finish.new.disk) start _ (c.in_err-finish.ensures.bad told))

pub returns-in_err-finish-clause-opens : goal.returns-in_err-finish-clause-opens
returns-in_err-finish-clause-opens g c told tables shows heads =
    let seen = g.D.Disk.seen c.args.disk.now in
    let begun = g.D.Disk.seen c.begin.new.disk in
    let start : Begun 9 seen begun = record { others = c.in_ok-begin.ensures.others told; kept = c.in_ok-begin.ensures.kept told; short = c.in_ok-begin.ensures.begun told } in
    let p = err_from_is_err_and c.from_residual-in_err-finish.result c.from_residual-in_err-finish.ensures.1 in
    rw (p.1, p.2) (none_told c.args.magic seen (g.met.D.Disk.small c.args.disk.now 9 told) _ (body_refused c.args.magic seen begun (g.D.Disk.seen c.finish.new.disk) start _ (c.in_err-finish.ensures.bad told)) (search rules) tables shows heads)

pub returns-in_err-counts-clause-bad : goal.returns-in_err-counts-clause-bad
returns-in_err-counts-clause-bad g c told =
    let seen = g.D.Disk.seen c.args.disk.now in
    let begun = g.D.Disk.seen c.begin.new.disk in
    let start : Begun 9 seen begun = record { others = c.in_ok-begin.ensures.others told; kept = c.in_ok-begin.ensures.kept told; short = c.in_ok-begin.ensures.begun told } in
    let p = err_from_is_err_and c.from_residual-in_err-counts.result c.from_residual-in_err-counts.ensures.1 in
    rw (p.1, p.2) (files_refused c.args.magic seen begun (g.D.Disk.seen c.finish.new.disk) start _ (c.in_ok-finish.ensures.stands told) (c.in_err-counts.ensures.bad told))

pub returns-in_err-counts-clause-is_bad : goal.returns-in_err-counts-clause-is_bad
returns-in_err-counts-clause-is_bad g c told found bad =
    let seen = g.D.Disk.seen c.args.disk.now in
    let begun = g.D.Disk.seen c.begin.new.disk in
    let start : Begun 9 seen begun = record { others = c.in_ok-begin.ensures.others told; kept = c.in_ok-begin.ensures.kept told; short = c.in_ok-begin.ensures.begun told } in
    let p = err_from_is_err_and c.from_residual-in_err-counts.result c.from_residual-in_err-counts.ensures.1 in
    rw (p.1, p.2) (one_told c.args.magic seen (g.met.D.Disk.small c.args.disk.now 9 told) _ (files_refused c.args.magic seen begun (g.D.Disk.seen c.finish.new.disk) start _ (c.in_ok-finish.ensures.stands told) (c.in_err-counts.ensures.bad told)) found bad)

pub returns-in_err-counts-clause-untouched : goal.returns-in_err-counts-clause-untouched
returns-in_err-counts-clause-untouched g c told found body =
    let seen = g.D.Disk.seen c.args.disk.now in
    let begun = g.D.Disk.seen c.begin.new.disk in
    let start : Begun 9 seen begun = record { others = c.in_ok-begin.ensures.others told; kept = c.in_ok-begin.ensures.kept told; short = c.in_ok-begin.ensures.begun told } in
    absurd (stands_or_bad FORMAT_1 some_old seen (g.D.Disk.seen c.finish.new.disk) found (g.met.D.Disk.small c.args.disk.now 9 told) (stands_before FORMAT_1 seen begun start (g.D.Disk.seen c.finish.new.disk) (c.in_ok-finish.ensures.stands told)) body)

pub returns-in_err-counts-clause-opens : goal.returns-in_err-counts-clause-opens
returns-in_err-counts-clause-opens g c told tables shows heads =
    let seen = g.D.Disk.seen c.args.disk.now in
    let begun = g.D.Disk.seen c.begin.new.disk in
    let start : Begun 9 seen begun = record { others = c.in_ok-begin.ensures.others told; kept = c.in_ok-begin.ensures.kept told; short = c.in_ok-begin.ensures.begun told } in
    let p = err_from_is_err_and c.from_residual-in_err-counts.result c.from_residual-in_err-counts.ensures.1 in
    rw (p.1, p.2) (none_told c.args.magic seen (g.met.D.Disk.small c.args.disk.now 9 told) _ (files_refused c.args.magic seen begun (g.D.Disk.seen c.finish.new.disk) start _ (c.in_ok-finish.ensures.stands told) (c.in_err-counts.ensures.bad told)) (search rules) tables shows heads)

pub returns-clause-is_bad : goal.returns-clause-is_bad
returns-clause-is_bad g c told found bad =
    let seen = g.D.Disk.seen c.args.disk.now in
    let begun = g.D.Disk.seen c.begin.new.disk in
    let start : Begun 9 seen begun = record { others = c.in_ok-begin.ensures.others told; kept = c.in_ok-begin.ensures.kept told; short = c.in_ok-begin.ensures.begun told } in
    settled_or_bad c.args.magic seen (g.D.Disk.seen c.finish.new.disk) c.in_ok-counts.counts found (search rules) (g.met.D.Disk.small c.args.disk.now 9 told) some_old
    (stands_before FORMAT_1 seen begun start (g.D.Disk.seen c.finish.new.disk) (c.in_ok-finish.ensures.stands told)) (c.in_ok-counts.ensures.has told) c.in_ok-counts.ensures.heads bad

-- ---- what is opened

pub returns-clause-stands : goal.returns-clause-stands
returns-clause-stands g c told =
    let seen = g.D.Disk.seen c.args.disk.now in
    let begun = g.D.Disk.seen c.begin.new.disk in
    let start : Begun 9 seen begun = record { others = c.in_ok-begin.ensures.others told; kept = c.in_ok-begin.ensures.kept told; short = c.in_ok-begin.ensures.begun told } in
    subst (λ (s : Image). ImageStandsFor (Spells FORMAT_1) 0 9 s seen) (sym (c.check_old_files.ensures.seen told)) (stands_before FORMAT_1 seen begun start (g.D.Disk.seen c.finish.new.disk) (c.in_ok-finish.ensures.stands told))

pub returns-clause-has : goal.returns-clause-has
returns-clause-has g c told =
    subst (λ (s : Image). HasOldCounts c.args.magic s c.in_ok-counts.counts) (sym (c.check_old_files.ensures.seen told)) (c.in_ok-counts.ensures.has told)

pub returns-clause-rest : goal.returns-clause-rest
returns-clause-rest g c told =
    let m2 = c.finish.new.disk in
    let m3 = c.check_old_files.new.disk in
    rest_read g.D.Disk 0 9 m2 m3 (now_has g.D.Disk (λ d t u i le left. g.met.D.Disk.earlier d t u i told le left) m2 m3 (LeftNow g.D.Disk.moment g.D.Disk.left_since m2) (c.check_old_files.ensures.crash told)) (c.check_old_files.ensures.seen told) (c.in_ok-finish.ensures.rest told)

pub returns-in_err-begin-clause-bad : goal.returns-in_err-begin-clause-bad
returns-in_err-begin-clause-bad g c told =
    let p = err_from_is_err_and c.from_residual.result c.from_residual.ensures.1 in
    rw (p.1, p.2) (inl refl)

pub returns-in_err-begin-clause-only : goal.returns-in_err-begin-clause-only
returns-in_err-begin-clause-only g c =
    let p = err_from_is_err_and c.from_residual.result c.from_residual.ensures.1 in
    rw (p.1, p.2) (inl refl)

pub returns-in_err-begin-clause-is_bad : goal.returns-in_err-begin-clause-is_bad
returns-in_err-begin-clause-is_bad g c told found is_bad =
    let p = err_from_is_err_and c.from_residual.result c.from_residual.ensures.1 in
    rw (p.1, p.2) (inl refl)

pub returns-in_err-begin-clause-untouched : goal.returns-in_err-begin-clause-untouched
returns-in_err-begin-clause-untouched g c told found body =
    let p = err_from_is_err_and c.from_residual.result c.from_residual.ensures.1 in
    rw (p.1, p.2) (inl refl)

pub returns-in_err-finish-clause-only : goal.returns-in_err-finish-clause-only
returns-in_err-finish-clause-only g c =
    let p = err_from_is_err_and c.from_residual-in_err-finish.result c.from_residual-in_err-finish.ensures.1 in
    rw (p.1, p.2) c.in_err-finish.ensures.only

pub returns-in_err-counts-clause-only : goal.returns-in_err-counts-clause-only
returns-in_err-counts-clause-only g c =
    let p = err_from_is_err_and c.from_residual-in_err-counts.result c.from_residual-in_err-counts.ensures.1 in
    rw (p.1, p.2) c.in_err-counts.ensures.only

pub returns-clause-heads : goal.returns-clause-heads
returns-clause-heads g c = c.in_ok-counts.ensures.heads

pub returns-clause-limited : goal.returns-clause-limited
returns-clause-limited g c = c.in_ok-counts.ensures.limited

pub returns-in_err-begin-clause-opens : goal.returns-in_err-begin-clause-opens
returns-in_err-begin-clause-opens g c told tables shows heads =
    let p = err_from_is_err_and c.from_residual.result c.from_residual.ensures.1 in
    rw (p.1, p.2) refl

-- ---- the files beyond the store's, and calls

pub returns-clause-root : goal.returns-clause-root
returns-clause-root g c told =
    ap (λ (s : Image). s 30) (c.check_old_files.ensures.seen told) ∙ c.finish.ensures.beside told 30 (inr (omega arith))
    ∙ c.in_ok-begin.ensures.others told 30 (λ is. omega (arith, is))

pub returns-in_err-begin-clause-beside : goal.returns-in_err-begin-clause-beside
returns-in_err-begin-clause-beside g c told f ne lt = c.begin.ensures.beside told f ne (inr lt)

pub returns-in_err-finish-clause-beside : goal.returns-in_err-finish-clause-beside
returns-in_err-finish-clause-beside g c told f ne lt = c.finish.ensures.beside told f (inr lt) ∙ c.begin.ensures.beside told f ne (inr lt)

pub returns-in_err-counts-clause-beside : goal.returns-in_err-counts-clause-beside
returns-in_err-counts-clause-beside g c told f ne lt = ap (λ (s : Image). s f) (c.check_old_files.ensures.seen told) ∙ c.finish.ensures.beside told f (inr lt) ∙ c.begin.ensures.beside told f ne (inr lt)

pub returns-clause-beside : goal.returns-clause-beside
returns-clause-beside g c told f ne lt = ap (λ (s : Image). s f) (c.check_old_files.ensures.seen told) ∙ c.finish.ensures.beside told f (inr lt) ∙ c.begin.ensures.beside told f ne (inr lt)

pub returns-in_err-begin-clause-quiet : goal.returns-in_err-begin-clause-quiet
returns-in_err-begin-clause-quiet g c told none = omega (arith, c.begin.ensures.calls)

pub returns-in_err-begin-clause-calls : goal.returns-in_err-begin-clause-calls
returns-in_err-begin-clause-calls g c told = omega (arith, c.begin.ensures.calls)

pub returns-in_err-finish-clause-quiet : goal.returns-in_err-finish-clause-quiet
returns-in_err-finish-clause-quiet g c told none =
    let seen = g.D.Disk.seen c.args.disk.now in
    let begun = g.D.Disk.seen c.begin.new.disk in
    let start : Begun 9 seen begun = record { others = c.in_ok-begin.ensures.others told; kept = c.in_ok-begin.ensures.kept told; short = c.in_ok-begin.ensures.begun told } in
    omega (arith, c.begin.ensures.calls, c.finish.ensures.quiet told (begun_none FORMAT_1 seen begun start none))

pub returns-in_err-finish-clause-calls : goal.returns-in_err-finish-clause-calls
returns-in_err-finish-clause-calls g c told =
    let seen = g.D.Disk.seen c.args.disk.now in
    let begun = g.D.Disk.seen c.begin.new.disk in
    let start : Begun 9 seen begun = record { others = c.in_ok-begin.ensures.others told; kept = c.in_ok-begin.ensures.kept told; short = c.in_ok-begin.ensures.begun told } in
    omega (arith, c.begin.ensures.calls, calls_before FORMAT_1 seen begun start _ _ (c.finish.ensures.quiet told) (c.finish.ensures.calls told))

pub returns-in_err-counts-clause-quiet : goal.returns-in_err-counts-clause-quiet
returns-in_err-counts-clause-quiet g c told none =
    let seen = g.D.Disk.seen c.args.disk.now in
    let begun = g.D.Disk.seen c.begin.new.disk in
    let start : Begun 9 seen begun = record { others = c.in_ok-begin.ensures.others told; kept = c.in_ok-begin.ensures.kept told; short = c.in_ok-begin.ensures.begun told } in
    omega (arith, c.begin.ensures.calls, c.finish.ensures.quiet told (begun_none FORMAT_1 seen begun start none), c.check_old_files.ensures.calls)

pub returns-in_err-counts-clause-calls : goal.returns-in_err-counts-clause-calls
returns-in_err-counts-clause-calls g c told =
    let seen = g.D.Disk.seen c.args.disk.now in
    let begun = g.D.Disk.seen c.begin.new.disk in
    let start : Begun 9 seen begun = record { others = c.in_ok-begin.ensures.others told; kept = c.in_ok-begin.ensures.kept told; short = c.in_ok-begin.ensures.begun told } in
    omega (arith, c.begin.ensures.calls, calls_before FORMAT_1 seen begun start _ _ (c.finish.ensures.quiet told) (c.finish.ensures.calls told), c.check_old_files.ensures.calls)

pub returns-clause-quiet : goal.returns-clause-quiet
returns-clause-quiet g c told none =
    let seen = g.D.Disk.seen c.args.disk.now in
    let begun = g.D.Disk.seen c.begin.new.disk in
    let start : Begun 9 seen begun = record { others = c.in_ok-begin.ensures.others told; kept = c.in_ok-begin.ensures.kept told; short = c.in_ok-begin.ensures.begun told } in
    omega (arith, c.begin.ensures.calls, c.finish.ensures.quiet told (begun_none FORMAT_1 seen begun start none), c.check_old_files.ensures.calls)

pub returns-clause-calls : goal.returns-clause-calls
returns-clause-calls g c told =
    let seen = g.D.Disk.seen c.args.disk.now in
    let begun = g.D.Disk.seen c.begin.new.disk in
    let start : Begun 9 seen begun = record { others = c.in_ok-begin.ensures.others told; kept = c.in_ok-begin.ensures.kept told; short = c.in_ok-begin.ensures.begun told } in
    omega (arith, c.begin.ensures.calls, calls_before FORMAT_1 seen begun start _ _ (c.finish.ensures.quiet told) (c.finish.ensures.calls told), c.check_old_files.ensures.calls)
