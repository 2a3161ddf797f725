use Rattle.std.proofs.Common.{◌≢◌, ◌⊎◌, ◌<◌, ℕ, inl, inr, refl, ap, sym, subst, ◌∙◌, arith, rules}
use Rattle.std.proofs.lemmas.Result.{err_from_is_err_and}
use Rattle.el_outside.specs.Disk.{Image}
use Rattle.el_outside.specs.Moments.{LeftNow}
use Rattle.el_redo.specs.RedoBody.{head_bytes}
use Rattle.el_redone.specs.Redone.{ImageStandsFor}
use Rattle.el_redone.proofs.Runs.{now_has}
use Rattle.el_pages.specs.declared.layout.TheConstants.{FORMAT_2}
use Rattle.el_pages.specs.Records.{Spells}
use Rattle.el_pages.specs.Indexes.{HasCounts}
use Rattle.el_pages.proofs.Laid.{sizes_2, small_size, some_size}
use Rattle.el_recovery.proofs.Decided.{stands_or_bad}
use Rattle.el_recovery.proofs.Verdicts.{settled_or_bad}
use Rattle.el_recovery.proofs.Refusals.{one_told, none_told, body_refused, body_untouched, files_refused}
use Rattle.el_recovery.proofs.Settles.{Begun, begun_none, begun_short_is, stands_before, calls_before, rest_read, alike_begun, alike_redone, alike_read}
use Rattle.el_recovery.proofs.opening.settle.Goals as goal

pub finish-requires : goal.finish-requires
finish-requires g c = record {
  few = omega arith;
  narrow = λ t. omega (arith, sizes_2 t, small_size t);
  sized = λ t. some_size t;
  meta = omega arith;
  on_disk = λ told. c.in_ok-begin.ensures.durable told;
  redo_on_disk = λ told. c.in_ok-begin.ensures.redo_durable told;
  root_on_disk = λ told. c.in_ok-begin.ensures.root_durable told;
  begun = λ told lt.
      let start : Begun 29 (g.D.Disk.seen c.args.disk.now) (g.D.Disk.seen c.begin.new.disk) = record { others = c.in_ok-begin.ensures.others told; kept = c.in_ok-begin.ensures.kept told; short = c.in_ok-begin.ensures.begun told } in
      begun_short_is FORMAT_2 (g.D.Disk.seen c.args.disk.now) (g.D.Disk.seen c.begin.new.disk) start lt;
}

-- ---- images

pub returns-in_err-begin-clause-crash : goal.returns-in_err-begin-clause-crash
returns-in_err-begin-clause-crash g c told =
    alike_begun g.D.Disk (λ d t u i le left. g.met.D.Disk.earlier d t u i told le left) FORMAT_2 c.args.disk.now c.begin.new.disk (c.begin.ensures.crash told)

pub returns-in_err-finish-clause-crash : goal.returns-in_err-finish-clause-crash
returns-in_err-finish-clause-crash g c told =
    let begun = c.begin.new.disk in
    alike_redone g.D.Disk (λ d t u i le left. g.met.D.Disk.earlier d t u i told le left) FORMAT_2 c.args.disk.now begun (c.begin.ensures.crash told)
    (g.met.D.Disk.reads_an_image begun told) c.finish.new.disk (c.finish.ensures.crash told)

pub returns-in_err-row-clause-crash : goal.returns-in_err-row-clause-crash
returns-in_err-row-clause-crash g c told =
    let begun = c.begin.new.disk in
    alike_read g.D.Disk (λ d t u i le left. g.met.D.Disk.earlier d t u i told le left) FORMAT_2 c.args.disk.now begun (c.begin.ensures.crash told)
    (g.met.D.Disk.reads_an_image begun told) c.finish.new.disk (c.finish.ensures.crash told) c.check_files.new.disk (c.check_files.ensures.crash told)

pub returns-clause-crash : goal.returns-clause-crash
returns-clause-crash g c told =
    let begun = c.begin.new.disk in
    alike_read g.D.Disk (λ d t u i le left. g.met.D.Disk.earlier d t u i told le left) FORMAT_2 c.args.disk.now begun (c.begin.ensures.crash told)
    (g.met.D.Disk.reads_an_image begun told) c.finish.new.disk (c.finish.ensures.crash told) c.check_files.new.disk (c.check_files.ensures.crash told)

-- ---- bad indexes

pub returns-in_err-finish-clause-bad : goal.returns-in_err-finish-clause-bad
returns-in_err-finish-clause-bad g c told =
    let seen = g.D.Disk.seen c.args.disk.now in
    let begun = g.D.Disk.seen c.begin.new.disk in
    let start : Begun 29 seen begun = record { others = c.in_ok-begin.ensures.others told; kept = c.in_ok-begin.ensures.kept told; short = c.in_ok-begin.ensures.begun told } in
    let p = err_from_is_err_and c.from_residual-in_err-finish.result c.from_residual-in_err-finish.ensures.1 in
    rw (p.1, p.2) (body_refused c.args.magic seen begun (g.D.Disk.seen c.finish.new.disk) start _ (c.in_err-finish.ensures.bad told))

pub returns-in_err-finish-clause-is_bad : goal.returns-in_err-finish-clause-is_bad
returns-in_err-finish-clause-is_bad g c told found bad =
    let seen = g.D.Disk.seen c.args.disk.now in
    let begun = g.D.Disk.seen c.begin.new.disk in
    let start : Begun 29 seen begun = record { others = c.in_ok-begin.ensures.others told; kept = c.in_ok-begin.ensures.kept told; short = c.in_ok-begin.ensures.begun told } in
    let p = err_from_is_err_and c.from_residual-in_err-finish.result c.from_residual-in_err-finish.ensures.1 in
    rw (p.1, p.2) (one_told c.args.magic seen (g.met.D.Disk.small c.args.disk.now 29 told) _ (body_refused c.args.magic seen begun (g.D.Disk.seen c.finish.new.disk) start _ (c.in_err-finish.ensures.bad told)) found bad)

pub returns-in_err-finish-clause-untouched : goal.returns-in_err-finish-clause-untouched
returns-in_err-finish-clause-untouched g c told found body =
    let seen = g.D.Disk.seen c.args.disk.now in
    let begun = g.D.Disk.seen c.begin.new.disk in
    let start : Begun 29 seen begun = record { others = c.in_ok-begin.ensures.others told; kept = c.in_ok-begin.ensures.kept told; short = c.in_ok-begin.ensures.begun told } in
    let p = err_from_is_err_and c.from_residual-in_err-finish.result c.from_residual-in_err-finish.ensures.1 in
    rw (p.1, p.2) (body_untouched c.args.magic seen begun (g.D.Disk.seen c.finish.new.disk) start _ (c.in_err-finish.ensures.bad told))

pub returns-in_err-finish-clause-opens : goal.returns-in_err-finish-clause-opens
returns-in_err-finish-clause-opens g c told tables index =
    let seen = g.D.Disk.seen c.args.disk.now in
    let begun = g.D.Disk.seen c.begin.new.disk in
    let start : Begun 29 seen begun = record { others = c.in_ok-begin.ensures.others told; kept = c.in_ok-begin.ensures.kept told; short = c.in_ok-begin.ensures.begun told } in
    let p = err_from_is_err_and c.from_residual-in_err-finish.result c.from_residual-in_err-finish.ensures.1 in
    rw (p.1, p.2) (none_told c.args.magic seen (g.met.D.Disk.small c.args.disk.now 29 told) _ (body_refused c.args.magic seen begun (g.D.Disk.seen c.finish.new.disk) start _ (c.in_err-finish.ensures.bad told)) (search rules) tables index)

pub returns-in_err-row-clause-bad : goal.returns-in_err-row-clause-bad
returns-in_err-row-clause-bad g c told =
    let seen = g.D.Disk.seen c.args.disk.now in
    let begun = g.D.Disk.seen c.begin.new.disk in
    let start : Begun 29 seen begun = record { others = c.in_ok-begin.ensures.others told; kept = c.in_ok-begin.ensures.kept told; short = c.in_ok-begin.ensures.begun told } in
    let p = err_from_is_err_and c.from_residual-in_err-row.result c.from_residual-in_err-row.ensures.1 in
    rw (p.1, p.2) (files_refused c.args.magic seen begun (g.D.Disk.seen c.finish.new.disk) start _ (c.in_ok-finish.ensures.stands told) (c.in_err-row.ensures.bad told))

pub returns-in_err-row-clause-is_bad : goal.returns-in_err-row-clause-is_bad
returns-in_err-row-clause-is_bad g c told found bad =
    let seen = g.D.Disk.seen c.args.disk.now in
    let begun = g.D.Disk.seen c.begin.new.disk in
    let start : Begun 29 seen begun = record { others = c.in_ok-begin.ensures.others told; kept = c.in_ok-begin.ensures.kept told; short = c.in_ok-begin.ensures.begun told } in
    let p = err_from_is_err_and c.from_residual-in_err-row.result c.from_residual-in_err-row.ensures.1 in
    rw (p.1, p.2) (one_told c.args.magic seen (g.met.D.Disk.small c.args.disk.now 29 told) _ (files_refused c.args.magic seen begun (g.D.Disk.seen c.finish.new.disk) start _ (c.in_ok-finish.ensures.stands told) (c.in_err-row.ensures.bad told)) found bad)

pub returns-in_err-row-clause-untouched : goal.returns-in_err-row-clause-untouched
returns-in_err-row-clause-untouched g c told found body =
    let seen = g.D.Disk.seen c.args.disk.now in
    let begun = g.D.Disk.seen c.begin.new.disk in
    let start : Begun 29 seen begun = record { others = c.in_ok-begin.ensures.others told; kept = c.in_ok-begin.ensures.kept told; short = c.in_ok-begin.ensures.begun told } in
    absurd (stands_or_bad FORMAT_2 some_size seen (g.D.Disk.seen c.finish.new.disk) found (g.met.D.Disk.small c.args.disk.now 29 told) (stands_before FORMAT_2 seen begun start (g.D.Disk.seen c.finish.new.disk) (c.in_ok-finish.ensures.stands told)) body)

pub returns-in_err-row-clause-opens : goal.returns-in_err-row-clause-opens
returns-in_err-row-clause-opens g c told tables index =
    let seen = g.D.Disk.seen c.args.disk.now in
    let begun = g.D.Disk.seen c.begin.new.disk in
    let start : Begun 29 seen begun = record { others = c.in_ok-begin.ensures.others told; kept = c.in_ok-begin.ensures.kept told; short = c.in_ok-begin.ensures.begun told } in
    let p = err_from_is_err_and c.from_residual-in_err-row.result c.from_residual-in_err-row.ensures.1 in
    rw (p.1, p.2) (none_told c.args.magic seen (g.met.D.Disk.small c.args.disk.now 29 told) _ (files_refused c.args.magic seen begun (g.D.Disk.seen c.finish.new.disk) start _ (c.in_ok-finish.ensures.stands told) (c.in_err-row.ensures.bad told)) (search rules) tables index)

pub returns-clause-is_bad : goal.returns-clause-is_bad
returns-clause-is_bad g c told found bad =
    let seen = g.D.Disk.seen c.args.disk.now in
    let begun = g.D.Disk.seen c.begin.new.disk in
    let start : Begun 29 seen begun = record { others = c.in_ok-begin.ensures.others told; kept = c.in_ok-begin.ensures.kept told; short = c.in_ok-begin.ensures.begun told } in
    settled_or_bad c.args.magic seen (g.D.Disk.seen c.finish.new.disk) c.in_ok-row.row.counts c.in_ok-row.row.bits found (search rules) (g.met.D.Disk.small c.args.disk.now 29 told) some_size
    (stands_before FORMAT_2 seen begun start (g.D.Disk.seen c.finish.new.disk) (c.in_ok-finish.ensures.stands told)) (c.in_ok-row.ensures.has told) c.in_ok-row.ensures.bits c.in_ok-row.ensures.heads bad

-- ---- what is opened

pub returns-clause-stands : goal.returns-clause-stands
returns-clause-stands g c told =
    let seen = g.D.Disk.seen c.args.disk.now in
    let begun = g.D.Disk.seen c.begin.new.disk in
    let start : Begun 29 seen begun = record { others = c.in_ok-begin.ensures.others told; kept = c.in_ok-begin.ensures.kept told; short = c.in_ok-begin.ensures.begun told } in
    subst (λ (s : Image). ImageStandsFor (Spells FORMAT_2) 20 29 s seen) (sym (c.check_files.ensures.seen told)) (stands_before FORMAT_2 seen begun start (g.D.Disk.seen c.finish.new.disk) (c.in_ok-finish.ensures.stands told))

pub returns-clause-has : goal.returns-clause-has
returns-clause-has g c told =
    subst (λ (s : Image). HasCounts FORMAT_2 (head_bytes c.args.magic c.in_ok-row.row.bits) s c.in_ok-row.row.counts) (sym (c.check_files.ensures.seen told)) (c.in_ok-row.ensures.has told)

pub returns-clause-rest : goal.returns-clause-rest
returns-clause-rest g c told =
    let m2 = c.finish.new.disk in
    let m3 = c.check_files.new.disk in
    rest_read g.D.Disk 20 29 m2 m3 (now_has g.D.Disk (λ d t u i le left. g.met.D.Disk.earlier d t u i told le left) m2 m3 (LeftNow g.D.Disk.moment g.D.Disk.left_since m2) (c.check_files.ensures.crash told)) (c.check_files.ensures.seen told) (c.in_ok-finish.ensures.rest told)

pub returns-in_err-begin-clause-bad : goal.returns-in_err-begin-clause-bad
returns-in_err-begin-clause-bad g c told =
    let p = err_from_is_err_and c.from_residual.result c.from_residual.ensures.1 in
    rw (p.1, p.2) (inl refl)

pub returns-in_err-begin-clause-only : goal.returns-in_err-begin-clause-only
returns-in_err-begin-clause-only g c =
    let p = err_from_is_err_and c.from_residual.result c.from_residual.ensures.1 in
    rw (p.1, p.2) (inl refl)

pub returns-in_err-begin-clause-is_bad : goal.returns-in_err-begin-clause-is_bad
returns-in_err-begin-clause-is_bad g c told found is_bad =
    let p = err_from_is_err_and c.from_residual.result c.from_residual.ensures.1 in
    rw (p.1, p.2) (inl refl)

pub returns-in_err-begin-clause-untouched : goal.returns-in_err-begin-clause-untouched
returns-in_err-begin-clause-untouched g c told found body =
    let p = err_from_is_err_and c.from_residual.result c.from_residual.ensures.1 in
    rw (p.1, p.2) (inl refl)

pub returns-in_err-finish-clause-only : goal.returns-in_err-finish-clause-only
returns-in_err-finish-clause-only g c =
    let p = err_from_is_err_and c.from_residual-in_err-finish.result c.from_residual-in_err-finish.ensures.1 in
    rw (p.1, p.2) c.in_err-finish.ensures.only

pub returns-in_err-row-clause-only : goal.returns-in_err-row-clause-only
returns-in_err-row-clause-only g c =
    let p = err_from_is_err_and c.from_residual-in_err-row.result c.from_residual-in_err-row.ensures.1 in
    rw (p.1, p.2) c.in_err-row.ensures.only

pub returns-clause-bits : goal.returns-clause-bits
returns-clause-bits g c = c.in_ok-row.ensures.bits

pub returns-clause-heads : goal.returns-clause-heads
returns-clause-heads g c = c.in_ok-row.ensures.heads

pub returns-clause-limited : goal.returns-clause-limited
returns-clause-limited g c = c.in_ok-row.ensures.limited

pub returns-in_err-begin-clause-opens : goal.returns-in_err-begin-clause-opens
returns-in_err-begin-clause-opens g c told tables index =
    let p = err_from_is_err_and c.from_residual.result c.from_residual.ensures.1 in
    rw (p.1, p.2) refl

-- ---- the files beyond the store's, and calls

not_root : (f : ℕ) → (f < 20) ⊎ (30 < f) → f ≢ 30
not_root f (inl lt) is = omega (arith, is, lt)
not_root f (inr lt) is = omega (arith, is, lt)

outside : (f : ℕ) → (f < 20) ⊎ (30 < f) → (f < 20) ⊎ (29 < f)
outside f (inl lt) = inl lt
outside f (inr lt) = inr (omega (arith, lt))

pub returns-in_err-begin-clause-beside : goal.returns-in_err-begin-clause-beside
returns-in_err-begin-clause-beside g c told f at = c.begin.ensures.beside told f (not_root f at) (outside f at)

pub returns-in_err-finish-clause-beside : goal.returns-in_err-finish-clause-beside
returns-in_err-finish-clause-beside g c told f at = c.finish.ensures.beside told f (outside f at) ∙ c.begin.ensures.beside told f (not_root f at) (outside f at)

pub returns-in_err-row-clause-beside : goal.returns-in_err-row-clause-beside
returns-in_err-row-clause-beside g c told f at = ap (λ (s : Image). s f) (c.check_files.ensures.seen told) ∙ c.finish.ensures.beside told f (outside f at) ∙ c.begin.ensures.beside told f (not_root f at) (outside f at)

pub returns-clause-beside : goal.returns-clause-beside
returns-clause-beside g c told f at = ap (λ (s : Image). s f) (c.check_files.ensures.seen told) ∙ c.finish.ensures.beside told f (outside f at) ∙ c.begin.ensures.beside told f (not_root f at) (outside f at)

pub returns-clause-root : goal.returns-clause-root
returns-clause-root g c told =
    ap (λ (s : Image). s 30) (c.check_files.ensures.seen told) ∙ c.finish.ensures.beside told 30 (inr (omega arith))
    ∙ c.in_ok-begin.ensures.others told 30 (λ is. omega (arith, is))

pub returns-in_err-begin-clause-quiet : goal.returns-in_err-begin-clause-quiet
returns-in_err-begin-clause-quiet g c told none = omega (arith, c.begin.ensures.calls)

pub returns-in_err-begin-clause-calls : goal.returns-in_err-begin-clause-calls
returns-in_err-begin-clause-calls g c told = omega (arith, c.begin.ensures.calls)

pub returns-in_err-finish-clause-quiet : goal.returns-in_err-finish-clause-quiet
returns-in_err-finish-clause-quiet g c told none =
    let seen = g.D.Disk.seen c.args.disk.now in
    let begun = g.D.Disk.seen c.begin.new.disk in
    let start : Begun 29 seen begun = record { others = c.in_ok-begin.ensures.others told; kept = c.in_ok-begin.ensures.kept told; short = c.in_ok-begin.ensures.begun told } in
    omega (arith, c.begin.ensures.calls, c.finish.ensures.quiet told (begun_none FORMAT_2 seen begun start none))

pub returns-in_err-finish-clause-calls : goal.returns-in_err-finish-clause-calls
returns-in_err-finish-clause-calls g c told =
    let seen = g.D.Disk.seen c.args.disk.now in
    let begun = g.D.Disk.seen c.begin.new.disk in
    let start : Begun 29 seen begun = record { others = c.in_ok-begin.ensures.others told; kept = c.in_ok-begin.ensures.kept told; short = c.in_ok-begin.ensures.begun told } in
    omega (arith, c.begin.ensures.calls, calls_before FORMAT_2 seen begun start _ _ (c.finish.ensures.quiet told) (c.finish.ensures.calls told))

pub returns-in_err-row-clause-quiet : goal.returns-in_err-row-clause-quiet
returns-in_err-row-clause-quiet g c told none =
    let seen = g.D.Disk.seen c.args.disk.now in
    let begun = g.D.Disk.seen c.begin.new.disk in
    let start : Begun 29 seen begun = record { others = c.in_ok-begin.ensures.others told; kept = c.in_ok-begin.ensures.kept told; short = c.in_ok-begin.ensures.begun told } in
    omega (arith, c.begin.ensures.calls, c.finish.ensures.quiet told (begun_none FORMAT_2 seen begun start none), c.check_files.ensures.calls)

pub returns-in_err-row-clause-calls : goal.returns-in_err-row-clause-calls
returns-in_err-row-clause-calls g c told =
    let seen = g.D.Disk.seen c.args.disk.now in
    let begun = g.D.Disk.seen c.begin.new.disk in
    let start : Begun 29 seen begun = record { others = c.in_ok-begin.ensures.others told; kept = c.in_ok-begin.ensures.kept told; short = c.in_ok-begin.ensures.begun told } in
    omega (arith, c.begin.ensures.calls, calls_before FORMAT_2 seen begun start _ _ (c.finish.ensures.quiet told) (c.finish.ensures.calls told), c.check_files.ensures.calls)

pub returns-clause-quiet : goal.returns-clause-quiet
returns-clause-quiet g c told none =
    let seen = g.D.Disk.seen c.args.disk.now in
    let begun = g.D.Disk.seen c.begin.new.disk in
    let start : Begun 29 seen begun = record { others = c.in_ok-begin.ensures.others told; kept = c.in_ok-begin.ensures.kept told; short = c.in_ok-begin.ensures.begun told } in
    omega (arith, c.begin.ensures.calls, c.finish.ensures.quiet told (begun_none FORMAT_2 seen begun start none), c.check_files.ensures.calls)

pub returns-clause-calls : goal.returns-clause-calls
returns-clause-calls g c told =
    let seen = g.D.Disk.seen c.args.disk.now in
    let begun = g.D.Disk.seen c.begin.new.disk in
    let start : Begun 29 seen begun = record { others = c.in_ok-begin.ensures.others told; kept = c.in_ok-begin.ensures.kept told; short = c.in_ok-begin.ensures.begun told } in
    omega (arith, c.begin.ensures.calls, calls_before FORMAT_2 seen begun start _ _ (c.finish.ensures.quiet told) (c.finish.ensures.calls told), c.check_files.ensures.calls)
