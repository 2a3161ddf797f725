use Rattle.std.proofs.Common.{◌≡◌, ◌≤◌, ℕ, List, [], ◌∷◌, length, replicate, inl, inr, refl, ap, ◌∙◌, arith}
use Rattle.std.proofs.lemmas.Result.{err_from_is_err_and}
use Rattle.std.specs.Int.{w32, from_le_bytes}
use Rattle.el_outside.specs.Disk.{Image}
use Rattle.el_row_formats.specs.declared.table.Table.{Table}
use Rattle.el_row_formats.specs.declared.table.Table.TheVariants as table
use Rattle.el_rows.specs.Changes.{count_at}
use Rattle.el_pages.specs.declared.layout.TheConstants.{FORMAT_2}
use Rattle.el_pages.specs.Layouts.{file_of}
use Rattle.el_pages.proofs.Laid.{limits_2}
use Rattle.el_recovery.specs.Checks.{Found}
use Rattle.el_recovery.proofs.Fronts.{fault_is}
use Rattle.el_recovery.proofs.FileChecks.{front_read, bad_row_there, bad_size_there, files_has}
use Rattle.el_recovery.proofs.Settles.{one_read, reads_on}
use Rattle.el_recovery.proofs.files.check_files.Goals as goal

pub returns-then-size-lt80-clause-bad : goal.returns-then-size-lt80-clause-bad
returns-then-size-lt80-clause-bad g c told =
    let old = c.args.disk.now in
    let seen = g.D.Disk.seen old in
    let size : c.in_ok-size.size ≡ length (seen 20) = c.in_ok-size.ensures.size told in
    inr ((20, 80, length (seen 20)), fault_is refl refl size, inl (omega (arith, size, c.if-size-lt80.true), refl))

pub returns-in_err-row-clause-bad : goal.returns-in_err-row-clause-bad
returns-in_err-row-clause-bad g c told =
    let p = err_from_is_err_and c.from_residual-in_err-row.result c.from_residual-in_err-row.ensures.1 in
    rw (p.1, p.2) (
    let old = c.args.disk.now in
    let seen = g.D.Disk.seen old in
    let size : c.in_ok-size.size ≡ length (seen 20) = c.in_ok-size.ensures.size told in
    let long : 80 ≤ length (seen 20) = omega (arith, size, c.if-size-lt80.false) in
    let read = front_read seen (g.D.Disk.seen c.size.new.self) c.in_ok-meta.meta (c.size.ensures.seen told) long (c.in_ok-meta.ensures.read told) in
    let bad = c.in_err-row.ensures.bad in
    inr (bad.0, bad.1, bad_row_there (from_le_bytes w32 c.args.magic) seen c.in_ok-meta.meta long read bad.0 bad.2)
    )

pub returns-in_err-check_sizes-clause-bad : goal.returns-in_err-check_sizes-clause-bad
returns-in_err-check_sizes-clause-bad g c told =
    let p = err_from_is_err_and c.from_residual-in_err-check_sizes.result c.from_residual-in_err-check_sizes.ensures.1 in
    rw (p.1, p.2) (
    let old = c.args.disk.now in
    let seen = g.D.Disk.seen old in
    let size : c.in_ok-size.size ≡ length (seen 20) = c.in_ok-size.ensures.size told in
    let long : 80 ≤ length (seen 20) = omega (arith, size, c.if-size-lt80.false) in
    let read = front_read seen (g.D.Disk.seen c.size.new.self) c.in_ok-meta.meta (c.size.ensures.seen told) long (c.in_ok-meta.ensures.read told) in
    let same : g.D.Disk.seen c.read_meta.new.disk ≡ seen = c.read_meta.ensures.seen told ∙ c.size.ensures.seen told in
    let each : (t : Table) → count_at c.in_ok-sizes.sizes t ≡ length (seen (file_of FORMAT_2 t)) = λ t. c.in_ok-sizes.ensures.sizes told t ∙ ap (λ (s : Image). length (s (file_of FORMAT_2 t))) same in
    let bad = c.in_err-check_sizes.ensures.bad in
    inr (
      bad.0,
      bad.1,
      bad_size_there (from_le_bytes w32 c.args.magic) seen c.in_ok-meta.meta long read c.in_ok-row.row.counts c.in_ok-sizes.sizes c.in_ok-row.row.bits (c.in_ok-row.ensures.bits).0 c.in_ok-row.ensures.told bad.0
          c.in_ok-row.ensures.head c.in_ok-row.ensures.heads c.in_ok-row.ensures.limited each bad.2,
    )
    )

pub returns-clause-has : goal.returns-clause-has
returns-clause-has g c told =
    let old = c.args.disk.now in
    let seen = g.D.Disk.seen old in
    let size : c.in_ok-size.size ≡ length (seen 20) = c.in_ok-size.ensures.size told in
    let long : 80 ≤ length (seen 20) = omega (arith, size, c.if-size-lt80.false) in
    let read = front_read seen (g.D.Disk.seen c.size.new.self) c.in_ok-meta.meta (c.size.ensures.seen told) long (c.in_ok-meta.ensures.read told) in
    let same : g.D.Disk.seen c.read_meta.new.disk ≡ seen = c.read_meta.ensures.seen told ∙ c.size.ensures.seen told in
    let each : (t : Table) → count_at c.in_ok-sizes.sizes t ≡ length (seen (file_of FORMAT_2 t)) = λ t. c.in_ok-sizes.ensures.sizes told t ∙ ap (λ (s : Image). length (s (file_of FORMAT_2 t))) same in
    files_has seen c.args.magic c.in_ok-meta.meta c.in_ok-row.row.counts c.in_ok-row.row.bits long read c.in_ok-row.ensures.is c.in_ok-row.ensures.limited
    (λ t. omega (arith, c.in_ok-check_sizes.ensures.ok t, each t))

pub returns-in_err-size-clause-crash : goal.returns-in_err-size-clause-crash
returns-in_err-size-clause-crash g c told = one_read g.D.Disk c.args.disk.now c.size.new.self (c.size.ensures.time told) (c.size.ensures.crash told)

pub returns-then-size-lt80-clause-crash : goal.returns-then-size-lt80-clause-crash
returns-then-size-lt80-clause-crash g c told = one_read g.D.Disk c.args.disk.now c.size.new.self (c.size.ensures.time told) (c.size.ensures.crash told)

pub returns-in_err-meta-clause-crash : goal.returns-in_err-meta-clause-crash
returns-in_err-meta-clause-crash g c told =
    reads_on g.D.Disk (λ d t u i le left. g.met.D.Disk.earlier d t u i told le left) c.args.disk.now c.size.new.self c.read_meta.new.disk
    (one_read g.D.Disk c.args.disk.now c.size.new.self (c.size.ensures.time told) (c.size.ensures.crash told))
    (one_read g.D.Disk c.size.new.self c.read_meta.new.disk (c.read_meta.ensures.time told) (c.read_meta.ensures.crash told))

pub returns-in_err-row-clause-crash : goal.returns-in_err-row-clause-crash
returns-in_err-row-clause-crash g c told =
    reads_on g.D.Disk (λ d t u i le left. g.met.D.Disk.earlier d t u i told le left) c.args.disk.now c.size.new.self c.read_meta.new.disk
    (one_read g.D.Disk c.args.disk.now c.size.new.self (c.size.ensures.time told) (c.size.ensures.crash told))
    (one_read g.D.Disk c.size.new.self c.read_meta.new.disk (c.read_meta.ensures.time told) (c.read_meta.ensures.crash told))

pub returns-in_err-sizes-clause-crash : goal.returns-in_err-sizes-clause-crash
returns-in_err-sizes-clause-crash g c told =
    let twice = reads_on g.D.Disk (λ d t u i le left. g.met.D.Disk.earlier d t u i told le left) c.args.disk.now c.size.new.self c.read_meta.new.disk
    (one_read g.D.Disk c.args.disk.now c.size.new.self (c.size.ensures.time told) (c.size.ensures.crash told))
    (one_read g.D.Disk c.size.new.self c.read_meta.new.disk (c.read_meta.ensures.time told) (c.read_meta.ensures.crash told)) in
    reads_on g.D.Disk (λ d t u i le left. g.met.D.Disk.earlier d t u i told le left) c.args.disk.now c.read_meta.new.disk c.file_sizes.new.disk twice (c.file_sizes.ensures.crash told)

pub returns-in_err-check_sizes-clause-crash : goal.returns-in_err-check_sizes-clause-crash
returns-in_err-check_sizes-clause-crash g c told =
    let twice = reads_on g.D.Disk (λ d t u i le left. g.met.D.Disk.earlier d t u i told le left) c.args.disk.now c.size.new.self c.read_meta.new.disk
    (one_read g.D.Disk c.args.disk.now c.size.new.self (c.size.ensures.time told) (c.size.ensures.crash told))
    (one_read g.D.Disk c.size.new.self c.read_meta.new.disk (c.read_meta.ensures.time told) (c.read_meta.ensures.crash told)) in
    reads_on g.D.Disk (λ d t u i le left. g.met.D.Disk.earlier d t u i told le left) c.args.disk.now c.read_meta.new.disk c.file_sizes.new.disk twice (c.file_sizes.ensures.crash told)

pub returns-clause-crash : goal.returns-clause-crash
returns-clause-crash g c told =
    let twice = reads_on g.D.Disk (λ d t u i le left. g.met.D.Disk.earlier d t u i told le left) c.args.disk.now c.size.new.self c.read_meta.new.disk
    (one_read g.D.Disk c.args.disk.now c.size.new.self (c.size.ensures.time told) (c.size.ensures.crash told))
    (one_read g.D.Disk c.size.new.self c.read_meta.new.disk (c.read_meta.ensures.time told) (c.read_meta.ensures.crash told)) in
    reads_on g.D.Disk (λ d t u i le left. g.met.D.Disk.earlier d t u i told le left) c.args.disk.now c.read_meta.new.disk c.file_sizes.new.disk twice (c.file_sizes.ensures.crash told)

pub returns-in_err-size-clause-bad : goal.returns-in_err-size-clause-bad
returns-in_err-size-clause-bad g c told =
    let p = err_from_is_err_and c.from_residual.result c.from_residual.ensures.1 in
    rw (p.1, p.2) (inl refl)

pub returns-in_err-size-clause-only : goal.returns-in_err-size-clause-only
returns-in_err-size-clause-only g c =
    let p = err_from_is_err_and c.from_residual.result c.from_residual.ensures.1 in
    rw (p.1, p.2) (inl refl)

pub returns-in_err-meta-clause-bad : goal.returns-in_err-meta-clause-bad
returns-in_err-meta-clause-bad g c told =
    let p = err_from_is_err_and c.from_residual-in_err-meta.result c.from_residual-in_err-meta.ensures.1 in
    rw (p.1, p.2) (inl refl)

pub returns-in_err-meta-clause-only : goal.returns-in_err-meta-clause-only
returns-in_err-meta-clause-only g c =
    let p = err_from_is_err_and c.from_residual-in_err-meta.result c.from_residual-in_err-meta.ensures.1 in
    rw (p.1, p.2) (inl refl)

pub returns-in_err-sizes-clause-bad : goal.returns-in_err-sizes-clause-bad
returns-in_err-sizes-clause-bad g c told =
    let p = err_from_is_err_and c.from_residual-in_err-sizes.result c.from_residual-in_err-sizes.ensures.1 in
    rw (p.1, p.2) (inl refl)

pub returns-in_err-sizes-clause-only : goal.returns-in_err-sizes-clause-only
returns-in_err-sizes-clause-only g c =
    let p = err_from_is_err_and c.from_residual-in_err-sizes.result c.from_residual-in_err-sizes.ensures.1 in
    rw (p.1, p.2) (inl refl)

pub returns-in_err-row-clause-only : goal.returns-in_err-row-clause-only
returns-in_err-row-clause-only g c =
    let p = err_from_is_err_and c.from_residual-in_err-row.result c.from_residual-in_err-row.ensures.1 in
    let found = c.in_err-row.ensures.bad in
    rw (p.1, p.2) (inr (found.0, found.1))

pub returns-in_err-check_sizes-clause-only : goal.returns-in_err-check_sizes-clause-only
returns-in_err-check_sizes-clause-only g c =
    let p = err_from_is_err_and c.from_residual-in_err-check_sizes.result c.from_residual-in_err-check_sizes.ensures.1 in
    let found = c.in_err-check_sizes.ensures.bad in
    rw (p.1, p.2) (inr (found.0, found.1))

pub returns-clause-bits : goal.returns-clause-bits
returns-clause-bits g c = (c.in_ok-row.ensures.bits).1

pub returns-clause-heads : goal.returns-clause-heads
returns-clause-heads g c = c.in_ok-row.ensures.heads

pub returns-clause-limited : goal.returns-clause-limited
returns-clause-limited g c t = omega (arith, c.in_ok-row.ensures.limited t, limits_2 t)

pub check_sizes-requires : goal.check_sizes-requires
check_sizes-requires g c = record { limited = c.in_ok-row.ensures.limited }

pub returns-then-size-lt80-clause-only : goal.returns-then-size-lt80-clause-only
returns-then-size-lt80-clause-only g c = let found : Found = (20, 80, c.in_ok-size.size) in inr (found, refl)
