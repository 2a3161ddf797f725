use Rattle.std.proofs.Common.{◌≡◌, ◌≤◌, ℕ, List, [], ◌∷◌, length, replicate, inl, inr, refl, ap, ◌∙◌, arith}
use Rattle.std.proofs.lemmas.Result.{err_from_is_err_and}
use Rattle.std.specs.Int.{w32, from_le_bytes}
use Rattle.el_outside.specs.Disk.{Image}
use Rattle.el_row_formats.specs.declared.table.Table.{Table}
use Rattle.el_row_formats.specs.declared.table.Table.TheVariants as table
use Rattle.el_rows.specs.Changes.{count_at}
use Rattle.el_pages.specs.declared.layout.TheConstants.{FORMAT_1}
use Rattle.el_pages.specs.Layouts.{file_of}
use Rattle.el_recovery.specs.Checks.{Found}
use Rattle.el_recovery.proofs.Fronts.{fault_is}
use Rattle.el_migrate.proofs.OldFileChecks.{front_read, bad_row_there, bad_size_there, files_has}
use Rattle.el_recovery.proofs.Settles.{one_read, reads_on}
use Rattle.el_migrate.proofs.old_files.check_old_files.Goals as goal

no_rows_at : (t : Table) → count_at (replicate 8 0) t ≡ 0
no_rows_at table.Blocks = refl
no_rows_at table.Txs = refl
no_rows_at table.TxHeads = refl
no_rows_at table.Outs = refl
no_rows_at table.Ins = refl
no_rows_at table.Scripts = refl
no_rows_at table.ScriptHeads = refl
no_rows_at table.Entries = refl

none_in : (file : List ℕ) → length file ≡ 0 → file ≡ []
none_in [] is = refl
none_in (x ∷ rest) is = absurd (omega (arith, is))

pub returns-then-size-eq0-clause-has : goal.returns-then-size-eq0-clause-has
returns-then-size-eq0-clause-has g c told =
    let old = c.args.disk.now in
    let seen = g.D.Disk.seen old in
    let size : c.in_ok-size.size ≡ length (seen 0) = c.in_ok-size.ensures.size told in
    inr (record { empty = none_in (seen 0) (omega (arith, size, c.if-size-eq0.true)); none = λ t. no_rows_at t })

pub returns-then-size-eq0-clause-heads : goal.returns-then-size-eq0-clause-heads
returns-then-size-eq0-clause-heads g c = inr (λ t. no_rows_at t)

pub returns-then-size-eq0-clause-limited : goal.returns-then-size-eq0-clause-limited
returns-then-size-eq0-clause-limited g c t = omega (arith, no_rows_at t)

pub returns-then-size-lt76-clause-bad : goal.returns-then-size-lt76-clause-bad
returns-then-size-lt76-clause-bad g c told =
    let old = c.args.disk.now in
    let seen = g.D.Disk.seen old in
    let size : c.in_ok-size.size ≡ length (seen 0) = c.in_ok-size.ensures.size told in
    inr ((0, 76, length (seen 0)), fault_is refl refl size, inl (omega (arith, size, c.if-size-eq0.false), (omega (arith, size, c.if-size-lt76.true), refl)))

pub returns-in_err-counts-clause-bad : goal.returns-in_err-counts-clause-bad
returns-in_err-counts-clause-bad g c told =
    let p = err_from_is_err_and c.from_residual-in_err-counts.result c.from_residual-in_err-counts.ensures.1 in
    rw (p.1, p.2) (
    let old = c.args.disk.now in
    let seen = g.D.Disk.seen old in
    let size : c.in_ok-size.size ≡ length (seen 0) = c.in_ok-size.ensures.size told in
    let long : 76 ≤ length (seen 0) = omega (arith, size, c.if-size-lt76.false) in
    let read = front_read seen (g.D.Disk.seen c.size.new.self) c.in_ok-meta.meta (c.size.ensures.seen told) long (c.in_ok-meta.ensures.read told) in
    let bad = c.in_err-counts.ensures.bad in
    inr (bad.0, bad.1, bad_row_there (from_le_bytes w32 c.args.magic) seen c.in_ok-meta.meta long read bad.0 bad.2)
    )

pub returns-in_err-check_sizes-clause-bad : goal.returns-in_err-check_sizes-clause-bad
returns-in_err-check_sizes-clause-bad g c told =
    let p = err_from_is_err_and c.from_residual-in_err-check_sizes.result c.from_residual-in_err-check_sizes.ensures.1 in
    rw (p.1, p.2) (
    let old = c.args.disk.now in
    let seen = g.D.Disk.seen old in
    let size : c.in_ok-size.size ≡ length (seen 0) = c.in_ok-size.ensures.size told in
    let long : 76 ≤ length (seen 0) = omega (arith, size, c.if-size-lt76.false) in
    let read = front_read seen (g.D.Disk.seen c.size.new.self) c.in_ok-meta.meta (c.size.ensures.seen told) long (c.in_ok-meta.ensures.read told) in
    let same : g.D.Disk.seen c.read_meta.new.disk ≡ seen = c.read_meta.ensures.seen told ∙ c.size.ensures.seen told in
    let each : (t : Table) → count_at c.in_ok-sizes.sizes t ≡ length (seen (file_of FORMAT_1 t)) = λ t. c.in_ok-sizes.ensures.sizes told t ∙ ap (λ (s : Image). length (s (file_of FORMAT_1 t))) same in
    let bad = c.in_err-check_sizes.ensures.bad in
    inr (
      bad.0,
      bad.1,
      bad_size_there (from_le_bytes w32 c.args.magic) seen c.in_ok-meta.meta long read c.in_ok-counts.counts c.in_ok-sizes.sizes c.in_ok-counts.ensures.told bad.0
          c.in_ok-counts.ensures.head c.in_ok-counts.ensures.heads c.in_ok-counts.ensures.limited each bad.2,
    )
    )

pub returns-clause-has : goal.returns-clause-has
returns-clause-has g c told =
    let old = c.args.disk.now in
    let seen = g.D.Disk.seen old in
    let size : c.in_ok-size.size ≡ length (seen 0) = c.in_ok-size.ensures.size told in
    let long : 76 ≤ length (seen 0) = omega (arith, size, c.if-size-lt76.false) in
    let read = front_read seen (g.D.Disk.seen c.size.new.self) c.in_ok-meta.meta (c.size.ensures.seen told) long (c.in_ok-meta.ensures.read told) in
    let same : g.D.Disk.seen c.read_meta.new.disk ≡ seen = c.read_meta.ensures.seen told ∙ c.size.ensures.seen told in
    let each : (t : Table) → count_at c.in_ok-sizes.sizes t ≡ length (seen (file_of FORMAT_1 t)) = λ t. c.in_ok-sizes.ensures.sizes told t ∙ ap (λ (s : Image). length (s (file_of FORMAT_1 t))) same in
    files_has seen c.args.magic c.in_ok-meta.meta c.in_ok-counts.counts long read c.in_ok-counts.ensures.is c.in_ok-counts.ensures.limited
    (λ t. omega (arith, c.in_ok-check_sizes.ensures.ok t, each t))

pub returns-in_err-size-clause-crash : goal.returns-in_err-size-clause-crash
returns-in_err-size-clause-crash g c told = one_read g.D.Disk c.args.disk.now c.size.new.self (c.size.ensures.time told) (c.size.ensures.crash told)

pub returns-then-size-eq0-clause-crash : goal.returns-then-size-eq0-clause-crash
returns-then-size-eq0-clause-crash g c told = one_read g.D.Disk c.args.disk.now c.size.new.self (c.size.ensures.time told) (c.size.ensures.crash told)

pub returns-then-size-lt76-clause-crash : goal.returns-then-size-lt76-clause-crash
returns-then-size-lt76-clause-crash g c told = one_read g.D.Disk c.args.disk.now c.size.new.self (c.size.ensures.time told) (c.size.ensures.crash told)

pub returns-in_err-meta-clause-crash : goal.returns-in_err-meta-clause-crash
returns-in_err-meta-clause-crash g c told =
    reads_on g.D.Disk (λ d t u i le left. g.met.D.Disk.earlier d t u i told le left) c.args.disk.now c.size.new.self c.read_meta.new.disk
    (one_read g.D.Disk c.args.disk.now c.size.new.self (c.size.ensures.time told) (c.size.ensures.crash told))
    (one_read g.D.Disk c.size.new.self c.read_meta.new.disk (c.read_meta.ensures.time told) (c.read_meta.ensures.crash told))

pub returns-in_err-counts-clause-crash : goal.returns-in_err-counts-clause-crash
returns-in_err-counts-clause-crash g c told =
    reads_on g.D.Disk (λ d t u i le left. g.met.D.Disk.earlier d t u i told le left) c.args.disk.now c.size.new.self c.read_meta.new.disk
    (one_read g.D.Disk c.args.disk.now c.size.new.self (c.size.ensures.time told) (c.size.ensures.crash told))
    (one_read g.D.Disk c.size.new.self c.read_meta.new.disk (c.read_meta.ensures.time told) (c.read_meta.ensures.crash told))

pub returns-in_err-sizes-clause-crash : goal.returns-in_err-sizes-clause-crash
returns-in_err-sizes-clause-crash g c told =
    let twice = reads_on g.D.Disk (λ d t u i le left. g.met.D.Disk.earlier d t u i told le left) c.args.disk.now c.size.new.self c.read_meta.new.disk
    (one_read g.D.Disk c.args.disk.now c.size.new.self (c.size.ensures.time told) (c.size.ensures.crash told))
    (one_read g.D.Disk c.size.new.self c.read_meta.new.disk (c.read_meta.ensures.time told) (c.read_meta.ensures.crash told)) in
    reads_on g.D.Disk (λ d t u i le left. g.met.D.Disk.earlier d t u i told le left) c.args.disk.now c.read_meta.new.disk c.file_sizes.new.disk twice (c.file_sizes.ensures.crash told)

pub returns-in_err-check_sizes-clause-crash : goal.returns-in_err-check_sizes-clause-crash
returns-in_err-check_sizes-clause-crash g c told =
    let twice = reads_on g.D.Disk (λ d t u i le left. g.met.D.Disk.earlier d t u i told le left) c.args.disk.now c.size.new.self c.read_meta.new.disk
    (one_read g.D.Disk c.args.disk.now c.size.new.self (c.size.ensures.time told) (c.size.ensures.crash told))
    (one_read g.D.Disk c.size.new.self c.read_meta.new.disk (c.read_meta.ensures.time told) (c.read_meta.ensures.crash told)) in
    reads_on g.D.Disk (λ d t u i le left. g.met.D.Disk.earlier d t u i told le left) c.args.disk.now c.read_meta.new.disk c.file_sizes.new.disk twice (c.file_sizes.ensures.crash told)

pub returns-clause-crash : goal.returns-clause-crash
returns-clause-crash g c told =
    let twice = reads_on g.D.Disk (λ d t u i le left. g.met.D.Disk.earlier d t u i told le left) c.args.disk.now c.size.new.self c.read_meta.new.disk
    (one_read g.D.Disk c.args.disk.now c.size.new.self (c.size.ensures.time told) (c.size.ensures.crash told))
    (one_read g.D.Disk c.size.new.self c.read_meta.new.disk (c.read_meta.ensures.time told) (c.read_meta.ensures.crash told)) in
    reads_on g.D.Disk (λ d t u i le left. g.met.D.Disk.earlier d t u i told le left) c.args.disk.now c.read_meta.new.disk c.file_sizes.new.disk twice (c.file_sizes.ensures.crash told)

pub returns-in_err-size-clause-bad : goal.returns-in_err-size-clause-bad
returns-in_err-size-clause-bad g c told =
    let p = err_from_is_err_and c.from_residual.result c.from_residual.ensures.1 in
    rw (p.1, p.2) (inl refl)

pub returns-in_err-size-clause-only : goal.returns-in_err-size-clause-only
returns-in_err-size-clause-only g c =
    let p = err_from_is_err_and c.from_residual.result c.from_residual.ensures.1 in
    rw (p.1, p.2) (inl refl)

pub returns-in_err-meta-clause-bad : goal.returns-in_err-meta-clause-bad
returns-in_err-meta-clause-bad g c told =
    let p = err_from_is_err_and c.from_residual-in_err-meta.result c.from_residual-in_err-meta.ensures.1 in
    rw (p.1, p.2) (inl refl)

pub returns-in_err-meta-clause-only : goal.returns-in_err-meta-clause-only
returns-in_err-meta-clause-only g c =
    let p = err_from_is_err_and c.from_residual-in_err-meta.result c.from_residual-in_err-meta.ensures.1 in
    rw (p.1, p.2) (inl refl)

pub returns-in_err-sizes-clause-bad : goal.returns-in_err-sizes-clause-bad
returns-in_err-sizes-clause-bad g c told =
    let p = err_from_is_err_and c.from_residual-in_err-sizes.result c.from_residual-in_err-sizes.ensures.1 in
    rw (p.1, p.2) (inl refl)

pub returns-in_err-sizes-clause-only : goal.returns-in_err-sizes-clause-only
returns-in_err-sizes-clause-only g c =
    let p = err_from_is_err_and c.from_residual-in_err-sizes.result c.from_residual-in_err-sizes.ensures.1 in
    rw (p.1, p.2) (inl refl)

pub returns-in_err-counts-clause-only : goal.returns-in_err-counts-clause-only
returns-in_err-counts-clause-only g c =
    let p = err_from_is_err_and c.from_residual-in_err-counts.result c.from_residual-in_err-counts.ensures.1 in
    let found = c.in_err-counts.ensures.bad in
    rw (p.1, p.2) (inr (found.0, found.1))

pub returns-in_err-check_sizes-clause-only : goal.returns-in_err-check_sizes-clause-only
returns-in_err-check_sizes-clause-only g c =
    let p = err_from_is_err_and c.from_residual-in_err-check_sizes.result c.from_residual-in_err-check_sizes.ensures.1 in
    let found = c.in_err-check_sizes.ensures.bad in
    rw (p.1, p.2) (inr (found.0, found.1))

pub returns-clause-heads : goal.returns-clause-heads
returns-clause-heads g c = c.in_ok-counts.ensures.heads

pub returns-clause-limited : goal.returns-clause-limited
returns-clause-limited g c t = c.in_ok-counts.ensures.limited t

pub check_sizes-requires : goal.check_sizes-requires
check_sizes-requires g c = record { limited = c.in_ok-counts.ensures.limited }

pub returns-then-size-lt76-clause-only : goal.returns-then-size-lt76-clause-only
returns-then-size-lt76-clause-only g c = let found : Found = (0, 76, c.in_ok-size.size) in inr (found, refl)
