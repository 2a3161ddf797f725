use Rattle.std.proofs.Common.{◌≡◌, ◌≤◌, ◌<◌, ◌+◌, ◌-◌, ◌*◌, ◌/◌, ℕ, length, take, drop, min, max, inl, inr, ⊎_elim, refl, ap, sym, subst, ◌∙◌, arith}
use Rattle.std.proofs.lemmas.Result.{err_from_is_err_and}
use Rattle.el_outside.specs.declared.archive.TheConstants.{SIZE_LIMIT}
use Rattle.el_row_formats.proofs.Keys.{same_table}
use Rattle.el_row_formats.specs.declared.table.Table.{Table}
use Rattle.el_rows.specs.Changes.{count_at}
use Rattle.el_pages.specs.Layouts.{redo_of}
use Rattle.el_recovery.proofs.Bodies.{begins_within, rest_long, checked_long, checked_front, next_checked, checked_bad, body_small}
use Rattle.el_recovery.proofs.Settles.{one_read}
use Rattle.el_recovery.proofs.checking.check_change.Goals as goal

pub returns-clause-next : goal.returns-clause-next
returns-clause-next g c told body stale rest changes checked =
    let l = c.args.layout.now in
    let seen = g.D.Disk.seen c.args.disk.now in
    let reach : Table → ℕ = count_at c.args.reach.now in
    let left = rest_long l seen body stale c.args.at c.args.end changes rest reach checked in
    let n = min 9 (c.args.end - c.args.at) in
    let front = c.in_ok-front.ensures.front told (subst (λ f. c.args.end ≤ length (seen f)) (sym c.span.ensures.redo) (checked_long l seen body stale c.args.at c.args.end changes rest reach checked)) in
    let read : take n c.in_ok-front.front ≡ take n rest =
    front ∙ ap (λ f. take n (drop c.args.at (seen f))) c.span.ensures.redo ∙ checked_front l seen body stale c.args.at c.args.end changes rest reach checked n (omega (arith, left)) in
    next_checked l seen body stale c.args.at c.args.end changes rest reach checked (count_at c.extend.new.reach) (c.args.at + (9 + c.size-size.result)) c.in_ok-table.table c.in_ok-table.row
    (c.in_ok-table.ensures.next rest (omega (arith, left)) read) (c.requires.sized c.in_ok-table.table) c.in_ok-table.ensures.near
    (c.extend.ensures.here ∙ ap (λ s. max (reach c.in_ok-table.table) (c.in_ok-table.row * s + s)) c.size-size.ensures) c.extend.ensures.others (omega (arith, c.size-size.ensures))

pub returns-in_err-table-clause-bad : goal.returns-in_err-table-clause-bad
returns-in_err-table-clause-bad g c told body stale rest changes checked =
    let p = err_from_is_err_and c.from_residual-in_err-table.result c.from_residual-in_err-table.ensures.1 in
    rw (p.1, p.2) (
    let l = c.args.layout.now in
    let seen = g.D.Disk.seen c.args.disk.now in
    let reach : Table → ℕ = count_at c.args.reach.now in
    let left = rest_long l seen body stale c.args.at c.args.end changes rest reach checked in
    let n = min 9 (c.args.end - c.args.at) in
    let front = c.in_ok-front.ensures.front told (subst (λ f. c.args.end ≤ length (seen f)) (sym c.span.ensures.redo) (checked_long l seen body stale c.args.at c.args.end changes rest reach checked)) in
    let read : take n c.in_ok-front.front ≡ take n rest =
    front ∙ ap (λ f. take n (drop c.args.at (seen f))) c.span.ensures.redo ∙ checked_front l seen body stale c.args.at c.args.end changes rest reach checked n (omega (arith, left)) in
    let bad = c.in_err-table.ensures.bad rest (omega (arith, left)) read in
    inr (
      bad.0,
      bad.1,
      checked_bad l seen body stale c.args.at c.args.end changes rest reach checked
          (body_small l seen body stale c.args.at c.args.end changes rest reach checked (g.met.D.Disk.small c.args.disk.now (redo_of l) told)) bad.0 bad.2,
    )
    )

pub returns-clause-crash : goal.returns-clause-crash
returns-clause-crash g c told = one_read g.D.Disk c.args.disk.now c.read_front.new.disk (c.read_front.ensures.time told) (c.read_front.ensures.crash told)

pub returns-in_err-table-clause-crash : goal.returns-in_err-table-clause-crash
returns-in_err-table-clause-crash g c told = one_read g.D.Disk c.args.disk.now c.read_front.new.disk (c.read_front.ensures.time told) (c.read_front.ensures.crash told)

pub returns-in_err-front-clause-crash : goal.returns-in_err-front-clause-crash
returns-in_err-front-clause-crash g c told = one_read g.D.Disk c.args.disk.now c.read_front.new.disk (c.read_front.ensures.time told) (c.read_front.ensures.crash told)

pub returns-clause-small : goal.returns-clause-small
returns-clause-small g c t =
    let size = c.size-size.result in
    let before = count_at c.args.reach.now c.in_ok-table.table in
    let begins : c.in_ok-table.row * size ≤ before =
    begins_within c.in_ok-table.row before size (omega (arith, c.size-size.ensures, c.requires.sized c.in_ok-table.table))
    (subst (λ s. c.in_ok-table.row ≤ before / s) (sym c.size-size.ensures) c.in_ok-table.ensures.near) in
    ⊎_elim
    (λ (is : t ≡ c.in_ok-table.table). subst (λ u. count_at c.extend.new.reach u < SIZE_LIMIT + (c.args.at + (9 + size))) (sym is)
    (omega (arith, begins, c.extend.ensures.here, c.requires.small c.in_ok-table.table)))
    (λ ne. omega (arith, c.extend.ensures.others t ne, c.requires.small t))
    (same_table t c.in_ok-table.table)

pub extend-requires : goal.extend-requires
extend-requires g c = record {
  sized = omega (arith, c.size-size.ensures, c.requires.sized c.in_ok-table.table);
  narrow = omega (arith, c.size-size.ensures, c.requires.narrow c.in_ok-table.table);
  near = subst (λ s. c.in_ok-table.row ≤ count_at c.args.reach.now c.in_ok-table.table / s) (sym c.size-size.ensures) c.in_ok-table.ensures.near;
  small = omega (arith, c.requires.small c.in_ok-table.table, c.requires.low, c.requires.some);
}

pub next_key-requires : goal.next_key-requires
next_key-requires g c = record { few = c.requires.few; narrow = c.requires.narrow; sized = c.requires.sized; some = omega (arith, c.requires.some) }

pub returns-in_err-front-clause-bad : goal.returns-in_err-front-clause-bad
returns-in_err-front-clause-bad g c told body stale rest changes checked =
    let p = err_from_is_err_and c.from_residual.result c.from_residual.ensures.1 in
    rw (p.1, p.2) (inl refl)

pub returns-in_err-front-clause-only : goal.returns-in_err-front-clause-only
returns-in_err-front-clause-only g c =
    let p = err_from_is_err_and c.from_residual.result c.from_residual.ensures.1 in
    rw (p.1, p.2) (inl refl)

pub returns-in_err-table-clause-only : goal.returns-in_err-table-clause-only
returns-in_err-table-clause-only g c =
    let p = err_from_is_err_and c.from_residual-in_err-table.result c.from_residual-in_err-table.ensures.1 in
    let found = c.in_err-table.ensures.only in
    rw (p.1, p.2) (inr (found.0, found.1))

pub overflow_add-whole : goal.overflow_add-whole
overflow_add-whole g c = omega (arith, c.size-size.ensures, c.requires.narrow c.in_ok-table.table)

pub overflow_add-to : goal.overflow_add-to
overflow_add-to g c = omega (arith, c.size-size.ensures, c.requires.narrow c.in_ok-table.table, c.requires.some, c.requires.low)

pub returns-clause-within : goal.returns-clause-within
returns-clause-within g c = omega (arith, c.in_ok-table.ensures.room, c.size-size.ensures, c.requires.some)

pub returns-clause-further : goal.returns-clause-further
returns-clause-further g c = omega (arith, c.size-size.ensures, c.requires.sized c.in_ok-table.table)
