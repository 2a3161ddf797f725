use Rattle.std.proofs.Common.{rules, ◌≡◌, ◌*◌, take, sym, ap, subst, arith}
use Rattle.el_row_formats.specs.declared.table.Table.{Table}
use Rattle.el_row_formats.specs.Tables.{size_of, row_at}
use Rattle.el_pages.specs.within.Runs.{AreConsecutiveRows}
use Rattle.el_pages.proofs.GatheredRuns.{one_row, rows_front}
use Rattle.el_pages.proofs.gathering.following.Goals.{then-ne-via-then-ne, then-ne-via-else-ne+then-run-row}
use Rattle.el_pages.proofs.gathering.following.Goals as goal

pub returns-then-ne-clause-none : goal.returns-then-ne-clause-none
returns-then-ne-clause-none c _ bytes there =
    let run = c.run-run.result in
    let same = one_row c.args.sealed.now.changes c.args.k run.table c.args.t run.first c.args.row (row_at (size_of run.table) run.bytes.now 0) bytes (c.run-run.ensures.each 0 c.run-run.ensures.some) there in
    elim c.then-ne.branch [
      | then-ne-via-then-ne w ↦ absurd (let table = same.0 in search rules)
      | then-ne-via-else-ne+then-run-row w ↦ absurd (let row = same.1 in search rules)
    ]

pub returns-clause-rows : goal.returns-clause-rows
returns-clause-rows c =
    let run = c.run-run.result in
    let changes = c.args.sealed.now.changes in
    let bytes = run.bytes.now in
    let n = c.min-rows.result in
    let table : run.table ≡ c.args.t = search rules in
    let row : run.first ≡ c.args.row = search rules in
    let all : AreConsecutiveRows changes c.args.k run.table run.first run.rows bytes = record {
      within = c.run-run.ensures.within;
      limit = c.run-run.ensures.limit;
      long = c.run-run.ensures.long;
      each = c.run-run.ensures.each;
    } in
    subst (λ m. AreConsecutiveRows changes c.args.k c.args.t c.args.row n (take m bytes)) (ap (λ s. n * s) (sym c.size.ensures))
    (rows_front changes c.args.k c.args.t c.args.row run.rows n bytes (omega (arith, c.min-rows.ensures))
    (subst (λ i. AreConsecutiveRows changes c.args.k c.args.t i run.rows bytes) row
    (subst (λ (u : Table). AreConsecutiveRows changes c.args.k u run.first run.rows bytes) table all)))
