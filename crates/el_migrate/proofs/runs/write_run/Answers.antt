use Rattle.std.proofs.Common.{◌≡◌, ◌+◌, ◌*◌, ap, ap₂, sym, subst, ◌∙◌}
use Rattle.std.proofs.lemmas.Result.{on_ok_weaker}
use Rattle.el_outside.specs.Disk.{over}
use Rattle.el_row_formats.specs.Tables.{size_of}
use Rattle.el_pages.specs.declared.layout.TheConstants.{FORMAT_2}
use Rattle.el_pages.specs.Layouts.{file_of}
use Rattle.el_migrate.specs.within.Moving.{HasOnlyRows}
use Rattle.el_migrate.proofs.RowRuns.{run_rows}
use Rattle.el_migrate.proofs.runs.write_run.Goals as goal

pub returns-clause-rows : goal.returns-clause-rows
returns-clause-rows g c told all has each =
    let t = c.args.t in
    let file = g.D.Disk.seen c.args.disk.now (file_of FORMAT_2 t) in
    on_ok_weaker c.write_at.result
    (λ (is : g.D.Disk.seen c.write_at.new.self c.file.result ≡ over (g.D.Disk.seen c.args.disk.now c.file.result) (c.args.first * c.size.result) c.args.bytes.now).
    let at : c.args.first * c.size.result ≡ c.args.first * size_of t = ap (λ s. c.args.first * s) c.size.ensures in
    let written : g.D.Disk.seen c.write_at.new.self (file_of FORMAT_2 t) ≡ over file (c.args.first * size_of t) c.args.bytes.now =
    ap (g.D.Disk.seen c.write_at.new.self) (sym c.file.ensures) ∙ is ∙ ap₂ (λ f n. over (g.D.Disk.seen c.args.disk.now f) n c.args.bytes.now) c.file.ensures at in
    subst (λ b. HasOnlyRows t b all (c.args.first + c.args.rows)) (sym written) (run_rows t file c.args.bytes.now all c.args.first c.args.rows has c.requires.long each))
    (c.write_at.ensures.written told)
