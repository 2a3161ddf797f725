use Rattle.std.proofs.Common.{◌≤◌, ◌*◌, length, sym, subst}
use Rattle.std.proofs.lemmas.Result.{on_ok_weaker}
use Rattle.el_row_formats.specs.OldRowBytes.{old_size_of}
use Rattle.el_pages.specs.declared.layout.TheConstants.{FORMAT_1, FORMAT_2}
use Rattle.el_pages.specs.Layouts.{file_of}
use Rattle.el_migrate.specs.within.Moving.{HasOnlyRows, HasOldRows, new_rows}
use Rattle.el_migrate.proofs.PlainTables.{plain_rows, plain_heads}
use Rattle.el_migrate.proofs.moving.move_plain.Goals as goal

pub returns-clause-rows : goal.returns-clause-rows
returns-clause-rows g c told heads bs l buckets moved not_txs not_scripts had reach =
    let t = c.args.t in
    let n = c.count.ensures.count in
    let old = g.D.Disk.seen c.args.disk.now (file_of FORMAT_1 t) in
    on_ok_weaker c.move_table.result
    (λ done. subst (λ k. HasOnlyRows t (g.D.Disk.seen c.move_table.new.disk (file_of FORMAT_2 t)) (new_rows buckets bs l t) k) n
    (subst (λ rows. HasOnlyRows t (g.D.Disk.seen c.move_table.new.disk (file_of FORMAT_2 t)) rows c.count.result) (plain_rows _ buckets bs l t moved not_txs not_scripts) done.1))
    (c.move_table.ensures.rows told heads bs l moved
    (subst (λ k. HasOldRows heads bs l t k old) (sym n) had)
    (subst (λ k. k * old_size_of t ≤ length old) (sym n) reach)
    (plain_heads _ l 0 t not_txs not_scripts))
