use Rattle.std.proofs.Common.{◌≡◌, ◌≤◌, ◌*◌, ℕ, List, length, ap, sym, subst, ◌∙◌, arith}
use Rattle.std.proofs.lemmas.Result.{on_ok_weaker}
use Rattle.el_row_formats.specs.declared.table.Table.TheVariants as table
use Rattle.el_row_formats.specs.Tables.{size_of}
use Rattle.el_row_formats.specs.OldRowBytes.{old_size_of}
use Rattle.el_rows.specs.Changes.{count_at}
use Rattle.el_redone.proofs.Runs.{goes_on}
use Rattle.el_migrate.specs.within.Moving.{HasOnlyRows, HasOldRows, HasOldFiles, AreHeads, new_rows}
use Rattle.el_migrate.proofs.HeadRows.{scripts_whole, head_rows}
use Rattle.el_migrate.proofs.moving.move_scripts.Goals as goal

pub returns-in_err-move_table-clause-others : goal.returns-in_err-move_table-clause-others
returns-in_err-move_table-clause-others g c told f ne nor = c.move_table.ensures.others told f ne

pub returns-clause-others : goal.returns-clause-others
returns-clause-others g c told f ne nor = c.write_heads.ensures.others told f nor ∙ c.move_table.ensures.others told f ne

pub returns-clause-crash : goal.returns-clause-crash
returns-clause-crash g c told files each =
    goes_on g.D.Disk (λ d t u i le left. g.met.D.Disk.earlier d t u i told le left) c.args.disk.now c.move_table.new.disk c.write_heads.new.disk (HasOldFiles files)
    (c.move_table.ensures.crash told files each) (λ now. c.write_heads.ensures.crash told files now)

pub returns-clause-rows : goal.returns-clause-rows
returns-clause-rows g c told heads bs l had reach none =
    let n = c.count.ensures.count in
    let old = g.D.Disk.seen c.args.disk.now 6 in
    let links = c.move_table.new.links in
    let many = c.move_table.ensures.many in
    let had_n = subst (λ k. HasOldRows heads bs l table.Scripts k old) (sym n) had in
    let done = c.in_ok-move_table.ensures.rows told heads bs l tt had_n (subst (λ k. k * old_size_of table.Scripts ≤ length old) (sym n) reach) none in
    let are : AreHeads links l.scripts = scripts_whole heads bs l c.count.result old links had_n done.0 in
    let same : g.D.Disk.seen c.write_heads.new.disk 26 ≡ g.D.Disk.seen c.move_table.new.disk 26 = c.write_heads.ensures.others told 26 (λ is. omega (arith, is)) in
    on_ok_weaker c.write_heads.result
    (λ (heads_there : HasOnlyRows table.ScriptHeads (g.D.Disk.seen c.write_heads.new.disk 27) (head_rows (length links) l.scripts) (length links)). (
      subst (λ (file : List ℕ). HasOnlyRows table.Scripts file (new_rows (length c.args.links.now) bs l table.Scripts) (count_at c.args.pages.now table.Scripts)) (sym same)
          (subst (λ k. HasOnlyRows table.Scripts (g.D.Disk.seen c.move_table.new.disk 26) (new_rows (length c.args.links.now) bs l table.Scripts) k) n done.1),
      subst (λ k. HasOnlyRows table.ScriptHeads (g.D.Disk.seen c.write_heads.new.disk 27) (new_rows k bs l table.ScriptHeads) k) many
          heads_there,
    ))
    (c.write_heads.ensures.rows told l.scripts are)

pub returns-clause-grown : goal.returns-clause-grown
returns-clause-grown g c told =
    let many = c.move_table.ensures.many in
    let n = c.count.ensures.count in
    let same : g.D.Disk.seen c.write_heads.new.disk 26 ≡ g.D.Disk.seen c.move_table.new.disk 26 = c.write_heads.ensures.others told 26 (λ is. omega (arith, is)) in
    on_ok_weaker c.write_heads.result
    (λ long. (
      ap (λ k. k * size_of table.Scripts) (sym n) ∙ c.in_ok-move_table.ensures.grown told ∙ ap (λ (file : List ℕ). length file) (sym same),
      ap (λ k. k * 8) (sym many) ∙ long,
    ))
    (c.write_heads.ensures.grown told)
