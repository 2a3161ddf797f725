use Rattle.std.proofs.Common.{◌≡◌, ◌⊎◌, inl, inr, ◌<◌, ◌≤◌, ◌^◌, ℕ, List, [], length, ap, sym, subst, ◌∙◌, arith}
use Rattle.std.proofs.Math.Pow.{pow_mono}
use Rattle.el_row_formats.specs.declared.table.Table.{Table}
use Rattle.el_redone.proofs.Runs.{goes_on}
use Rattle.el_migrate.specs.within.Moving.{HasOldFiles, HasOnlyRows, AreHeads, new_rows}
use Rattle.el_migrate.specs.within.Moved.{new_count}
use Rattle.el_migrate.proofs.MovedTables.{old_rows_there, files_there}
use Rattle.el_migrate.proofs.moving.write_new.Goals as goal

-- a file beyond those of format 2
beyond_clear : (f : ℕ) → (f < 20) ⊎ (29 < f) → (f < 20) ⊎ (30 ≤ f)
beyond_clear f (inl lt) = inl lt
beyond_clear f (inr gt) = inr (omega (arith, gt))

beyond_move : (f : ℕ) → (f < 20) ⊎ (29 < f) → (f < 21) ⊎ (28 < f)
beyond_move f (inl lt) = inl (omega (arith, lt))
beyond_move f (inr gt) = inr (omega (arith, gt))

pub returns-in_err-clear_files-clause-others : goal.returns-in_err-clear_files-clause-others
returns-in_err-clear_files-clause-others g c told f at = c.clear_files.ensures.others told f (beyond_clear f at)

pub returns-in_err-move_tables-clause-others : goal.returns-in_err-move_tables-clause-others
returns-in_err-move_tables-clause-others g c told f at = c.move_tables.ensures.others told f (beyond_move f at) ∙ c.clear_files.ensures.others told f (beyond_clear f at)

pub returns-in_err-close_files-clause-others : goal.returns-in_err-close_files-clause-others
returns-in_err-close_files-clause-others g c told f at = c.close_files.ensures.beside told f at ∙ c.move_tables.ensures.others told f (beyond_move f at) ∙ c.clear_files.ensures.others told f (beyond_clear f at)

pub returns-clause-others : goal.returns-clause-others
returns-clause-others g c told f at = c.close_files.ensures.beside told f at ∙ c.move_tables.ensures.others told f (beyond_move f at) ∙ c.clear_files.ensures.others told f (beyond_clear f at)

pub returns-in_err-move_tables-clause-crash : goal.returns-in_err-move_tables-clause-crash
returns-in_err-move_tables-clause-crash g c told files each =
    goes_on g.D.Disk (λ d t u i le left. g.met.D.Disk.earlier d t u i told le left) c.args.disk.now c.clear_files.new.disk c.move_tables.new.disk (HasOldFiles files)
    (c.clear_files.ensures.crash told files each) (λ now. c.move_tables.ensures.crash told files now)

pub returns-in_err-close_files-clause-crash : goal.returns-in_err-close_files-clause-crash
returns-in_err-close_files-clause-crash g c told files each =
    goes_on g.D.Disk (λ d t u i le left. g.met.D.Disk.earlier d t u i told le left) c.args.disk.now c.move_tables.new.disk c.close_files.new.disk (HasOldFiles files)
    (goes_on g.D.Disk (λ d t u i le left. g.met.D.Disk.earlier d t u i told le left) c.args.disk.now c.clear_files.new.disk c.move_tables.new.disk (HasOldFiles files)
    (c.clear_files.ensures.crash told files each) (λ now. c.move_tables.ensures.crash told files now))
    (λ now. c.close_files.ensures.crash told files now)

pub returns-clause-crash : goal.returns-clause-crash
returns-clause-crash g c told files each =
    goes_on g.D.Disk (λ d t u i le left. g.met.D.Disk.earlier d t u i told le left) c.args.disk.now c.move_tables.new.disk c.close_files.new.disk (HasOldFiles files)
    (goes_on g.D.Disk (λ d t u i le left. g.met.D.Disk.earlier d t u i told le left) c.args.disk.now c.clear_files.new.disk c.move_tables.new.disk (HasOldFiles files)
    (c.clear_files.ensures.crash told files each) (λ now. c.move_tables.ensures.crash told files now))
    (λ now. c.close_files.ensures.crash told files now)

pub move_tables-requires-clause-limit : goal.move_tables-requires-clause-limit
move_tables-requires-clause-limit g c =
    let le : 2 ^ c.args.bits ≤ 2 ^ 24 = pow_mono c.requires in
    let long : length c.as_mut_slice.result.now ≡ length c.in-Ok.room.txs.items = ap (λ (xs : List ℕ). length xs) c.as_mut_slice.ensures.value in
    omega (arith, le, long, c.in-Ok.ensures.txs.0)

pub returns-clause-rows : goal.returns-clause-rows
returns-clause-rows g c told heads bs l had =
    let txs = c.as_mut_slice.ensures.value in
    let scripts = c.as_mut_slice-2.ensures.value in
    let cleared = old_rows_there heads bs l c.args.pages.now (g.D.Disk.seen c.args.disk.now) (g.D.Disk.seen c.clear_files.new.disk) (λ f lt. c.clear_files.ensures.others told f (inl lt)) had in
    let P : Table → List ℕ → Type 0 = λ t file. HasOnlyRows t file (new_rows (2 ^ c.args.bits) bs l t) (new_count c.args.bits c.args.pages.now t) in
    files_there P (g.D.Disk.seen c.move_tables.new.disk) (g.D.Disk.seen c.close_files.new.disk) (c.in_ok-close_files.ensures.others told)
    (c.in_ok-move_tables.ensures.rows told heads bs l c.args.bits cleared
    (subst (λ (xs : List ℕ). AreHeads xs []) (sym txs) c.in-Ok.ensures.txs.1)
    (subst (λ (xs : List ℕ). AreHeads xs []) (sym scripts) c.in-Ok.ensures.scripts.1)
    (ap (λ (xs : List ℕ). length xs) txs ∙ c.in-Ok.ensures.txs.0))
