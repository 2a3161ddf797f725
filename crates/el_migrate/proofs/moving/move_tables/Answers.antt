use Rattle.std.proofs.Common.{◌≡◌, ◌≢◌, ◌⊎◌, inl, inr, ◌<◌, ◌≤◌, ◌*◌, ◌^◌, ℕ, List, length, ap, sym, subst, ◌∙◌, arith}
use Rattle.std.proofs.lemmas.Result.{on_ok_weaker}
use Rattle.el_row_formats.specs.declared.table.Table.{Table}
use Rattle.el_row_formats.specs.declared.table.Table.TheVariants as table
use Rattle.el_row_formats.specs.Tables.{size_of}
use Rattle.el_row_formats.specs.OldRowBytes.{old_size_of}
use Rattle.el_rows.specs.Changes.{count_at}
use Rattle.el_redone.proofs.Runs.{goes_on}
use Rattle.el_migrate.specs.within.Moving.{HasOldFiles, HasOnlyRows, HasOldRows, new_rows}
use Rattle.el_migrate.specs.within.Moved.{new_count}
use Rattle.el_migrate.proofs.MovedTables.{all_moved}
use Rattle.el_migrate.proofs.moving.move_tables.Goals as goal

pub move_plain-requires-clause-empty : goal.move_plain-requires-clause-empty
move_plain-requires-clause-empty g c told = c.requires.empty told 21 (omega arith) (omega arith)

pub move_txs-requires-clause-empty : goal.move_txs-requires-clause-empty
move_txs-requires-clause-empty g c told = c.move_plain.ensures.others told 22 (λ is. omega (arith, is)) ∙ c.requires.empty told 22 (omega arith) (omega arith)

pub move_txs-requires-clause-no_heads : goal.move_txs-requires-clause-no_heads
move_txs-requires-clause-no_heads g c told = c.move_plain.ensures.others told 23 (λ is. omega (arith, is)) ∙ c.requires.empty told 23 (omega arith) (omega arith)

pub move_plain-requires-2-clause-empty : goal.move_plain-requires-2-clause-empty
move_plain-requires-2-clause-empty g c told = c.move_txs.ensures.others told 24 (λ is. omega (arith, is)) (λ is. omega (arith, is)) ∙ c.move_plain.ensures.others told 24 (λ is. omega (arith, is)) ∙ c.requires.empty told 24 (omega arith) (omega arith)

pub move_plain-requires-3-clause-empty : goal.move_plain-requires-3-clause-empty
move_plain-requires-3-clause-empty g c told = c.move_plain-2.ensures.others told 25 (λ is. omega (arith, is)) ∙ c.move_txs.ensures.others told 25 (λ is. omega (arith, is)) (λ is. omega (arith, is)) ∙ c.move_plain.ensures.others told 25 (λ is. omega (arith, is)) ∙ c.requires.empty told 25 (omega arith) (omega arith)

pub move_scripts-requires-clause-empty : goal.move_scripts-requires-clause-empty
move_scripts-requires-clause-empty g c told = c.move_plain-3.ensures.others told 26 (λ is. omega (arith, is)) ∙ c.move_plain-2.ensures.others told 26 (λ is. omega (arith, is)) ∙ c.move_txs.ensures.others told 26 (λ is. omega (arith, is)) (λ is. omega (arith, is)) ∙ c.move_plain.ensures.others told 26 (λ is. omega (arith, is)) ∙ c.requires.empty told 26 (omega arith) (omega arith)

pub move_scripts-requires-clause-no_heads : goal.move_scripts-requires-clause-no_heads
move_scripts-requires-clause-no_heads g c told = c.move_plain-3.ensures.others told 27 (λ is. omega (arith, is)) ∙ c.move_plain-2.ensures.others told 27 (λ is. omega (arith, is)) ∙ c.move_txs.ensures.others told 27 (λ is. omega (arith, is)) (λ is. omega (arith, is)) ∙ c.move_plain.ensures.others told 27 (λ is. omega (arith, is)) ∙ c.requires.empty told 27 (omega arith) (omega arith)

pub move_plain-requires-4-clause-empty : goal.move_plain-requires-4-clause-empty
move_plain-requires-4-clause-empty g c told = c.move_scripts.ensures.others told 28 (λ is. omega (arith, is)) (λ is. omega (arith, is)) ∙ c.move_plain-3.ensures.others told 28 (λ is. omega (arith, is)) ∙ c.move_plain-2.ensures.others told 28 (λ is. omega (arith, is)) ∙ c.move_txs.ensures.others told 28 (λ is. omega (arith, is)) (λ is. omega (arith, is)) ∙ c.move_plain.ensures.others told 28 (λ is. omega (arith, is)) ∙ c.requires.empty told 28 (omega arith) (omega arith)

outside : (f file : ℕ) → 21 ≤ file → file ≤ 28 → (f < 21) ⊎ (28 < f) → f ≢ file
outside f file low high (inl lt) is = omega (arith, is, lt, low)
outside f file low high (inr gt) is = omega (arith, is, gt, high)

pub returns-in_err-move_plain-clause-others : goal.returns-in_err-move_plain-clause-others
returns-in_err-move_plain-clause-others g c told f at = c.move_plain.ensures.others told f (outside f 21 (omega arith) (omega arith) at)

pub returns-in_err-move_plain-clause-crash : goal.returns-in_err-move_plain-clause-crash
returns-in_err-move_plain-clause-crash g c told files each = (c.move_plain.ensures.crash told files each)

pub returns-in_err-move_txs-clause-others : goal.returns-in_err-move_txs-clause-others
returns-in_err-move_txs-clause-others g c told f at = c.move_txs.ensures.others told f (outside f 22 (omega arith) (omega arith) at) (outside f 23 (omega arith) (omega arith) at) ∙ c.move_plain.ensures.others told f (outside f 21 (omega arith) (omega arith) at)

pub returns-in_err-move_txs-clause-crash : goal.returns-in_err-move_txs-clause-crash
returns-in_err-move_txs-clause-crash g c told files each = (goes_on g.D.Disk (λ d t u i le left. g.met.D.Disk.earlier d t u i told le left) c.args.disk.now c.move_plain.new.disk c.move_txs.new.disk (HasOldFiles files)
    (c.move_plain.ensures.crash told files each) (λ now. c.move_txs.ensures.crash told files now))

pub returns-in_err-move_plain-2-clause-others : goal.returns-in_err-move_plain-2-clause-others
returns-in_err-move_plain-2-clause-others g c told f at = c.move_plain-2.ensures.others told f (outside f 24 (omega arith) (omega arith) at) ∙ c.move_txs.ensures.others told f (outside f 22 (omega arith) (omega arith) at) (outside f 23 (omega arith) (omega arith) at) ∙ c.move_plain.ensures.others told f (outside f 21 (omega arith) (omega arith) at)

pub returns-in_err-move_plain-2-clause-crash : goal.returns-in_err-move_plain-2-clause-crash
returns-in_err-move_plain-2-clause-crash g c told files each = (goes_on g.D.Disk (λ d t u i le left. g.met.D.Disk.earlier d t u i told le left) c.args.disk.now c.move_txs.new.disk c.move_plain-2.new.disk (HasOldFiles files)
    (goes_on g.D.Disk (λ d t u i le left. g.met.D.Disk.earlier d t u i told le left) c.args.disk.now c.move_plain.new.disk c.move_txs.new.disk (HasOldFiles files)
    (c.move_plain.ensures.crash told files each) (λ now. c.move_txs.ensures.crash told files now)) (λ now. c.move_plain-2.ensures.crash told files now))

pub returns-in_err-move_plain-3-clause-others : goal.returns-in_err-move_plain-3-clause-others
returns-in_err-move_plain-3-clause-others g c told f at = c.move_plain-3.ensures.others told f (outside f 25 (omega arith) (omega arith) at) ∙ c.move_plain-2.ensures.others told f (outside f 24 (omega arith) (omega arith) at) ∙ c.move_txs.ensures.others told f (outside f 22 (omega arith) (omega arith) at) (outside f 23 (omega arith) (omega arith) at) ∙ c.move_plain.ensures.others told f (outside f 21 (omega arith) (omega arith) at)

pub returns-in_err-move_plain-3-clause-crash : goal.returns-in_err-move_plain-3-clause-crash
returns-in_err-move_plain-3-clause-crash g c told files each = (goes_on g.D.Disk (λ d t u i le left. g.met.D.Disk.earlier d t u i told le left) c.args.disk.now c.move_plain-2.new.disk c.move_plain-3.new.disk (HasOldFiles files)
    (goes_on g.D.Disk (λ d t u i le left. g.met.D.Disk.earlier d t u i told le left) c.args.disk.now c.move_txs.new.disk c.move_plain-2.new.disk (HasOldFiles files)
    (goes_on g.D.Disk (λ d t u i le left. g.met.D.Disk.earlier d t u i told le left) c.args.disk.now c.move_plain.new.disk c.move_txs.new.disk (HasOldFiles files)
    (c.move_plain.ensures.crash told files each) (λ now. c.move_txs.ensures.crash told files now)) (λ now. c.move_plain-2.ensures.crash told files now)) (λ now. c.move_plain-3.ensures.crash told files now))

pub returns-in_err-move_scripts-clause-others : goal.returns-in_err-move_scripts-clause-others
returns-in_err-move_scripts-clause-others g c told f at = c.move_scripts.ensures.others told f (outside f 26 (omega arith) (omega arith) at) (outside f 27 (omega arith) (omega arith) at) ∙ c.move_plain-3.ensures.others told f (outside f 25 (omega arith) (omega arith) at) ∙ c.move_plain-2.ensures.others told f (outside f 24 (omega arith) (omega arith) at) ∙ c.move_txs.ensures.others told f (outside f 22 (omega arith) (omega arith) at) (outside f 23 (omega arith) (omega arith) at) ∙ c.move_plain.ensures.others told f (outside f 21 (omega arith) (omega arith) at)

pub returns-in_err-move_scripts-clause-crash : goal.returns-in_err-move_scripts-clause-crash
returns-in_err-move_scripts-clause-crash g c told files each = (goes_on g.D.Disk (λ d t u i le left. g.met.D.Disk.earlier d t u i told le left) c.args.disk.now c.move_plain-3.new.disk c.move_scripts.new.disk (HasOldFiles files)
    (goes_on g.D.Disk (λ d t u i le left. g.met.D.Disk.earlier d t u i told le left) c.args.disk.now c.move_plain-2.new.disk c.move_plain-3.new.disk (HasOldFiles files)
    (goes_on g.D.Disk (λ d t u i le left. g.met.D.Disk.earlier d t u i told le left) c.args.disk.now c.move_txs.new.disk c.move_plain-2.new.disk (HasOldFiles files)
    (goes_on g.D.Disk (λ d t u i le left. g.met.D.Disk.earlier d t u i told le left) c.args.disk.now c.move_plain.new.disk c.move_txs.new.disk (HasOldFiles files)
    (c.move_plain.ensures.crash told files each) (λ now. c.move_txs.ensures.crash told files now)) (λ now. c.move_plain-2.ensures.crash told files now)) (λ now. c.move_plain-3.ensures.crash told files now)) (λ now. c.move_scripts.ensures.crash told files now))

pub returns-clause-others : goal.returns-clause-others
returns-clause-others g c told f at = c.move_plain-4.ensures.others told f (outside f 28 (omega arith) (omega arith) at) ∙ c.move_scripts.ensures.others told f (outside f 26 (omega arith) (omega arith) at) (outside f 27 (omega arith) (omega arith) at) ∙ c.move_plain-3.ensures.others told f (outside f 25 (omega arith) (omega arith) at) ∙ c.move_plain-2.ensures.others told f (outside f 24 (omega arith) (omega arith) at) ∙ c.move_txs.ensures.others told f (outside f 22 (omega arith) (omega arith) at) (outside f 23 (omega arith) (omega arith) at) ∙ c.move_plain.ensures.others told f (outside f 21 (omega arith) (omega arith) at)

pub returns-clause-crash : goal.returns-clause-crash
returns-clause-crash g c told files each = (goes_on g.D.Disk (λ d t u i le left. g.met.D.Disk.earlier d t u i told le left) c.args.disk.now c.move_scripts.new.disk c.move_plain-4.new.disk (HasOldFiles files)
    (goes_on g.D.Disk (λ d t u i le left. g.met.D.Disk.earlier d t u i told le left) c.args.disk.now c.move_plain-3.new.disk c.move_scripts.new.disk (HasOldFiles files)
    (goes_on g.D.Disk (λ d t u i le left. g.met.D.Disk.earlier d t u i told le left) c.args.disk.now c.move_plain-2.new.disk c.move_plain-3.new.disk (HasOldFiles files)
    (goes_on g.D.Disk (λ d t u i le left. g.met.D.Disk.earlier d t u i told le left) c.args.disk.now c.move_txs.new.disk c.move_plain-2.new.disk (HasOldFiles files)
    (goes_on g.D.Disk (λ d t u i le left. g.met.D.Disk.earlier d t u i told le left) c.args.disk.now c.move_plain.new.disk c.move_txs.new.disk (HasOldFiles files)
    (c.move_plain.ensures.crash told files each) (λ now. c.move_txs.ensures.crash told files now)) (λ now. c.move_plain-2.ensures.crash told files now)) (λ now. c.move_plain-3.ensures.crash told files now)) (λ now. c.move_scripts.ensures.crash told files now)) (λ now. c.move_plain-4.ensures.crash told files now))

pub returns-clause-rows : goal.returns-clause-rows
returns-clause-rows g c told heads bs l bits had no_txs no_scripts many =
    let row_1 = c.in_ok-move_plain.ensures.rows told heads bs l (2 ^ bits) tt (λ e. cc) (λ e. cc) (had.rows table.Blocks) (had.long table.Blocks) in
    let row_2 = c.in_ok-move_txs.ensures.rows told heads bs l (subst (λ (file : List ℕ). HasOldRows heads bs l table.Txs (count_at c.args.pages.now table.Txs) file) (sym (c.move_plain.ensures.others told 2 (λ is. omega (arith, is)))) (had.rows table.Txs)) (subst (λ (file : List ℕ). count_at c.args.pages.now table.Txs * old_size_of table.Txs ≤ length file) (sym (c.move_plain.ensures.others told 2 (λ is. omega (arith, is)))) (had.long table.Txs)) no_txs in
    let row_3 = c.in_ok-move_plain-2.ensures.rows told heads bs l (2 ^ bits) tt (λ e. cc) (λ e. cc) (subst (λ (file : List ℕ). HasOldRows heads bs l table.Outs (count_at c.args.pages.now table.Outs) file) (sym (c.move_txs.ensures.others told 4 (λ is. omega (arith, is)) (λ is. omega (arith, is)) ∙ c.move_plain.ensures.others told 4 (λ is. omega (arith, is)))) (had.rows table.Outs)) (subst (λ (file : List ℕ). count_at c.args.pages.now table.Outs * old_size_of table.Outs ≤ length file) (sym (c.move_txs.ensures.others told 4 (λ is. omega (arith, is)) (λ is. omega (arith, is)) ∙ c.move_plain.ensures.others told 4 (λ is. omega (arith, is)))) (had.long table.Outs)) in
    let row_4 = c.in_ok-move_plain-3.ensures.rows told heads bs l (2 ^ bits) tt (λ e. cc) (λ e. cc) (subst (λ (file : List ℕ). HasOldRows heads bs l table.Ins (count_at c.args.pages.now table.Ins) file) (sym (c.move_plain-2.ensures.others told 5 (λ is. omega (arith, is)) ∙ c.move_txs.ensures.others told 5 (λ is. omega (arith, is)) (λ is. omega (arith, is)) ∙ c.move_plain.ensures.others told 5 (λ is. omega (arith, is)))) (had.rows table.Ins)) (subst (λ (file : List ℕ). count_at c.args.pages.now table.Ins * old_size_of table.Ins ≤ length file) (sym (c.move_plain-2.ensures.others told 5 (λ is. omega (arith, is)) ∙ c.move_txs.ensures.others told 5 (λ is. omega (arith, is)) (λ is. omega (arith, is)) ∙ c.move_plain.ensures.others told 5 (λ is. omega (arith, is)))) (had.long table.Ins)) in
    let row_5 = c.in_ok-move_scripts.ensures.rows told heads bs l (subst (λ (file : List ℕ). HasOldRows heads bs l table.Scripts (count_at c.args.pages.now table.Scripts) file) (sym (c.move_plain-3.ensures.others told 6 (λ is. omega (arith, is)) ∙ c.move_plain-2.ensures.others told 6 (λ is. omega (arith, is)) ∙ c.move_txs.ensures.others told 6 (λ is. omega (arith, is)) (λ is. omega (arith, is)) ∙ c.move_plain.ensures.others told 6 (λ is. omega (arith, is)))) (had.rows table.Scripts)) (subst (λ (file : List ℕ). count_at c.args.pages.now table.Scripts * old_size_of table.Scripts ≤ length file) (sym (c.move_plain-3.ensures.others told 6 (λ is. omega (arith, is)) ∙ c.move_plain-2.ensures.others told 6 (λ is. omega (arith, is)) ∙ c.move_txs.ensures.others told 6 (λ is. omega (arith, is)) (λ is. omega (arith, is)) ∙ c.move_plain.ensures.others told 6 (λ is. omega (arith, is)))) (had.long table.Scripts)) no_scripts in
    let row_6 = c.move_plain-4.ensures.rows told heads bs l (2 ^ bits) tt (λ e. cc) (λ e. cc) (subst (λ (file : List ℕ). HasOldRows heads bs l table.Entries (count_at c.args.pages.now table.Entries) file) (sym (c.move_scripts.ensures.others told 8 (λ is. omega (arith, is)) (λ is. omega (arith, is)) ∙ c.move_plain-3.ensures.others told 8 (λ is. omega (arith, is)) ∙ c.move_plain-2.ensures.others told 8 (λ is. omega (arith, is)) ∙ c.move_txs.ensures.others told 8 (λ is. omega (arith, is)) (λ is. omega (arith, is)) ∙ c.move_plain.ensures.others told 8 (λ is. omega (arith, is)))) (had.rows table.Entries)) (subst (λ (file : List ℕ). count_at c.args.pages.now table.Entries * old_size_of table.Entries ≤ length file) (sym (c.move_scripts.ensures.others told 8 (λ is. omega (arith, is)) (λ is. omega (arith, is)) ∙ c.move_plain-3.ensures.others told 8 (λ is. omega (arith, is)) ∙ c.move_plain-2.ensures.others told 8 (λ is. omega (arith, is)) ∙ c.move_txs.ensures.others told 8 (λ is. omega (arith, is)) (λ is. omega (arith, is)) ∙ c.move_plain.ensures.others told 8 (λ is. omega (arith, is)))) (had.long table.Entries)) in
    let as_many = c.requires.as_many ∙ many in
    let P : Table → List ℕ → Type 0 = λ t file. HasOnlyRows t file (new_rows (2 ^ bits) bs l t) (new_count bits c.args.pages.now t) in
    on_ok_weaker c.move_plain-4.result
    (λ entries. all_moved (g.D.Disk.seen c.args.disk.now) (g.D.Disk.seen c.move_plain.new.disk) (g.D.Disk.seen c.move_txs.new.disk) (g.D.Disk.seen c.move_plain-2.new.disk) (g.D.Disk.seen c.move_plain-3.new.disk) (g.D.Disk.seen c.move_scripts.new.disk) (g.D.Disk.seen c.move_plain-4.new.disk)
    (c.move_plain.ensures.others told) (c.move_txs.ensures.others told) (c.move_plain-2.ensures.others told) (c.move_plain-3.ensures.others told) (c.move_scripts.ensures.others told) (c.move_plain-4.ensures.others told) P row_1
    (subst (λ k. HasOnlyRows table.Txs (g.D.Disk.seen c.move_txs.new.disk 22) (new_rows k bs l table.Txs) (count_at c.args.pages.now table.Txs)) many row_2.0)
    (subst (λ k. HasOnlyRows table.TxHeads (g.D.Disk.seen c.move_txs.new.disk 23) (new_rows k bs l table.TxHeads) k) many row_2.1)
    row_3 row_4
    (subst (λ k. HasOnlyRows table.Scripts (g.D.Disk.seen c.move_scripts.new.disk 26) (new_rows k bs l table.Scripts) (count_at c.args.pages.now table.Scripts)) as_many row_5.0)
    (subst (λ k. HasOnlyRows table.ScriptHeads (g.D.Disk.seen c.move_scripts.new.disk 27) (new_rows k bs l table.ScriptHeads) k) as_many row_5.1)
    entries)
    row_6

pub returns-clause-grown : goal.returns-clause-grown
returns-clause-grown g c told bits many =
    let as_many = c.requires.as_many ∙ many in
    let P : Table → List ℕ → Type 0 = λ t file. new_count bits c.args.pages.now t * size_of t ≡ length file in
    on_ok_weaker c.move_plain-4.result
    (λ entries. all_moved (g.D.Disk.seen c.args.disk.now) (g.D.Disk.seen c.move_plain.new.disk) (g.D.Disk.seen c.move_txs.new.disk) (g.D.Disk.seen c.move_plain-2.new.disk) (g.D.Disk.seen c.move_plain-3.new.disk) (g.D.Disk.seen c.move_scripts.new.disk) (g.D.Disk.seen c.move_plain-4.new.disk)
    (c.move_plain.ensures.others told) (c.move_txs.ensures.others told) (c.move_plain-2.ensures.others told) (c.move_plain-3.ensures.others told) (c.move_scripts.ensures.others told) (c.move_plain-4.ensures.others told) P (c.in_ok-move_plain.ensures.grown told)
    (c.in_ok-move_txs.ensures.grown told).0 (ap (λ k. k * 8) (sym many) ∙ (c.in_ok-move_txs.ensures.grown told).1)
    (c.in_ok-move_plain-2.ensures.grown told) (c.in_ok-move_plain-3.ensures.grown told)
    (c.in_ok-move_scripts.ensures.grown told).0 (ap (λ k. k * 8) (sym as_many) ∙ (c.in_ok-move_scripts.ensures.grown told).1)
    entries)
    (c.move_plain-4.ensures.grown told)
