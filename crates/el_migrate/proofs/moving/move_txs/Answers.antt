use Rattle.std.proofs.Common.{◌≡◌, ◌≤◌, ◌*◌, ℕ, List, length, map, ap, sym, subst, ◌∙◌, arith}
use Rattle.std.proofs.lemmas.Result.{on_ok_weaker}
use Rattle.el_row_formats.specs.declared.table.Table.TheVariants as table
use Rattle.el_row_formats.specs.Tables.{size_of}
use Rattle.el_row_formats.specs.OldRowBytes.{old_size_of}
use Rattle.el_rows.specs.Changes.{count_at}
use Rattle.el_tables.specs.Lists.{ListedTx}
use Rattle.el_redone.proofs.Runs.{goes_on}
use Rattle.el_migrate.specs.within.Moving.{HasOnlyRows, HasOldRows, HasOldFiles, AreHeads, new_rows}
use Rattle.el_migrate.proofs.HeadRows.{txs_whole, head_rows, tx_head_rows}
use Rattle.el_migrate.proofs.moving.move_txs.Goals as goal

pub returns-in_err-move_table-clause-others : goal.returns-in_err-move_table-clause-others
returns-in_err-move_table-clause-others g c told f ne nor = c.move_table.ensures.others told f ne

pub returns-clause-others : goal.returns-clause-others
returns-clause-others g c told f ne nor = c.write_heads.ensures.others told f nor ∙ c.move_table.ensures.others told f ne

pub returns-clause-crash : goal.returns-clause-crash
returns-clause-crash g c told files each =
    goes_on g.D.Disk (λ d t u i le left. g.met.D.Disk.earlier d t u i told le left) c.args.disk.now c.move_table.new.disk c.write_heads.new.disk (HasOldFiles files)
    (c.move_table.ensures.crash told files each) (λ now. c.write_heads.ensures.crash told files now)

pub returns-clause-rows : goal.returns-clause-rows
returns-clause-rows g c told heads bs l had reach none =
    let n = c.count.ensures.count in
    let old = g.D.Disk.seen c.args.disk.now 2 in
    let links = c.move_table.new.links in
    let many = c.move_table.ensures.many in
    let had_n = subst (λ k. HasOldRows heads bs l table.Txs k old) (sym n) had in
    let done = c.in_ok-move_table.ensures.rows told heads bs l tt had_n (subst (λ k. k * old_size_of table.Txs ≤ length old) (sym n) reach) none in
    let are : AreHeads links (map (λ (t : ListedTx). t.txid) l.txs) = txs_whole heads bs l c.count.result old links had_n done.0 in
    let same : g.D.Disk.seen c.write_heads.new.disk 22 ≡ g.D.Disk.seen c.move_table.new.disk 22 = c.write_heads.ensures.others told 22 (λ is. omega (arith, is)) in
    on_ok_weaker c.write_heads.result
    (λ (heads_there : HasOnlyRows table.TxHeads (g.D.Disk.seen c.write_heads.new.disk 23) (head_rows (length links) (map (λ (t : ListedTx). t.txid) l.txs)) (length links)). (
      subst (λ (file : List ℕ). HasOnlyRows table.Txs file (new_rows (length c.args.links.now) bs l table.Txs) (count_at c.args.pages.now table.Txs)) (sym same)
          (subst (λ k. HasOnlyRows table.Txs (g.D.Disk.seen c.move_table.new.disk 22) (new_rows (length c.args.links.now) bs l table.Txs) k) n done.1),
      subst (λ k. HasOnlyRows table.TxHeads (g.D.Disk.seen c.write_heads.new.disk 23) (new_rows k bs l table.TxHeads) k) many
          (subst (λ rows. HasOnlyRows table.TxHeads (g.D.Disk.seen c.write_heads.new.disk 23) rows (length links)) (tx_head_rows (length links) bs l) heads_there),
    ))
    (c.write_heads.ensures.rows told (map (λ (t : ListedTx). t.txid) l.txs) are)

pub returns-clause-grown : goal.returns-clause-grown
returns-clause-grown g c told =
    let many = c.move_table.ensures.many in
    let n = c.count.ensures.count in
    let same : g.D.Disk.seen c.write_heads.new.disk 22 ≡ g.D.Disk.seen c.move_table.new.disk 22 = c.write_heads.ensures.others told 22 (λ is. omega (arith, is)) in
    on_ok_weaker c.write_heads.result
    (λ long. (
      ap (λ k. k * size_of table.Txs) (sym n) ∙ c.in_ok-move_table.ensures.grown told ∙ ap (λ (file : List ℕ). length file) (sym same),
      ap (λ k. k * 8) (sym many) ∙ long,
    ))
    (c.write_heads.ensures.grown told)
