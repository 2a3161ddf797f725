use Rattle.std.proofs.Common.{◌+◌, List, [], length, map, take, get_or, ap, sym, subst, ◌∙◌}
use Rattle.el_base.specs.declared.hash.Hash32.{Hash32}
use Rattle.el_row_formats.specs.RowBytes.{block_row_bytes, out_row_bytes, in_row_bytes, entry_row_bytes}
use Rattle.el_row_formats.specs.OldRowBytes.{old_block_row_bytes, old_out_row_bytes, old_in_row_bytes, old_entry_row_bytes, FitsOldBlockRow, FitsOldOutRow, FitsOldInRow, FitsOldEntryRow}
use Rattle.el_tables.specs.Lists.{ListedTx}
use Rattle.el_tables.specs.Tables.{rows_from, entry_row}
use Rattle.el_schema.specs.Rows.{block_fields, out_fields, in_fields, entry_fields}
use Rattle.el_migrate.specs.within.Moving.{AreHeads, HeadsOf, IsOldRow, new_rows}
use Rattle.el_migrate.proofs.RowPairs.{row_of, moves_tx, moves_script}
use Rattle.el_migrate.proofs.rows.move_row.Goals as goal

pub returns-in-Blocks-clause-row : goal.returns-in-Blocks-clause-row
returns-in-Blocks-clause-row c counts bs l moved given heads_given =
    let k = length c.args.links.now in
    let row = subst (λ u. IsOldRow counts bs l u c.args.n c.args.old.now) c.in-Blocks.is given in
    let heads = subst (λ u. HeadsOf u l c.args.n c.args.links.now) c.in-Blocks.is heads_given in
    let back = ap (λ u. get_or (new_rows k bs l u) c.args.n []) (sym c.in-Blocks.is) in
    let at = row_of old_block_row_bytes block_row_bytes block_fields FitsOldBlockRow bs c.args.n c.args.old.now row.fit.blocks row.within row.is in
    c.move_block.ensures.row at.r at.fits at.is ∙ at.there ∙ back

pub returns-in-Outs-clause-row : goal.returns-in-Outs-clause-row
returns-in-Outs-clause-row c counts bs l moved given heads_given =
    let k = length c.args.links.now in
    let row = subst (λ u. IsOldRow counts bs l u c.args.n c.args.old.now) c.in-Outs.is given in
    let heads = subst (λ u. HeadsOf u l c.args.n c.args.links.now) c.in-Outs.is heads_given in
    let back = ap (λ u. get_or (new_rows k bs l u) c.args.n []) (sym c.in-Outs.is) in
    let at = row_of old_out_row_bytes out_row_bytes out_fields FitsOldOutRow l.outs c.args.n c.args.old.now row.fit.outs row.within row.is in
    c.move_out.ensures.row at.r at.fits at.is ∙ at.there ∙ back

pub returns-in-Ins-clause-row : goal.returns-in-Ins-clause-row
returns-in-Ins-clause-row c counts bs l moved given heads_given =
    let k = length c.args.links.now in
    let row = subst (λ u. IsOldRow counts bs l u c.args.n c.args.old.now) c.in-Ins.is given in
    let heads = subst (λ u. HeadsOf u l c.args.n c.args.links.now) c.in-Ins.is heads_given in
    let back = ap (λ u. get_or (new_rows k bs l u) c.args.n []) (sym c.in-Ins.is) in
    let at = row_of old_in_row_bytes in_row_bytes in_fields FitsOldInRow l.ins c.args.n c.args.old.now row.fit.ins row.within row.is in
    c.move_in.ensures.row at.r at.fits at.is ∙ at.there ∙ back

pub returns-in-Entries-clause-row : goal.returns-in-Entries-clause-row
returns-in-Entries-clause-row c counts bs l moved given heads_given =
    let k = length c.args.links.now in
    let row = subst (λ u. IsOldRow counts bs l u c.args.n c.args.old.now) c.in-Entries.is given in
    let heads = subst (λ u. HeadsOf u l c.args.n c.args.links.now) c.in-Entries.is heads_given in
    let back = ap (λ u. get_or (new_rows k bs l u) c.args.n []) (sym c.in-Entries.is) in
    let at = row_of old_entry_row_bytes entry_row_bytes entry_fields FitsOldEntryRow (rows_from (entry_row l.entries) 0 l.entries) c.args.n c.args.old.now row.fit.entries row.within row.is in
    c.move_entry.ensures.row at.r at.fits at.is ∙ at.there ∙ back

pub returns-in-Txs-clause-row : goal.returns-in-Txs-clause-row
returns-in-Txs-clause-row c counts bs l moved given heads_given =
    let k = length c.args.links.now in
    let row = subst (λ u. IsOldRow counts bs l u c.args.n c.args.old.now) c.in-Txs.is given in
    let heads = subst (λ u. HeadsOf u l c.args.n c.args.links.now) c.in-Txs.is heads_given in
    let back = ap (λ u. get_or (new_rows k bs l u) c.args.n []) (sym c.in-Txs.is) in
    let at = moves_tx counts (length c.args.links.now) bs l c.args.n c.args.old.now row in
    c.move_tx.ensures.row at.r (map (λ (t : ListedTx). t.txid) (take c.args.n l.txs)) at.fits at.is heads at.many ∙ at.there ∙ back

pub returns-in-Txs-clause-heads : goal.returns-in-Txs-clause-heads
returns-in-Txs-clause-heads c counts bs l moved given heads_given =
    let row = subst (λ u. IsOldRow counts bs l u c.args.n c.args.old.now) c.in-Txs.is given in
    let heads = subst (λ u. HeadsOf u l c.args.n c.args.links.now) c.in-Txs.is heads_given in
    let at = moves_tx counts (length c.args.links.now) bs l c.args.n c.args.old.now row in
    subst (λ u. HeadsOf u l (c.args.n + 1) c.move_tx.new.links) (sym c.in-Txs.is) (
    subst (λ (hashes : List Hash32). AreHeads c.move_tx.new.links hashes) at.more (c.move_tx.ensures.heads at.r (map (λ (t : ListedTx). t.txid) (take c.args.n l.txs)) at.fits at.is heads at.many))

pub returns-in-Scripts-clause-row : goal.returns-in-Scripts-clause-row
returns-in-Scripts-clause-row c counts bs l moved given heads_given =
    let k = length c.args.links.now in
    let row = subst (λ u. IsOldRow counts bs l u c.args.n c.args.old.now) c.in-Scripts.is given in
    let heads = subst (λ u. HeadsOf u l c.args.n c.args.links.now) c.in-Scripts.is heads_given in
    let back = ap (λ u. get_or (new_rows k bs l u) c.args.n []) (sym c.in-Scripts.is) in
    let at = moves_script counts (length c.args.links.now) bs l c.args.n c.args.old.now row in
    c.move_script.ensures.row at.r (take c.args.n l.scripts) at.fits at.is heads at.many ∙ at.there ∙ back

pub returns-in-Scripts-clause-heads : goal.returns-in-Scripts-clause-heads
returns-in-Scripts-clause-heads c counts bs l moved given heads_given =
    let row = subst (λ u. IsOldRow counts bs l u c.args.n c.args.old.now) c.in-Scripts.is given in
    let heads = subst (λ u. HeadsOf u l c.args.n c.args.links.now) c.in-Scripts.is heads_given in
    let at = moves_script counts (length c.args.links.now) bs l c.args.n c.args.old.now row in
    subst (λ u. HeadsOf u l (c.args.n + 1) c.move_script.new.links) (sym c.in-Scripts.is) (
    subst (λ (hashes : List Hash32). AreHeads c.move_script.new.links hashes) at.more (c.move_script.ensures.heads at.r (take c.args.n l.scripts) at.fits at.is heads at.many))
