use Rattle.std.proofs.Common.{refl}
use Rattle.el_row_formats.specs.declared.table.Table.TheVariants as table
use Rattle.el_rows.specs.Transaction.{with_edits}
use Rattle.el_schema.proofs.StandingLemmas.{same_stand}
use Rattle.el_index.proofs.Kept.{quiet, below_top, rows_of_ids}
use Rattle.el_index.proofs.ledger_impl.IndexLedger.block_txids.Goals as goal

pub block_txids-requires-clause-within : goal.block_txids-requires-clause-within
block_txids-requires-clause-within g c = rw (c.new-txn.ensures.counts table.Blocks) (below_top _ _ c.requires.within)

pub returns-clause-txids : goal.returns-clause-txids
returns-clause-txids g c chain stands = c.in_ok-found.ensures.txids chain stands.told (same_stand (g.R.Rows.lists c.args.self.now.rows) (with_edits {G = g.R.Rows} c.new-txn.result) chain (_, stands.stand) (c.new-txn.ensures.tables stands.told))

pub returns-in_err-found-clause-quiet : goal.returns-in_err-found-clause-quiet
returns-in_err-found-clause-quiet g c =
    let r = g.R.Rows in
    quiet r (λ l. l.rows) (λ l. l.tip) c.args.self.now _ c.block_txids.new.t.rows.now c.drop-txn.ensures refl c.requires.live
    (rw c.new-txn.ensures.below at c.block_txids.ensures.read.only)

pub returns-clause-quiet : goal.returns-clause-quiet
returns-clause-quiet g c =
    let r = g.R.Rows in
    quiet r (λ l. l.rows) (λ l. l.tip) c.args.self.now _ c.block_txids.new.t.rows.now c.drop-txn-2.ensures refl c.requires.live
    (rw c.new-txn.ensures.below at c.block_txids.ensures.read.only)

pub returns-clause-rows : goal.returns-clause-rows
returns-clause-rows g c chain stands =
    rows_of_ids g.R.Rows.reads c.args.self.now.rows _ c.block_txids.new.t.rows.now _ _ c.new-txn.ensures.below c.drop-txn-2.ensures
    (c.block_txids.ensures.rows chain stands.told (same_stand (g.R.Rows.lists c.args.self.now.rows) (with_edits {G = g.R.Rows} c.new-txn.result) chain (_, stands.stand) (c.new-txn.ensures.tables stands.told)))

pub returns-in_err-found-clause-rows : goal.returns-in_err-found-clause-rows
returns-in_err-found-clause-rows g c chain stands =
    rows_of_ids g.R.Rows.reads c.args.self.now.rows _ c.block_txids.new.t.rows.now _ _ c.new-txn.ensures.below c.drop-txn.ensures
    (c.block_txids.ensures.rows chain stands.told (same_stand (g.R.Rows.lists c.args.self.now.rows) (with_edits {G = g.R.Rows} c.new-txn.result) chain (_, stands.stand) (c.new-txn.ensures.tables stands.told)))
