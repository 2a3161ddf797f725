use Rattle.std.proofs.Common.{refl}
use Rattle.el_row_formats.specs.declared.table.Table.TheVariants as table
use Rattle.el_rows.specs.Transaction.{with_edits}
use Rattle.el_schema.proofs.StandingLemmas.{same_stand}
use Rattle.el_index.proofs.Kept.{quiet, below_top}
use Rattle.el_index.proofs.ledger_impl.IndexLedger.header.Goals as goal

pub header-requires-clause-within : goal.header-requires-clause-within
header-requires-clause-within g c = rw (c.new-txn.ensures.counts table.Blocks) (below_top _ _ c.requires.within)

pub returns-clause-header : goal.returns-clause-header
returns-clause-header g c chain stands = c.in_ok-found.ensures.header chain stands.told (same_stand (g.R.Rows.lists c.args.self.now.rows) (with_edits {G = g.R.Rows} c.new-txn.result) chain (_, stands.stand) (c.new-txn.ensures.tables stands.told))

pub returns-in_err-found-clause-quiet : goal.returns-in_err-found-clause-quiet
returns-in_err-found-clause-quiet g c =
    let r = g.R.Rows in
    quiet r (λ l. l.rows) (λ l. l.tip) c.args.self.now _ c.header.new.t.rows.now c.drop-txn.ensures refl c.requires.live
    (rw c.new-txn.ensures.below at c.header.ensures.read.only)

pub returns-clause-quiet : goal.returns-clause-quiet
returns-clause-quiet g c =
    let r = g.R.Rows in
    quiet r (λ l. l.rows) (λ l. l.tip) c.args.self.now _ c.header.new.t.rows.now c.drop-txn-2.ensures refl c.requires.live
    (rw c.new-txn.ensures.below at c.header.ensures.read.only)
