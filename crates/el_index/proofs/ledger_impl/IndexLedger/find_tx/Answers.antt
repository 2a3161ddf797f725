use Rattle.std.proofs.Common.{◌+◌, ℕ, refl}
use Rattle.el_model.specs.Queries.{txs_in_bucket}
use Rattle.el_rows.specs.Transaction.{with_edits}
use Rattle.el_schema.proofs.StandingLemmas.{same_stand}
use Rattle.el_index.proofs.Kept.{quiet, rows_read_in}
use Rattle.el_index.proofs.ledger_impl.IndexLedger.find_tx.Goals as goal

pub returns-clause-spot : goal.returns-clause-spot
returns-clause-spot g c chain stands = c.in_ok-found.ensures.spot chain stands.told (same_stand (g.R.Rows.lists c.args.self.now.rows) (with_edits {G = g.R.Rows} c.new-txn.result) chain (_, stands.stand) (c.new-txn.ensures.tables stands.told))

pub returns-clause-rows : goal.returns-clause-rows
returns-clause-rows g c chain stands =
    rows_read_in g.R.Rows.reads (λ (n : ℕ). 2 + txs_in_bucket chain n c.args.txid.now.0) (g.R.Rows.lists c.args.self.now.rows) (with_edits {G = g.R.Rows} c.new-txn.result)
    c.args.self.now.rows _ c.find_tx.new.t.rows.now _ (c.new-txn.ensures.tables stands.told) c.new-txn.ensures.below c.drop-txn-2.ensures
    (c.find_tx.ensures.rows chain stands.told (same_stand (g.R.Rows.lists c.args.self.now.rows) (with_edits {G = g.R.Rows} c.new-txn.result) chain (_, stands.stand) (c.new-txn.ensures.tables stands.told)))

pub returns-in_err-found-clause-rows : goal.returns-in_err-found-clause-rows
returns-in_err-found-clause-rows g c chain stands =
    rows_read_in g.R.Rows.reads (λ (n : ℕ). 2 + txs_in_bucket chain n c.args.txid.now.0) (g.R.Rows.lists c.args.self.now.rows) (with_edits {G = g.R.Rows} c.new-txn.result)
    c.args.self.now.rows _ c.find_tx.new.t.rows.now _ (c.new-txn.ensures.tables stands.told) c.new-txn.ensures.below c.drop-txn.ensures
    (c.find_tx.ensures.rows chain stands.told (same_stand (g.R.Rows.lists c.args.self.now.rows) (with_edits {G = g.R.Rows} c.new-txn.result) chain (_, stands.stand) (c.new-txn.ensures.tables stands.told)))

pub returns-in_err-found-clause-quiet : goal.returns-in_err-found-clause-quiet
returns-in_err-found-clause-quiet g c =
    let r = g.R.Rows in
    quiet r (λ l. l.rows) (λ l. l.tip) c.args.self.now _ c.find_tx.new.t.rows.now c.drop-txn.ensures refl c.requires.live
    (rw c.new-txn.ensures.below at c.find_tx.ensures.read.only)

pub returns-clause-quiet : goal.returns-clause-quiet
returns-clause-quiet g c =
    let r = g.R.Rows in
    quiet r (λ l. l.rows) (λ l. l.tip) c.args.self.now _ c.find_tx.new.t.rows.now c.drop-txn-2.ensures refl c.requires.live
    (rw c.new-txn.ensures.below at c.find_tx.ensures.read.only)
