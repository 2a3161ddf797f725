use Rattle.std.proofs.Common.{◌+◌, ◌*◌, ℕ, length, refl}
use Rattle.el_chain.specs.History.{history}
use Rattle.el_model.specs.Queries.{scripts_in_bucket, outputs_of_history}
use Rattle.el_rows.specs.Transaction.{with_edits}
use Rattle.el_schema.proofs.StandingLemmas.{same_stand}
use Rattle.el_index.proofs.Kept.{quiet, rows_read_in}
use Rattle.el_index.proofs.ledger_impl.IndexLedger.unspent.Goals as goal

pub returns-clause-unspent : goal.returns-clause-unspent
returns-clause-unspent g c chain stands = c.in_ok-found.ensures.unspent chain stands.told (same_stand (g.R.Rows.lists c.args.self.now.rows) (with_edits {G = g.R.Rows} c.new-txn.result) chain (_, stands.stand) (c.new-txn.ensures.tables stands.told))

pub returns-clause-rows : goal.returns-clause-rows
returns-clause-rows g c chain stands =
    rows_read_in g.R.Rows.reads (λ (n : ℕ). 1 + scripts_in_bucket chain n c.args.script_hash.now.0 + 2 * length (history chain c.args.script_hash.now.0) + outputs_of_history chain c.args.script_hash.now.0) (g.R.Rows.lists c.args.self.now.rows) (with_edits {G = g.R.Rows} c.new-txn.result)
    c.args.self.now.rows _ c.unspent.new.t.rows.now _ (c.new-txn.ensures.tables stands.told) c.new-txn.ensures.below c.drop-txn-2.ensures
    (c.unspent.ensures.rows chain stands.told (same_stand (g.R.Rows.lists c.args.self.now.rows) (with_edits {G = g.R.Rows} c.new-txn.result) chain (_, stands.stand) (c.new-txn.ensures.tables stands.told)))

pub returns-in_err-found-clause-rows : goal.returns-in_err-found-clause-rows
returns-in_err-found-clause-rows g c chain stands =
    rows_read_in g.R.Rows.reads (λ (n : ℕ). 1 + scripts_in_bucket chain n c.args.script_hash.now.0 + 2 * length (history chain c.args.script_hash.now.0) + outputs_of_history chain c.args.script_hash.now.0) (g.R.Rows.lists c.args.self.now.rows) (with_edits {G = g.R.Rows} c.new-txn.result)
    c.args.self.now.rows _ c.unspent.new.t.rows.now _ (c.new-txn.ensures.tables stands.told) c.new-txn.ensures.below c.drop-txn.ensures
    (c.unspent.ensures.rows chain stands.told (same_stand (g.R.Rows.lists c.args.self.now.rows) (with_edits {G = g.R.Rows} c.new-txn.result) chain (_, stands.stand) (c.new-txn.ensures.tables stands.told)))

pub returns-in_err-found-clause-quiet : goal.returns-in_err-found-clause-quiet
returns-in_err-found-clause-quiet g c =
    let r = g.R.Rows in
    quiet r (λ l. l.rows) (λ l. l.tip) c.args.self.now _ c.unspent.new.t.rows.now c.drop-txn.ensures refl c.requires.live
    (rw c.new-txn.ensures.below at c.unspent.ensures.read.only)

pub returns-clause-quiet : goal.returns-clause-quiet
returns-clause-quiet g c =
    let r = g.R.Rows in
    quiet r (λ l. l.rows) (λ l. l.tip) c.args.self.now _ c.unspent.new.t.rows.now c.drop-txn-2.ensures refl c.requires.live
    (rw c.new-txn.ensures.below at c.unspent.ensures.read.only)
