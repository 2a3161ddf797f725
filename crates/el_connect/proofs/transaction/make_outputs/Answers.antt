use Rattle.std.proofs.Common.{◌≡◌, ◌⊎◌, ◌≤◌, OnOk, IfOk, IfErr, length, sym, subst}
use Rattle.std.proofs.lemmas.Result.{err_from_is_err_and}
use Rattle.el_chain.proofs.CoinSteps.{err_passed}
use Rattle.el_chain.specs.declared.fault.ConnectFault.TheVariants as refusal
use Rattle.el_chain.specs.RowCounts.{row_limit}
use Rattle.el_rows.specs.Transaction.{with_edits}
use Rattle.el_tables.specs.Lists.{Lists, add_tx}
use Rattle.el_schema.specs.Rows.{listed_tx}
use Rattle.el_connect.specs.within.Parts.{HasRoomFor, Overflows, Reached}
use Rattle.el_connect.proofs.LoopLemmas.{fails}
use Rattle.el_connect.proofs.StepLemmas.{tx_added_refused}
use Rattle.el_connect.proofs.TxLemmas.{tx_listed, made_at}
use Rattle.el_connect.proofs.transaction.make_outputs.Goals as goal

pub returns-in_err-number-clause-refused : goal.returns-in_err-number-clause-refused
returns-in_err-number-clause-refused g c counts bs l told reached room fit few short =
    let e = c.in_err-number.field-0.0 in
    err_passed c.from_residual.result _ e (err_from_is_err_and c.from_residual.result c.from_residual.ensures.1)
    (fails e (tx_added_refused counts bs l (with_edits {G = g.R.Rows} c.args.t.now) e reached.hold few c.in_err-number.ensures.fault))

pub returns-clause-made : goal.returns-clause-made
returns-clause-made g c counts bs l told reached room fit =
    let t = listed_tx c.args.row.now in
    let added = c.in_ok-number.ensures.lists counts bs l told reached.hold reached.tx_heads in
    let numbered = c.in_ok-number.ensures.listed counts bs l reached.hold in
    let ready = tx_listed counts bs l t (with_edits {G = g.R.Rows} c.args.t.now) (with_edits {G = g.R.Rows} c.add_tx.new.t) (with_edits {G = g.R.Rows} c.older_tx.new.t) c.args.left c.in_ok-number.number c.in_ok-older.older
    c.args.outputs.now reached room fit added numbered c.older_tx.ensures.read.tables (λ x hold. c.in_ok-older.ensures.older counts bs x told hold) in
    subst (λ (x : Lists). IfOk c.fund_outputs.result (λ after. Reached counts bs x (with_edits {G = g.R.Rows} c.fund_outputs.new.t) after)) (made_at l t c.args.outputs.now c.in_ok-number.number numbered)
    (c.fund_outputs.ensures.funded counts bs (add_tx t l) told ready.reached ready.maker ready.room ready.fit)

pub returns-clause-room : goal.returns-clause-room
returns-clause-room g c counts bs l told reached room fit =
    let t = listed_tx c.args.row.now in
    let added = c.in_ok-number.ensures.lists counts bs l told reached.hold reached.tx_heads in
    let numbered = c.in_ok-number.ensures.listed counts bs l reached.hold in
    let ready = tx_listed counts bs l t (with_edits {G = g.R.Rows} c.args.t.now) (with_edits {G = g.R.Rows} c.add_tx.new.t) (with_edits {G = g.R.Rows} c.older_tx.new.t) c.args.left c.in_ok-number.number c.in_ok-older.older
    c.args.outputs.now reached room fit added numbered c.older_tx.ensures.read.tables (λ x hold. c.in_ok-older.ensures.older counts bs x told hold) in
    subst (λ (x : Lists). OnOk c.fund_outputs.result (HasRoomFor x 0 0)) (made_at l t c.args.outputs.now c.in_ok-number.number numbered)
    (c.fund_outputs.ensures.room counts bs (add_tx t l) told ready.reached ready.maker ready.room ready.fit)

pub returns-clause-refused : goal.returns-clause-refused
returns-clause-refused g c counts bs l told reached room fit few short =
    let t = listed_tx c.args.row.now in
    let added = c.in_ok-number.ensures.lists counts bs l told reached.hold reached.tx_heads in
    let numbered = c.in_ok-number.ensures.listed counts bs l reached.hold in
    let ready = tx_listed counts bs l t (with_edits {G = g.R.Rows} c.args.t.now) (with_edits {G = g.R.Rows} c.add_tx.new.t) (with_edits {G = g.R.Rows} c.older_tx.new.t) c.args.left c.in_ok-number.number c.in_ok-older.older
    c.args.outputs.now reached room fit added numbered c.older_tx.ensures.read.tables (λ x hold. c.in_ok-older.ensures.older counts bs x told hold) in
    let made = made_at l t c.args.outputs.now c.in_ok-number.number numbered in
    subst (λ (x : Lists). IfErr c.fund_outputs.result (λ e. (e ≡ refusal.DiskFailed) ⊎ ((e ≡ refusal.Memory) ⊎ Overflows x e))) made
    (c.fund_outputs.ensures.refused counts bs (add_tx t l) told ready.reached ready.maker ready.room ready.fit (subst (λ (x : Lists). length x.scripts ≤ row_limit 6) (sym made) short))
