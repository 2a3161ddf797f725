use Rattle.std.proofs.Common.{◌≡◌, ◌<◌, ◌^◌, ℕ, Option, Some, option_map, slice_get, sym, subst, ◌∙◌, arith}
use Rattle.el_row_formats.specs.RowBytes.{number_limit, tx_row_bytes, FitsTxRow, link_number}
use Rattle.el_row_formats.specs.declared.table.Table.TheVariants as table
use Rattle.el_rows.specs.Transaction.{with_edits}
use Rattle.el_schema.specs.Rows.{tx_fields}
use Rattle.el_schema.proofs.Rows.{read_at}
use Rattle.el_position.specs.declared.lookup.NumberedTx.{NumberedTx}
use Rattle.el_position.proofs.TxSteps.{newest_listed}
use Rattle.el_position.proofs.lookup.newest_row.Goals as goal

pub returns-in-Some-clause-newest : goal.returns-in-Some-clause-newest
returns-in-Some-clause-newest g c counts bs l told hold some =
    sym c.in-Some.is ∙ c.in_ok-found.ensures.newest counts bs l told hold some ∙ newest_listed c.args.txid.now l.txs

pub returns-in-None-clause-newest : goal.returns-in-None-clause-newest
returns-in-None-clause-newest g c counts bs l told hold some =
    sym c.in-None.is ∙ c.in_ok-found.ensures.newest counts bs l told hold some ∙ newest_listed c.args.txid.now l.txs

pub returns-in-Some-clause-row : goal.returns-in-Some-clause-row
returns-in-Some-clause-row g c tb told same x is =
    let shown = with_edits {G = g.R.Rows} c.args.t.now in
    let n = c.in-Some.number in
    let here = read_at tx_row_bytes tx_fields FitsTxRow tb.txs (shown table.Txs) n c.read-row.result c.find_row.new.row (same.each table.Txs) same.fit.txs
    (c.in_ok-found.ensures.below n c.in-Some.is) (c.in_ok-found.ensures.row told n c.in-Some.is) c.read-row.ensures.only in
    let one : record { number = n; row = c.read-row.result } ≡ x = cc in
    subst (λ (y : NumberedTx). Some y.row ≡ option_map tx_fields (slice_get tb.txs y.number)) one here

pub returns-in-Some-clause-few : goal.returns-in-Some-clause-few
returns-in-Some-clause-few g c x is =
    let fit = subst (λ (o : Option ℕ). link_number o < number_limit) c.in-Some.is c.in_ok-found.ensures.fits in
    let one : record { number = c.in-Some.number; row = c.read-row.result } ≡ x = cc in
    subst (λ (y : NumberedTx). y.number < number_limit) one (omega (arith, fit))
