use Rattle.std.proofs.Common.{◌≡◌, ◌≤◌, ℕ, Option, Some, None, is_some, false, not, length, map, refl, ap, sym, ◌∙◌, arith}
use Rattle.std.proofs.lemmas.List.{get_or-map, get_or_past, length-map}
use Rattle.el_chain.specs.Chains.{zero_hash}
use Rattle.el_rows.specs.Transaction.{with_edits}
use Rattle.el_row_formats.specs.declared.tx_row.TxRow.{TxRow}
use Rattle.el_tables.specs.Lists.{ListedTx}
use Rattle.el_tables.specs.Tables.{tables_of}
use Rattle.el_schema.proofs.Held.{count_txs, no_tx}
use Rattle.el_schema.proofs.Rows.{listed_row, row_within}
use Rattle.el_spend.proofs.OlderWalks.{none_older}
use Rattle.el_spend.proofs.adding.txid_made_before.Goals as goal

none_of : (r : Option ℕ) → is_some r ≡ false → r ≡ None
none_of None e = refl
none_of (Some n) e = absurd cc

pub returns-then-tx-count-clause-txid : goal.returns-then-tx-count-clause-txid
returns-then-tx-count-clause-txid g c counts bs l told hold x is =
    let many = count_txs counts bs l (with_edits {G = g.R.Rows} c.args.t.now) hold in
    let ids = map (λ (t : ListedTx). t.txid) l.txs in
    let long = length-map l.txs (λ (t : ListedTx). t.txid) in
    let le : length ids ≤ c.args.tx = omega (arith, many, long, c.count.ensures.count, c.if-tx-count.true) in
    let same : x ≡ zero_hash = cc in
    same ∙ sym (get_or_past ids c.args.tx zero_hash le)

pub returns-then-is_none-clause-new : goal.returns-then-is_none-clause-new
returns-then-is_none-clause-new g c counts bs l told hold is =
    none_older counts.txs l.txs c.args.tx c.in_ok-row.row (c.in_ok-row.ensures.row (tables_of counts bs l) told hold)
    (none_of c.in_ok-row.row.older (c.is_none.ensures ∙ ap not c.if-is_none.true))

pub returns-clause-txid : goal.returns-clause-txid
returns-clause-txid g c counts bs l told hold x is =
    let found = c.in_ok-row.ensures.row (tables_of counts bs l) told hold in
    let row = listed_row counts.txs l.txs c.args.tx c.in_ok-row.row found in
    let lt = row_within counts.txs l.txs c.args.tx c.in_ok-row.row found in
    let same : x ≡ c.in_ok-row.row.txid = cc in
    same ∙ ap (λ (r : TxRow). r.txid) row ∙ sym (get_or-map (λ (t : ListedTx). t.txid) l.txs c.args.tx no_tx zero_hash lt)
