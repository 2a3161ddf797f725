use Rattle.std.proofs.Common.{◌≡◌, ◌≤◌, ◌+◌, ◌-◌, ℕ, List, Option, None, Some, min, length, map, take, drop, refl, ap, ap₂, sym, subst, ◌∙◌, arith, length-drop}
use Rattle.std.proofs.lemmas.List.{length-map, length-take}
use Rattle.std.specs.Prelude.{IfSome}
use Rattle.el_base.specs.declared.hash.Hash32.{Hash32}
use Rattle.el_row_formats.specs.declared.table.Table.TheVariants as table
use Rattle.el_row_formats.specs.RowBytes.{tx_row_bytes}
use Rattle.el_model.specs.Queries.{txids_at}
use Rattle.el_rows.specs.Transaction.{with_edits, reads_in}
use Rattle.el_schema.proofs.StandingLemmas.{holds}
use Rattle.el_tables.specs.ChainLists.{lists, listed_blocks}
use Rattle.el_tables.specs.Tables.{tables_of, in_both}
use Rattle.el_tables.specs.Tables as typed
use Rattle.el_schema.specs.Rows.{Encode, tx_fields}
use Rattle.el_schema.proofs.Answered.{if_ok}
use Rattle.el_queries.proofs.Heights.{txids_told}
use Rattle.el_queries.proofs.blocks.block_txids.Goals as goal

pub returns-clause-txids : goal.returns-clause-txids
returns-clause-txids g c chain told stand =
    let hold = (holds (with_edits {G = g.R.Rows} c.args.t.now) chain stand).1 in
    let tb = tables_of (in_both stand.0) (listed_blocks chain) (lists chain) in
    let row = c.in_ok-row.row in
    let row_is = c.in_ok-row.ensures.row tb told hold in
    let after = subst (λ T. Encode T tb) (sym c.block_row.ensures.read.tables) hold in
    if_ok c.txids_between.result (c.txids_between.ensures.txids tb told after) (λ found is.
    ap (txids_at chain) (sym c.from.ensures)
    ∙ txids_told (in_both stand.0).txs chain c.from.result row found.items row_is
    (is ∙ ap₂ (λ (m k : ℕ). map (λ (r : typed.TxRow). r.listed.txid) (take (m + k - row.first_tx) (drop row.first_tx tb.txs))) c.from-2.ensures c.from-3.ensures))

-- the row of the block counts as one
row_alone : (ids : Option (List Hash32)) (before after : ℕ) → after ≤ before + 1 → IfSome ids (λ found. after ≤ before + (1 + length found))
row_alone None before after one = tt
row_alone (Some found) before after one = omega (arith, one)

pub returns-in_err-row-clause-rows : goal.returns-in_err-row-clause-rows
returns-in_err-row-clause-rows g c chain told stand =
    row_alone (txids_at chain c.args.h) (reads_in {G = g.R.Rows} c.args.t.now) (reads_in {G = g.R.Rows} c.block_row.new.t)
    (omega (arith, c.block_row.ensures.rows))

pub returns-clause-rows : goal.returns-clause-rows
returns-clause-rows g c chain told stand =
    let hold = (holds (with_edits {G = g.R.Rows} c.args.t.now) chain stand).1 in
    let tb = tables_of (in_both stand.0) (listed_blocks chain) (lists chain) in
    let row = c.in_ok-row.row in
    let after = subst (λ T. Encode T tb) (sym c.block_row.ensures.read.tables) hold in
    let rows : List typed.TxRow = take (row.first_tx + row.txs - row.first_tx) (drop row.first_tx tb.txs) in
    let ids : List Hash32 = map (λ (r : typed.TxRow). r.listed.txid) rows in
    let ids_are : txids_at chain c.args.h ≡ Some ids =
    ap (txids_at chain) (sym c.from.ensures) ∙ txids_told (in_both stand.0).txs chain c.from.result row ids (c.in_ok-row.ensures.row tb told hold) refl in
    let there : length (with_edits {G = g.R.Rows} c.block_row.new.t table.Txs) ≡ length tb.txs = ap length (after.each table.Txs) ∙ length-map tb.txs (λ r. tx_row_bytes (tx_fields r)) in
    let many : length ids ≡ min (row.first_tx + row.txs - row.first_tx) (length tb.txs - row.first_tx) =
    length-map rows (λ r. r.listed.txid) ∙ length-take (row.first_tx + row.txs - row.first_tx) (drop row.first_tx tb.txs)
    ∙ ap (min (row.first_tx + row.txs - row.first_tx)) (length-drop row.first_tx tb.txs) in
    rw ids_are (omega (arith, c.block_row.ensures.rows, c.txids_between.ensures.rows, there, many, c.from-2.ensures, c.from-3.ensures))
