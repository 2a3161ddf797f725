use Rattle.std.proofs.Common.{◌≡◌, ◌||◌, ℕ, Bool, length, ap, sym, subst, ◌∙◌, arith}
use Rattle.std.specs.List.{list_any}
use Rattle.el_chain.specs.Headers.{same_hash}
use Rattle.el_chain.proofs.TouchLemmas.{or_nothing}
use Rattle.el_row_formats.specs.Tables.{Tables}
use Rattle.el_row_formats.specs.declared.table.Table.TheVariants as table
use Rattle.el_rows.specs.Transaction.{with_edits}
use Rattle.el_rows.proofs.TransactionLemmas.{more}
use Rattle.el_tables.specs.Tables.{tables_of, numbers_from}
use Rattle.el_schema.specs.Rows.{Hold}
use Rattle.el_schema.proofs.Rows.{count_outs}
use Rattle.el_queries.specs.within.LastBlock.{buries_at, buries}
use Rattle.el_queries.proofs.Walks.{tx_read, numbers_step, numbers_end, any_capped, past_buries, new_buries, all_by_row, no_older}
use Rattle.el_queries.proofs.buried.touch_buried.Goals as goal

pub returns-then-is_none-clause-touched : goal.returns-then-is_none-clause-touched
returns-then-is_none-clause-touched g c counts bs l s told hold some =
    let told_tx = tx_read counts.txs l.txs 0 l.txs c.args.tx c.in_ok-row.row (c.in_ok-row.ensures.row (tables_of counts bs l) told hold) in
    or_nothing (list_any (same_hash s) c.args.touched.now) (buries s l c.args.tx)
    (new_buries s l c.args.tx c.in_ok-row.row told_tx (no_older c.in_ok-row.row.older c.is_none.result c.is_none.ensures c.if-is_none.true))

pub loop-index-preserved : goal.loop-index-preserved
loop-index-preserved g c = record {
  read = more c.loop-index.invariant.read c.in_ok-touch_buried_at.ensures.read;
  walk = λ counts bs l s told hold some.
      let before = subst (λ T. Hold counts bs l T) (sym c.loop-index.invariant.read.tables) hold in
      numbers_step (λ (i : ℕ). buries_at s c.args.tx l (record { txid = c.in_ok-row.row.txid; index = i })) c.loop-index.index c.min-most.result _ _ _ c.loop-index-test.true
      (c.loop-index.invariant.walk counts bs l s told hold some) (c.in_ok-touch_buried_at.ensures.touched counts bs l s told before some);
}

pub returns-clause-touched : goal.returns-clause-touched
returns-clause-touched g c counts bs l s told hold some =
    let row = c.in_ok-row.row in
    let old = list_any (same_hash s) c.args.touched.now in
    let told_tx = tx_read counts.txs l.txs 0 l.txs c.args.tx row (c.in_ok-row.ensures.row (tables_of counts bs l) told hold) in
    let test = λ (i : ℕ). buries_at s c.args.tx l (record { txid = row.txid; index = i }) in
    let many : c.count.result ≡ length l.outs = c.count.ensures.count ∙ ap (λ (T : Tables). length (T table.Outs)) c.tx_row.ensures.read.tables ∙ count_outs (with_edits {G = g.R.Rows} c.args.t.now) (with_edits {G = g.R.Rows} c.args.t.now) (tables_of counts bs l) hold in
    let capped : list_any test (numbers_from 0 c.min-most.result) ≡ list_any test (numbers_from 0 row.outs) =
    any_capped test row.outs (length l.outs) c.min-most.result (omega (arith, many, c.min-most.ensures, c.from.ensures)) (λ i le. past_buries s c.args.tx l row.txid i le) in
    numbers_end test c.loop-index.index c.min-most.result _ _ c.loop-index-test.false (c.loop-index.invariant.walk counts bs l s told hold some)
    ∙ ap (λ (b : Bool). old || b) (capped ∙ all_by_row s l c.args.tx row told_tx)
