use Rattle.std.proofs.Common.{◌<◌, ◌≤◌, length, sym, subst, arith}
use Rattle.el_rows.specs.Transaction.{with_edits}
use Rattle.el_rows.proofs.TransactionLemmas.{more}
use Rattle.el_schema.specs.Rows.{Hold}
use Rattle.el_schema.proofs.Held.{count_txs}
use Rattle.el_queries.specs.within.LastBlock.{buries}
use Rattle.el_queries.proofs.Walks.{numbers_step, numbers_end}
use Rattle.el_queries.proofs.buried.touch_all_buried.Goals as goal

pub loop-tx-preserved : goal.loop-tx-preserved
loop-tx-preserved g c = record {
  read = more c.loop-tx.invariant.read c.in_ok-touch_buried.ensures.read;
  walk = λ counts bs l s told hold some.
      let many = count_txs counts bs l (with_edits {G = g.R.Rows} c.args.t.now) hold in
      let before = subst (λ T. Hold counts bs l T) (sym c.loop-tx.invariant.read.tables) hold in
      let lt : c.loop-tx.tx < length l.txs = omega (arith, many, c.count-tx-end.ensures.count, c.loop-tx-test.true) in
      numbers_step (buries s l) c.loop-tx.tx (length l.txs) _ _ _ lt
      (c.loop-tx.invariant.walk counts bs l s told hold some) (c.in_ok-touch_buried.ensures.touched counts bs l s told before some);
}

pub returns-clause-touched : goal.returns-clause-touched
returns-clause-touched g c counts bs l s told hold some =
    let many = count_txs counts bs l (with_edits {G = g.R.Rows} c.args.t.now) hold in
    let le : length l.txs ≤ c.loop-tx.tx = omega (arith, many, c.count-tx-end.ensures.count, c.loop-tx-test.false) in
    numbers_end (buries s l) c.loop-tx.tx (length l.txs) _ _ le (c.loop-tx.invariant.walk counts bs l s told hold some)
