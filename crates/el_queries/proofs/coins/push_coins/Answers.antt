use Rattle.std.proofs.Common.{◌≡◌, ◌∙◌, ◌+◌, ◌-◌, ◌<◌, ◌++◌, ℕ, List, Option, length, get_or, drop, reverse, sym, ap, subst, arith, append_assoc}
use Rattle.std.proofs.lemmas.List.{append-nil}
use Rattle.el_chain.specs.declared.coin.Coin.{Coin}
use Rattle.el_rows.specs.Transaction.{with_edits}
use Rattle.el_rows.proofs.TransactionLemmas.{more}
use Rattle.el_tables.specs.Edits.{no_out}
use Rattle.el_tables.specs.Lists.{ListedTx, ListedOut}
use Rattle.el_tables.specs.Tables.{tables_of}
use Rattle.el_schema.specs.Rows.{Hold, listed_tx, out_fields}
use Rattle.el_schema.proofs.Held.{count_txs}
use Rattle.el_schema.proofs.Rows.{found_at, found_within}
use Rattle.el_queries.specs.within.Histories.{own_coin, own_coins, outs_of_tx, coins_made_by}
use Rattle.el_queries.proofs.CoinRows.{outs_long, out_at}
use Rattle.el_queries.proofs.OwnCoins.{own_before}
use Rattle.el_queries.proofs.TxRows.{tx_past, tx_of_row, outs_of_row}
use Rattle.el_queries.proofs.coins.push_coins.Goals as goal

pub returns-then-tx-count-clause-pushed : goal.returns-then-tx-count-clause-pushed
returns-then-tx-count-clause-pushed g c counts bs l told hold =
    let script = c.args.script.now in
    let many = count_txs counts bs l (with_edits {G = g.R.Rows} c.args.t.now) hold in
    let none = tx_past l.txs c.args.tx (omega (arith, many, c.count.ensures.count, c.if-tx-count.true)) in
    sym (append-nil c.args.found.now.items)
    ∙ ap (λ (t : Option ListedTx). c.args.found.now.items ++ reverse (coins_made_by script.number script.row.script l.outs t)) (sym none)

pub returns-in_err-output-clause-rows : goal.returns-in_err-output-clause-rows
returns-in_err-output-clause-rows g c counts bs l told hold =
    let outs = outs_of_row counts.txs l.txs c.args.tx c.in_ok-row.row (c.in_ok-row.ensures.row (tables_of counts bs l) told hold) in
    omega (arith, outs, c.loop-index.invariant.rows, c.out_row.ensures.rows, c.loop-index-test.true)

pub returns-in_err-push_coin-clause-rows : goal.returns-in_err-push_coin-clause-rows
returns-in_err-push_coin-clause-rows g c counts bs l told hold =
    let outs = outs_of_row counts.txs l.txs c.args.tx c.in_ok-row.row (c.in_ok-row.ensures.row (tables_of counts bs l) told hold) in
    omega (arith, outs, c.loop-index.invariant.rows, c.out_row.ensures.rows, c.loop-index-test.true)

pub returns-clause-rows : goal.returns-clause-rows
returns-clause-rows g c counts bs l told hold =
    let outs = outs_of_row counts.txs l.txs c.args.tx c.in_ok-row.row (c.in_ok-row.ensures.row (tables_of counts bs l) told hold) in
    omega (arith, outs, c.loop-index.invariant.rows)

pub loop-index-preserved : goal.loop-index-preserved
loop-index-preserved g c = record {
  read = more c.loop-index.invariant.read c.in_ok-output.ensures.read;
  rows = omega (arith, c.out_row.ensures.rows, c.loop-index.invariant.rows, c.loop-index-test.true);
  coins = λ counts bs l told hold.
      let i = c.loop-index.index - 1 in
      let script = c.args.script.now in
      let k = script.number in
      let s = script.row.script in
      let t = listed_tx c.in_ok-row.row in
      let xs = outs_of_tx t l.outs in
      let x = get_or l.outs (t.first_out + i) no_out in
      let before = subst (λ T. Hold counts bs l T) (sym c.loop-index.invariant.read.tables) hold in
      let read = c.in_ok-output.ensures.row (tables_of counts bs l) told before in
      let there = found_within out_fields l.outs (t.first_out + i) c.in_ok-output.output read in
      let few : i < t.outs = omega arith in
      let long = outs_long t l.outs in
      let lt : i < length xs = omega (arith, few, long, there) in
      let one : c.loop-index.index ≡ i + 1 = omega (arith, c.loop-index-test.true) in
      let pushed = c.in_ok-push_coin.ensures.pushed x (found_at out_fields l.outs (t.first_out + i) no_out c.in_ok-output.output read) in
      pushed
      ∙ ap (λ (v : List Coin). v ++ own_coin k s t i x) (c.loop-index.invariant.coins counts bs l told hold)
      ∙ append_assoc c.args.found.now.items (reverse (own_coins k s t c.loop-index.index (drop c.loop-index.index xs))) (own_coin k s t i x)
      ∙ ap (λ (v : List Coin). c.args.found.now.items ++ v)
      (ap (λ (j : ℕ). reverse (own_coins k s t j (drop j xs)) ++ own_coin k s t i x) one
      ∙ ap (λ (y : ListedOut). reverse (own_coins k s t (i + 1) (drop (i + 1) xs)) ++ own_coin k s t i y) (sym (out_at t l.outs i few))
      ∙ sym (own_before k s t i xs lt));
}

pub returns-clause-pushed : goal.returns-clause-pushed
returns-clause-pushed g c counts bs l told hold =
    let script = c.args.script.now in
    let k = script.number in
    let s = script.row.script in
    let t = listed_tx c.in_ok-row.row in
    let xs = outs_of_tx t l.outs in
    let none : c.loop-index.index ≡ 0 = omega (arith, c.loop-index-test.false) in
    c.loop-index.invariant.coins counts bs l told hold
    ∙ ap (λ (j : ℕ). c.args.found.now.items ++ reverse (own_coins k s t j (drop j xs))) none
    ∙ ap (λ (o : Option ListedTx). c.args.found.now.items ++ reverse (coins_made_by k s l.outs o))
    (sym (tx_of_row counts.txs l.txs c.args.tx c.in_ok-row.row (c.in_ok-row.ensures.row (tables_of counts bs l) told hold)))
