use Rattle.std.proofs.Common.{◌≤◌, ◌+◌, take, ap, sym, subst, arith}
use Rattle.el_rows.specs.Transaction.{reads_in}
use Rattle.el_base.specs.declared.hash.Hash32.{Hash32}
use Rattle.el_tables.specs.Lists.{txid_at}
use Rattle.el_tables.proofs.Found.{none_named}
use Rattle.el_schema.specs.Rows.{Hold}
use Rattle.el_spend.specs.Outputs.{rows_to_find}
use Rattle.el_spend.proofs.Found.{coin_by}
use Rattle.el_spend.proofs.adding.replaced.Goals as goal

pub returns-in_default-clause-replaced : goal.returns-in_default-clause-replaced
returns-in_default-clause-replaced g c counts bs l told hold some =
    let none = c.in_ok-txid.ensures.new counts bs l told hold c.in_default.is in
    sym (ap (coin_by l.outs) (none_named (record { txid = txid_at c.args.tx l.txs; index = c.args.index }) (take c.args.tx l.txs) none))

pub returns-clause-rows : goal.returns-clause-rows
returns-clause-rows g c counts bs l told hold some =
    let before = subst (λ T. Hold counts bs l T) (sym c.txid_made_before.ensures.read.tables) hold in
    let id = c.in_ok-txid.ensures.txid counts bs l told hold c.in-Some.txid c.in-Some.is in
    let few = subst (λ (h : Hash32). (reads_in {G = g.R.Rows} c.coin.new.t) ≤ (reads_in {G = g.R.Rows} c.txid_made_before.new.t) + rows_to_find counts.txs h l) id (c.coin.ensures.rows counts bs l told before some) in
    omega (arith, few, c.txid_made_before.ensures.rows)
