use Rattle.std.proofs.Common.{OnOk, subst}
use Rattle.el_tables.specs.Edits.{no_out}
use Rattle.el_rows.specs.Transaction.{with_edits}
use Rattle.el_row_formats.specs.declared.out_row.OutRow.{OutRow}
use Rattle.el_schema.specs.Rows.{Encode, out_fields}
use Rattle.el_spend.specs.within.Parts.{state_changed, balance_lowered}
use Rattle.el_schema.proofs.Rows.{found_at}
use Rattle.el_spend.proofs.coins.take_coin.Goals as goal

pub returns-clause-taken : goal.returns-clause-taken
returns-clause-taken g c tb s told same is state =
    let after = with_edits {G = g.R.Rows} c.lower.new.t in
    let coin = c.args.coin.now in
    let changed = state_changed s coin.number tb in
    subst (λ (r : OutRow). OnOk c.lower.result (Encode after (balance_lowered r.script r.value changed))) (found_at out_fields tb.outs coin.number no_out coin.row is)
    (c.lower.ensures.lowered changed told (c.in_ok-put_state.ensures.changed tb s same is state))
