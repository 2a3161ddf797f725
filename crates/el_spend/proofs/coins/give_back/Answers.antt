use Rattle.std.proofs.Common.{OnOk, refl, subst}
use Rattle.el_tables.specs.Edits.{no_out}
use Rattle.el_tables.specs.Lists.State.{Unspent}
use Rattle.el_rows.specs.Transaction.{with_edits}
use Rattle.el_row_formats.specs.declared.out_row.OutRow.{OutRow}
use Rattle.el_schema.specs.Rows.{Encode, out_fields}
use Rattle.el_spend.specs.within.Parts.{state_changed, balance_raised}
use Rattle.el_schema.proofs.Rows.{found_at}
use Rattle.el_spend.proofs.coins.give_back.Goals as goal

pub returns-clause-given : goal.returns-clause-given
returns-clause-given g c tb told same is few =
    let after = with_edits {G = g.R.Rows} c.raise.new.t in
    let output = c.args.output.now in
    let changed = state_changed Unspent output.number tb in
    subst (λ (r : OutRow). OnOk c.raise.result (Encode after (balance_raised r.script r.value changed))) (found_at out_fields tb.outs output.number no_out output.row is)
    (c.raise.ensures.raised changed told (c.in_ok-put_state.ensures.changed tb Unspent same is refl) few)
