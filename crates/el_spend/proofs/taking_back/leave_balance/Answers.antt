use Rattle.std.proofs.Common.{◌≡◌, ℕ, List, refl, ap, sym, subst, ◌∙◌}
use Rattle.el_rows.specs.Transaction.{with_edits}
use Rattle.el_row_formats.specs.declared.out_row.OutRow.{OutRow}
use Rattle.el_tables.specs.Tables.{ScriptRow}
use Rattle.el_schema.specs.Rows.{Encode}
use Rattle.el_spend.specs.within.Parts.{balance_lowered, value_if_unspent}
use Rattle.el_spend.proofs.Found.{unspent_no}
use Rattle.el_spend.proofs.Steps.{less_nothing}
use Rattle.el_spend.proofs.taking_back.leave_balance.Goals as goal

pub returns-in_default-clause-lowered : goal.returns-in_default-clause-lowered
returns-in_default-clause-lowered g c tb x told same is =
    let shown = with_edits {G = g.R.Rows} c.args.t.now in
    let gone = unspent_no x.state (λ q. c.in_default.not-Unspent (ap (λ (r : OutRow). r.state) is ∙ q)) in
    let none : value_if_unspent x ≡ 0 = rw gone refl in
    subst (λ (v : ℕ). Encode shown (balance_lowered x.script v tb)) (sym none) (subst (λ (ss : List ScriptRow). Encode shown (record tb { scripts = ss })) (sym (less_nothing x.script tb)) same)
