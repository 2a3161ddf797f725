use Rattle.std.proofs.Common.{List, ℕ, set, subst}
use Rattle.el_rows.specs.Changes.{OnTable}
use Rattle.el_rows.specs.Transaction.{with_edits}
use Rattle.el_row_formats.specs.declared.table.Table.TheVariants as table
use Rattle.el_schema.proofs.Rows.{on_success}
use Rattle.el_spend.proofs.Steps.{state_put}
use Rattle.el_spend.proofs.coins.put_state.Goals as goal

pub returns-clause-changed : goal.returns-clause-changed
returns-clause-changed g c tb s same is state =
    let shown = with_edits {G = g.R.Rows} c.args.t.now in
    let after = with_edits {G = g.R.Rows} c.put.new.self in
    let output = c.args.output.now in
    on_success _ _ c.put.result c.put.ensures.ok (λ on.
    state_put shown after tb same output.number output.row c.args.state s is c.requires.fits c.requires.by state
    (subst (λ (b : List ℕ). OnTable shown after table.Outs (set (shown table.Outs) output.number b)) c.write.ensures on))
