use Rattle.std.proofs.Common.{sym, subst, ◌∙◌}
use Rattle.el_rows.specs.Transaction.{with_edits}
use Rattle.el_tables.specs.Tables.{in_both}
use Rattle.el_schema.proofs.StandingLemmas.{holds}
use Rattle.el_tables.specs.ChainLists.{lists, listed_blocks}
use Rattle.el_schema.specs.Rows.{Hold}
use Rattle.el_schema.proofs.Answered.{if_ok}
use Rattle.el_queries.proofs.Outpoints.{spender_told, unspent_told, unnamed_told}
use Rattle.el_queries.proofs.outputs.spender.Goals as goal

pub returns-in_default-clause-spender : goal.returns-in_default-clause-spender
returns-in_default-clause-spender g c chain told stand =
    unnamed_told chain c.args.o.now (holds (with_edits {G = g.R.Rows} c.args.t.now) chain stand).0 (sym c.in_default.is ∙ c.in_ok-found.ensures.newest chain told stand)

pub returns-in-Spent-clause-spender : goal.returns-in-Spent-clause-spender
returns-in-Spent-clause-spender g c chain told stand =
    let counts = in_both stand.0 in
    let bs = listed_blocks chain in
    let l = lists chain in
    let both = holds (with_edits {G = g.R.Rows} c.args.t.now) chain stand in
    let after = subst (λ T. Hold counts bs l T) (sym c.newest_output.ensures.read.tables) both.1 in
    let named = sym c.in-Some.is ∙ c.in_ok-found.ensures.newest chain told stand in
    if_ok c.entry_at.result (c.entry_at.ensures.entry counts bs l told after)
    (λ e is. is ∙ spender_told chain c.args.o.now c.in-Some.found c.in-Spent.by both.0 named c.in-Spent.is)

pub returns-in_default-state-clause-spender : goal.returns-in_default-state-clause-spender
returns-in_default-state-clause-spender g c chain told stand =
    unspent_told chain c.args.o.now c.in-Some.found (holds (with_edits {G = g.R.Rows} c.args.t.now) chain stand).0 (sym c.in-Some.is ∙ c.in_ok-found.ensures.newest chain told stand)
    c.in_default-state.not-Spent
