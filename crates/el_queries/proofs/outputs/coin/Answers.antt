use Rattle.std.proofs.Common.{sym, subst, ◌∙◌}
use Rattle.el_rows.specs.Transaction.{with_edits}
use Rattle.el_tables.specs.Tables.{in_both}
use Rattle.el_schema.proofs.StandingLemmas.{holds}
use Rattle.el_tables.specs.ChainLists.{lists, listed_blocks}
use Rattle.el_schema.specs.Rows.{Hold}
use Rattle.el_schema.proofs.Answered.{if_ok}
use Rattle.el_queries.proofs.Outpoints.{coin_told, gone_told, none_told, parts_there}
use Rattle.el_queries.proofs.outputs.coin.Goals as goal

pub returns-in_default-clause-coin : goal.returns-in_default-clause-coin
returns-in_default-clause-coin g c chain told stand = none_told chain c.args.o.now (sym c.in_default.is ∙ c.in_ok-found.ensures.newest chain told stand)

pub returns-in-Unspent-clause-coin : goal.returns-in-Unspent-clause-coin
returns-in-Unspent-clause-coin g c chain told stand =
    let o = c.args.o.now in
    let counts = in_both stand.0 in
    let bs = listed_blocks chain in
    let l = lists chain in
    let hold = (holds (with_edits {G = g.R.Rows} c.args.t.now) chain stand).1 in
    let after = subst (λ T. Hold counts bs l T) (sym c.newest_output.ensures.read.tables) hold in
    let named = sym c.in-Some.is ∙ c.in_ok-found.ensures.newest chain told stand in
    let there = parts_there chain o c.in-Some.found named in
    if_ok c.coin_at.result (c.coin_at.ensures.coin counts bs l told after there.0 there.1) (λ x is. is ∙ coin_told chain o c.in-Some.found named c.in-Unspent.is)

pub returns-in_default-state-clause-coin : goal.returns-in_default-state-clause-coin
returns-in_default-state-clause-coin g c chain told stand =
    gone_told chain c.args.o.now c.in-Some.found (sym c.in-Some.is ∙ c.in_ok-found.ensures.newest chain told stand) c.in_default-state.not-Unspent
