use Rattle.std.proofs.Common.{◌≡◌, ◌+◌, ◌||◌, ◌++◌, ◌∷◌, [], Bool, Some, length, ap, sym, subst, ◌∙◌, arith, length-append}
use Rattle.std.specs.List.{list_any}
use Rattle.el_chain.specs.Headers.{same_hash}
use Rattle.el_chain.specs.History.{positions}
use Rattle.el_rows.specs.Transaction.{with_edits}
use Rattle.el_tables.specs.ChainLists.{lists, listed_blocks}
use Rattle.el_tables.specs.Tables.{in_both}
use Rattle.el_schema.specs.Rows.{Hold}
use Rattle.el_schema.proofs.Held.{count_entries}
use Rattle.el_schema.proofs.StandingLemmas.{holds}
use Rattle.el_schema.proofs.Rows.{on_success}
use Rattle.el_queries.proofs.BlockTouches.{last_told, last_first, TellsLast, none_first, all_told}
use Rattle.el_queries.proofs.touching.touch_last.Goals as goal

pub returns-in_default-clause-touched : goal.returns-in_default-clause-touched
returns-in_default-clause-touched g c chain b s told stand =
    let all = chain ++ b ∷ [] in
    let hold = (holds (with_edits {G = g.R.Rows} c.args.t.now) all stand).1 in
    none_first _ chain b (sym c.in_default.is ∙ c.in_ok-first.ensures.first (in_both stand.0) (listed_blocks all) (lists all) told hold)

pub returns-clause-touched : goal.returns-clause-touched
returns-clause-touched g c chain b s told stand =
    let all = chain ++ b ∷ [] in
    let shown = with_edits {G = g.R.Rows} c.first_tx.new.t in
    let hold = (holds (with_edits {G = g.R.Rows} c.args.t.now) all stand).1 in
    let first : Some c.in-Some.first ≡ Some (length (positions chain)) =
    sym c.in-Some.is ∙ c.in_ok-first.ensures.first (in_both stand.0) (listed_blocks all) (lists all) told hold ∙ last_first chain b in
    let tells = subst (TellsLast s chain b) (all_told first) (last_told s chain b) in
    let hold_2 = subst (λ T. Hold (in_both stand.0) (listed_blocks all) (lists all) T) (sym c.first_tx.ensures.read.tables) hold in
    let many = count_entries (in_both stand.0) (listed_blocks all) (lists all) shown hold_2 in
    let sum = ap length tells.split ∙ length-append tells.before tells.own in
    let old = list_any (same_hash s) c.args.touched.now in
    on_success _ _ c.touch_from.result
    (c.touch_from.ensures.touched (in_both stand.0) (listed_blocks all) (lists all) s tells.before tells.own told hold_2 stand.1.some tells.split tells.last (omega (arith, many, sum, c.count-entries.ensures.count)))
    (λ h. h ∙ ap (λ (x : Bool). old || x) (sym tells.is))
