use Rattle.std.proofs.Common.{◌≡◌, ◌||◌, ◌++◌, Bool, length, ap, sym, subst, ◌∙◌, arith}
use Rattle.std.specs.List.{list_any}
use Rattle.el_chain.specs.Coins.{coins}
use Rattle.el_chain.specs.Headers.{same_hash}
use Rattle.el_chain.specs.History.{positions}
use Rattle.el_chain.specs.Touches.{touches_any}
use Rattle.el_chain.proofs.TouchLemmas.{or_nothing}
use Rattle.el_rows.specs.Transaction.{with_edits}
use Rattle.el_tables.specs.ChainLists.{lists, listed_blocks}
use Rattle.el_tables.proofs.Numbering.{length_txs}
use Rattle.el_tables.specs.Tables.{in_both}
use Rattle.el_schema.proofs.Held.{count_entries, count_txs}
use Rattle.el_schema.proofs.StandingLemmas.{holds}
use Rattle.el_schema.proofs.Rows.{on_success}
use Rattle.el_queries.proofs.BlockTouches.{told_from, none_touched, TellsFrom}
use Rattle.el_queries.proofs.touching.touch_blocks.Goals as goal

pub returns-then-first_tx-count-clause-touched : goal.returns-then-first_tx-count-clause-touched
returns-then-first_tx-count-clause-touched g c base bs before s told stand was txs entries =
    let all = base ++ bs in
    let shown = with_edits {G = g.R.Rows} c.args.t.now in
    let now = count_txs (in_both stand.0) (listed_blocks all) (lists all) shown (holds shown all stand).1 in
    let then = count_txs (in_both was.0) (listed_blocks base) (lists base) before (holds before base was).1 in
    let few = length_txs 0 0 (positions all) in
    let less = length_txs 0 0 (positions base) in
    or_nothing (list_any (same_hash s) c.args.touched.now) (touches_any s.0 (coins base) bs) (none_touched s base bs (omega (arith, now, then, few, less, txs, c.count.ensures.count, c.if-first_tx-count.true)))

pub returns-clause-touched : goal.returns-clause-touched
returns-clause-touched g c base bs before s told stand was txs entries =
    let all = base ++ bs in
    let shown = with_edits {G = g.R.Rows} c.args.t.now in
    let hold = (holds shown all stand).1 in
    let held = (holds before base was).1 in
    let now = count_txs (in_both stand.0) (listed_blocks all) (lists all) shown hold in
    let then = count_txs (in_both was.0) (listed_blocks base) (lists base) before held in
    let few = length_txs 0 0 (positions all) in
    let less = length_txs 0 0 (positions base) in
    let first : length (positions base) ≡ c.args.first_tx = omega (arith, then, less, txs) in
    let tells = subst (TellsFrom s base bs) first (told_from s base bs) in
    let many = count_entries (in_both was.0) (listed_blocks base) (lists base) before held in
    let old = list_any (same_hash s) c.args.touched.now in
    on_success _ _ c.touch_from.result
    (c.touch_from.ensures.touched (in_both stand.0) (listed_blocks all) (lists all) s tells.before tells.own told hold
    stand.1.some tells.split tells.last (omega (arith, many, tells.long, entries)))
    (λ h. h ∙ ap (λ (x : Bool). old || x) (sym tells.is))
