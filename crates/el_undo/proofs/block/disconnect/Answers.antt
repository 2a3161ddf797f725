use Rattle.std.proofs.Common.{◌++◌, ◌∷◌, [], ℕ, subst, sym, arith}
use Rattle.el_rows.specs.Transaction.{with_edits}
use Rattle.el_tables.specs.ChainLists.{lists, listed_blocks}
use Rattle.el_tables.specs.Tables.{in_both}
use Rattle.el_schema.specs.Rows.{Hold}
use Rattle.el_schema.proofs.StandingLemmas.{held_with}
use Rattle.el_undo.specs.within.Undone.{CanUndoAll}
use Rattle.el_undo.proofs.Undoing.{can_disconnect}
use Rattle.el_undo.proofs.Whole.{rows_of_blocks, last_block, lacks}
use Rattle.el_undo.proofs.block.disconnect.Goals as goal

pub returns-then-count-eq0-clause-disconnected : goal.returns-then-count-eq0-clause-disconnected
returns-then-count-eq0-clause-disconnected g c heads chain b told stand =
    let shown = with_edits {G = g.R.Rows} c.args.t.now in
    let held = held_with heads shown (chain ++ b ∷ []) stand in
    let many = rows_of_blocks (in_both heads) (lists (chain ++ b ∷ [])) shown chain b held.1 in
    absurd (omega (arith, many, c.count-count.ensures.count, c.if-count-eq0.true))

pub returns-in-Ok-clause-disconnected : goal.returns-in-Ok-clause-disconnected
returns-in-Ok-clause-disconnected g c heads chain b told stand =
    let shown = with_edits {G = g.R.Rows} c.args.t.now in
    let whole = chain ++ b ∷ [] in
    let held = held_with heads shown whole stand in
    let counts = in_both heads in
    let bs = listed_blocks whole in
    let l = lists whole in
    let count = c.in_ok-txs.ensures.txs counts bs _ l told held.1 (last_block chain b) in
    let before = subst (λ T. Hold counts bs l T) (sym c.last_block_txs.ensures.read.tables) held.1 in
    let can = subst (λ (n : ℕ). CanUndoAll n l) (sym count) (can_disconnect chain b held.0) in
    let after = c.in-Ok.ensures.lists counts bs l can told before stand.some in
    c.drop_block.ensures.chain heads chain b (lacks heads (with_edits {G = g.R.Rows} c.disconnect_txs.new.t) chain b c.in_ok-txs.txs stand.some held.0 count after)
