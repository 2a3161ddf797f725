use Rattle.std.proofs.Common.{inl, inr, ◌<◌, ◌≤◌, ℕ, List, ap, sym, subst, ◌∙◌, arith, length}
use Rattle.std.proofs.lemmas.Result.{err_from_is_err_and}
use Rattle.std.specs.List.{AllByRecursion}
use Rattle.el_tx.specs.Encoding.{max_money}
use Rattle.el_tx.proofs.HeaderLemmas.{header_length}
use Rattle.el_block.specs.Blocks.{EncodesBlock}
use Rattle.el_chain.specs.declared.placed.Placed.{Placed}
use Rattle.el_chain.specs.RowCounts.{row_limit}
use Rattle.el_chain.proofs.CoinSteps.{err_passed}
use Rattle.el_row_formats.specs.Tables as held
use Rattle.el_rows.specs.Transaction.{with_edits}
use Rattle.el_row_formats.specs.declared.table.Table.TheVariants as table
use Rattle.el_tables.specs.ChainLists.{lists, listed_blocks}
use Rattle.el_tables.specs.Tables.{in_both}
use Rattle.el_schema.proofs.Held.{count_txs}
use Rattle.el_prepare.specs.declared.prepared.Prepared.{Prepared}
use Rattle.el_prepare.specs.declared.prepared.PreparedTx.{PreparedTx}
use Rattle.el_schema.specs.Standing.{HoldChain}
use Rattle.el_schema.proofs.StandingLemmas.{holds, held_with}
use Rattle.el_connect.specs.within.Parts.{IsSmall}
use Rattle.el_connect.proofs.ChainLemmas.{block_small, few_txs, sum_before, sum_of_good, between_of_good, height_is, begun, block_put, block_refused, block_faultless, room_for_block}
use Rattle.el_connect.proofs.StepLemmas.{not_added}
use Rattle.el_connect.proofs.block.connect.Goals as goal

pub connect_txs-requires-clause-small : goal.connect_txs-requires-clause-small
connect_txs-requires-clause-small g c =
    let block = c.requires.prepared.0 in
    let txs = c.as_slice.ensures ∙ ap (λ (p : Prepared). p.txs) c.requires.prepared.2 in
    subst (λ (ps : List PreparedTx). AllByRecursion IsSmall ps) (sym txs) (block_small block c.requires.prepared.1)

pub overflow_cast-txs : goal.overflow_cast-txs
overflow_cast-txs g c =
    let few = few_txs c.requires.prepared.0 c.requires.prepared.1 in
    let many = ap (λ (p : Prepared). length p.txs) c.requires.prepared.2 in
    omega (arith, few, many, c.len-txs.ensures)

pub row_of-row-requires-clause-header : goal.row_of-row-requires-clause-header
row_of-row-requires-clause-header g c =
    let encoded : EncodesBlock c.requires.prepared.1.0 c.requires.prepared.0 = c.requires.prepared.1.1 in
    ap (λ (p : Prepared). length p.header) c.requires.prepared.2 ∙ header_length c.requires.prepared.0.header encoded.text.header

pub returns-in_err-sum-clause-refused : goal.returns-in_err-sum-clause-refused
returns-in_err-sum-clause-refused g c chain block told stand encoded is names =
    let e = c.in_err-sum.field-0.0 in
    let shown = with_edits {G = g.R.Rows} c.args.t.now in
    let both = holds shown chain stand in
    let some = stand.1.some in
    let placed : Placed = record { block = block; place = c.args.place } in
    let sum = sum_before shown c.in_ok-before.before c.in_ok-before.ensures.none (λ counts bs b l h. c.in_ok-before.ensures.sum counts bs b l told h) stand.0 chain both.1 in
    let hold = subst (λ (T : held.Tables). HoldChain stand.0 T chain) (sym c.last_sum.ensures.read.tables) both.1 in
    let ready = begun stand.0 chain (with_edits {G = g.R.Rows} c.last_sum.new.t) c.in_ok-before.before some hold sum in
    let most = subst (λ (k : ℕ). k ≤ max_money) (sym sum) (sum_of_good chain both.0) in
    let tall = c.count-height.ensures.count ∙ height_is stand.0 shown chain both.1 in
    let txs = c.as_slice.ensures ∙ ap (λ (p : Prepared). p.txs) is in
    err_passed c.from_residual-in_err-sum.result _ e (err_from_is_err_and c.from_residual-in_err-sum.result c.from_residual-in_err-sum.ensures.1)
    (block_refused chain placed c.count-height.result c.as_slice.result.now both.0 tall txs e (c.in_err-sum.ensures.refused (in_both stand.0) (listed_blocks chain) (lists chain) told ready most (between_of_good chain both.0)))

pub returns-in_err-append_block-clause-refused : goal.returns-in_err-append_block-clause-refused
returns-in_err-append_block-clause-refused g c chain block told stand encoded is names =
    let e = c.in_err-append_block.field-0.0 in
    let shown = with_edits {G = g.R.Rows} c.args.t.now in
    let rows = with_edits {G = g.R.Rows} c.connect_txs.new.t in
    let both = holds shown chain stand in
    let some = stand.1.some in
    let placed : Placed = record { block = block; place = c.args.place } in
    let sum = sum_before shown c.in_ok-before.before c.in_ok-before.ensures.none (λ counts bs b l h. c.in_ok-before.ensures.sum counts bs b l told h) stand.0 chain both.1 in
    let hold = subst (λ (T : held.Tables). HoldChain stand.0 T chain) (sym c.last_sum.ensures.read.tables) both.1 in
    let ready = begun stand.0 chain (with_edits {G = g.R.Rows} c.last_sum.new.t) c.in_ok-before.before some hold sum in
    let most = subst (λ (k : ℕ). k ≤ max_money) (sym sum) (sum_of_good chain both.0) in
    let tall = c.count-height.ensures.count ∙ height_is stand.0 shown chain both.1 in
    let txs = c.as_slice.ensures ∙ ap (λ (p : Prepared). p.txs) is in
    let led = (c.in_ok-sum.ensures.connected (in_both stand.0) (listed_blocks chain) (lists chain) told ready most (between_of_good chain both.0)).0 in
    let none = block_faultless chain placed c.count-height.result c.as_slice.result.now both.0 tall txs stand.0 rows c.in_ok-sum.sum led in
    let low = room_for_block chain block encoded none in
    let same = c.connect_txs.ensures.blocks ∙ ap (λ (T : held.Tables). T table.Blocks) c.last_sum.ensures.read.tables in
    let long = ap length same ∙ height_is stand.0 shown chain both.1 in
    let few : length (rows table.Blocks) < row_limit 1 = omega (arith, long, low) in
    err_passed c.from_residual-in_err-append_block.result _ e (err_from_is_err_and c.from_residual-in_err-append_block.result c.from_residual-in_err-append_block.ensures.1)
    (inr (inl (not_added table.Blocks (length (rows table.Blocks)) e few c.in_err-append_block.ensures.fault)))

pub returns-clause-connected : goal.returns-clause-connected
returns-clause-connected g c heads chain block told stand encoded is names =
    let shown = with_edits {G = g.R.Rows} c.args.t.now in
    let both = held_with heads shown chain stand in
    let some = stand.some in
    let placed : Placed = record { block = block; place = c.args.place } in
    let sum = sum_before shown c.in_ok-before.before c.in_ok-before.ensures.none (λ counts bs b l h. c.in_ok-before.ensures.sum counts bs b l told h) heads chain both.1 in
    let hold = subst (λ (T : held.Tables). HoldChain heads T chain) (sym c.last_sum.ensures.read.tables) both.1 in
    let ready = begun heads chain (with_edits {G = g.R.Rows} c.last_sum.new.t) c.in_ok-before.before some hold sum in
    let most = subst (λ (k : ℕ). k ≤ max_money) (sym sum) (sum_of_good chain both.0) in
    let tall = c.count-height.ensures.count ∙ height_is heads shown chain both.1 in
    let txs = c.as_slice.ensures ∙ ap (λ (p : Prepared). p.txs) is in
    let led = (c.in_ok-sum.ensures.connected (in_both heads) (listed_blocks chain) (lists chain) told ready most (between_of_good chain both.0)).0 in
    let first = c.count-first_tx.ensures.count ∙ count_txs (in_both heads) (listed_blocks chain) (lists chain) shown both.1 in
    let many = c.len-txs.ensures ∙ ap (λ (p : Prepared). length p.txs) is in
    block_put chain placed c.count-height.result c.as_slice.result.now both.0 tall txs heads (with_edits {G = g.R.Rows} c.connect_txs.new.t) (with_edits {G = g.R.Rows} c.append_block.new.t) c.in_ok-sum.sum
    c.count-first_tx.result c.len-txs.result c.args.b.now.header some encoded names led (ap (λ (p : Prepared). p.header) is) first many
    (λ l x held row. c.in_ok-append_block.ensures.appended (in_both heads) (listed_blocks chain) l x held (c.row_of-row.ensures.is ∙ row))
