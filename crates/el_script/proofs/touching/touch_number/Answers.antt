use Rattle.std.proofs.Common.{◌≡◌, ◌∙◌, ◌<◌, ◌≤◌, ℕ, [], None, refl, sym, ap, subst, arith, length, get_or, IfErr}
use Rattle.std.proofs.lemmas.Result.{IfOk-weaker}
use Rattle.el_chain.specs.Chains.{zero_hash}
use Rattle.el_chain.specs.declared.fault.ConnectFault.TheVariants as connect
use Rattle.el_row_formats.specs.Tables.{Tables, limit_of}
use Rattle.el_rows.specs.Transaction.{with_edits}
use Rattle.el_row_formats.specs.declared.table.Table.TheVariants as table
use Rattle.el_tables.specs.Lists.{Lists, add_entry, is_tx, last_tx_of}
use Rattle.el_tables.proofs.ScriptEdits.{touch_again}
use Rattle.el_schema.specs.Rows.{Hold}
use Rattle.el_row_formats.specs.RowBytes.{script_row_bytes, FitsScriptRow}
use Rattle.el_row_formats.specs.declared.script_row.ScriptRow.{ScriptRow}
use Rattle.el_schema.proofs.Answered.{of_value}
use Rattle.el_script.specs.Touches.{touch_full}
use Rattle.el_script.specs.within.RowSteps.{EntryMore, ThreeStay, IsEntryFault}
use Rattle.el_script.proofs.ScriptSteps.{no_entry, entry_grows, last_found, many_scripts, tx_found}
use Rattle.el_script.proofs.Causes.{full_known, hash_number, hash_there, room_known, room_left}
use Rattle.el_script.proofs.touching.touch_number.Goals as goal

pub returns-then-branch-clause-lists : goal.returns-then-branch-clause-lists
returns-then-branch-clause-lists g c counts bs l told hold fits =
    let shown = with_edits {G = g.R.Rows} c.args.t.now in
    let same = c.script_row.ensures.read.tables in
    let before = subst (λ (T : Tables). Hold counts bs l T) (sym same) hold in
    let n = c.args.script in
    let lt : n < length l.scripts = omega (arith, c.requires.below, many_scripts counts bs l shown hold) in
    let only = of_value (λ (x : ScriptRow). (s : ScriptRow) → FitsScriptRow s → script_row_bytes s ≡ get_or (shown table.Scripts) n [] → s ≡ x) _ c.script_row.result c.map_err.result c.in_ok-row.row
    c.map_err.ensures.cases c.in_ok-row.ensures.variant c.in_ok-row.was (c.script_row.ensures.only told) in
    let entries = c.count-2.ensures.count ∙ ap (λ (T : Tables). length (T table.Entries)) same in
    let told_tx = tx_found counts bs l shown hold n c.args.tx c.count-2.result c.in_ok-row.row c.if_below-last.result c.in_ok-is_entry_of.field-0 c.requires.below
    only entries c.if_below-last.ensures (c.in_ok-is_entry_of.ensures.is counts bs l no_entry told before) in
    let again = ap (λ (k : ℕ). is_tx c.args.tx (last_tx_of k l.entries)) (sym (hash_number n l.scripts fits.numbered.once lt)) ∙ sym told_tx ∙ c.if-branch.true in
    subst (λ (m : Lists). Hold counts bs m (with_edits {G = g.R.Rows} c.is_entry_of.new.t)) (sym (touch_again l (get_or l.scripts n zero_hash) c.args.tx (hash_there n l.scripts lt) again))
    (subst (λ (T : Tables). Hold counts bs l T) (sym (c.is_entry_of.ensures.read.tables ∙ same)) hold)

pub returns-then-branch-clause-room : goal.returns-then-branch-clause-room
returns-then-branch-clause-room g c counts bs l told hold fits =
    let after = with_edits {G = g.R.Rows} c.is_entry_of.new.t in
    let same = c.is_entry_of.ensures.read.tables in
    let scripts : length (after table.Scripts) ≡ c.count.result = ap (λ (T : Tables). length (T table.Scripts)) (same ∙ c.script_row.ensures.read.tables) ∙ sym c.count.ensures.count in
    let entries : length (after table.Entries) ≡ c.count-2.result = ap (λ (T : Tables). length (T table.Entries)) same ∙ sym c.count-2.ensures.count in
    room_left counts bs (get_or l.scripts c.args.script zero_hash) c.args.tx l after (returns-then-branch-clause-lists g c counts bs l told hold fits)
    (omega (arith, scripts, c.count.ensures.limit)) (omega (arith, entries, c.count-2.ensures.limit))

pub returns-clause-lists : goal.returns-clause-lists
returns-clause-lists g c counts bs l told hold fits =
    let shown = with_edits {G = g.R.Rows} c.args.t.now in
    let after = with_edits {G = g.R.Rows} c.add_known.new.t in
    let same = c.script_row.ensures.read.tables in
    let both = c.is_entry_of.ensures.read.tables ∙ same in
    let before = subst (λ (T : Tables). Hold counts bs l T) (sym same) hold in
    let n = c.args.script in
    let tx = c.args.tx in
    let s = get_or l.scripts n zero_hash in
    let row = c.in_ok-row.row in
    let last = c.if_below-last.result in
    let only = of_value (λ (x : ScriptRow). (s : ScriptRow) → FitsScriptRow s → script_row_bytes s ≡ get_or (shown table.Scripts) n [] → s ≡ x) _ c.script_row.result c.map_err.result c.in_ok-row.row
    c.map_err.ensures.cases c.in_ok-row.ensures.variant c.in_ok-row.was (c.script_row.ensures.only told) in
    let lt : n < length l.scripts = omega (arith, c.requires.below, many_scripts counts bs l shown hold) in
    let entries = c.count-2.ensures.count ∙ ap (λ (T : Tables). length (T table.Entries)) same in
    let link = last_found counts bs l shown hold n c.count-2.result row last c.requires.below only entries c.if_below-last.ensures in
    let told_tx = tx_found counts bs l shown hold n tx c.count-2.result row last c.in_ok-is_entry_of.field-0 c.requires.below only entries c.if_below-last.ensures
    (c.in_ok-is_entry_of.ensures.is counts bs l no_entry told before) in
    let others : ThreeStay shown after = subst (λ (T : Tables). ThreeStay T after) both c.add_known.ensures.others in
    IfOk-weaker c.add_known.result (λ x. EntryMore n row last tx (with_edits {G = g.R.Rows} c.is_entry_of.new.t) after) (λ x. Hold counts bs (add_entry s tx l) after)
    (λ x more. entry_grows counts bs l shown hold after others s n row last tx (hash_there n l.scripts lt) (hash_number n l.scripts fits.numbered.once lt) (sym told_tx ∙ c.if-branch.false) only link
    (subst (λ (T : Tables). EntryMore n row last tx T after) both more)) c.add_known.ensures.added

pub returns-clause-room : goal.returns-clause-room
returns-clause-room g c counts bs l told hold fits =
    let shown = with_edits {G = g.R.Rows} c.args.t.now in
    let after = with_edits {G = g.R.Rows} c.add_known.new.t in
    let both = c.is_entry_of.ensures.read.tables ∙ c.script_row.ensures.read.tables in
    let n = c.args.script in
    let tx = c.args.tx in
    let s = get_or l.scripts n zero_hash in
    let row = c.in_ok-row.row in
    let last = c.if_below-last.result in
    let lt : n < length l.scripts = omega (arith, c.requires.below, many_scripts counts bs l shown hold) in
    let few : length (shown table.Scripts) ≤ limit_of table.Scripts = omega (arith, c.count.ensures.limit, c.count.ensures.count) in
    IfOk-weaker c.add_known.result (λ x. EntryMore n row last tx (with_edits {G = g.R.Rows} c.is_entry_of.new.t) after) (λ x. touch_full s tx l ≡ None)
    (λ x more. room_known counts bs s tx l shown hold (hash_there n l.scripts lt) few (subst (λ (T : Tables). EntryMore n row last tx T after) both more).few_entries) c.add_known.ensures.added

pub returns-clause-full : goal.returns-clause-full
returns-clause-full g c counts bs l told hold fits t rows is =
    let shown = with_edits {G = g.R.Rows} c.args.t.now in
    let same = c.script_row.ensures.read.tables in
    let both = c.is_entry_of.ensures.read.tables ∙ same in
    let before = subst (λ (T : Tables). Hold counts bs l T) (sym same) hold in
    let n = c.args.script in
    let tx = c.args.tx in
    let lt : n < length l.scripts = omega (arith, c.requires.below, many_scripts counts bs l shown hold) in
    let only = of_value (λ (x : ScriptRow). (s : ScriptRow) → FitsScriptRow s → script_row_bytes s ≡ get_or (shown table.Scripts) n [] → s ≡ x) _ c.script_row.result c.map_err.result c.in_ok-row.row
    c.map_err.ensures.cases c.in_ok-row.ensures.variant c.in_ok-row.was (c.script_row.ensures.only told) in
    let entries = c.count-2.ensures.count ∙ ap (λ (T : Tables). length (T table.Entries)) same in
    let told_tx = tx_found counts bs l shown hold n tx c.count-2.result c.in_ok-row.row c.if_below-last.result c.in_ok-is_entry_of.field-0 c.requires.below
    only entries c.if_below-last.ensures (c.in_ok-is_entry_of.ensures.is counts bs l no_entry told before) in
    let few : length (shown table.Scripts) ≤ limit_of table.Scripts = omega (arith, c.count.ensures.limit, c.count.ensures.count) in
    let fault = subst (λ r. IfErr r (λ e. IsEntryFault (with_edits {G = g.R.Rows} c.is_entry_of.new.t) e)) is c.add_known.ensures.fault in
    full_known counts bs (get_or l.scripts n zero_hash) n tx l shown (connect.Full t rows) t rows hold (hash_there n l.scripts lt) (hash_number n l.scripts fits.numbered.once lt)
    (sym told_tx ∙ c.if-branch.false) few (subst (λ (T : Tables). IsEntryFault T (connect.Full t rows)) both fault) refl
