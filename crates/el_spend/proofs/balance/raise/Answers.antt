use Rattle.std.proofs.Common.{◌≡◌, ℕ, [], set, get_or, slice_get, Some, option_map, ap, sym, subst, ◌∙◌, arith}
use Rattle.el_rows.specs.Changes.{OnTable}
use Rattle.el_row_formats.specs.Tables.{Tables}
use Rattle.el_row_formats.specs.RowBytes.{FitsScriptRow, script_row_bytes}
use Rattle.el_rows.specs.Transaction.{with_edits}
use Rattle.el_row_formats.specs.declared.script_row.ScriptRow.{ScriptRow}
use Rattle.el_row_formats.specs.declared.table.Table.TheVariants as table
use Rattle.el_schema.specs.Rows.{script_fields}
use Rattle.el_schema.proofs.Answered.{of_value}
use Rattle.el_spend.specs.within.Parts.{raised}
use Rattle.el_spend.proofs.Steps.{raised_here}
use Rattle.el_spend.proofs.balance.raise.Goals as goal

pub returns-clause-raised : goal.returns-clause-raised
returns-clause-raised g c tb told same few =
    let shown = with_edits {G = g.R.Rows} c.args.t.now in
    let after = with_edits {G = g.R.Rows} c.put_script.new.t in
    let row = c.in_ok-row.row in
    let value = λ (P : ScriptRow → Type 0). of_value P _ c.script_row.result c.map_err.result row c.map_err.ensures.cases c.in_ok-row.ensures.variant c.in_ok-row.was in
    let is = value (λ r. Some r ≡ option_map script_fields (slice_get tb.scripts c.args.script)) (c.script_row.ensures.row tb told same) in
    let fits = value (λ r. FitsScriptRow r) c.script_row.ensures.fits in
    let put : ScriptRow = record row { balance = c.saturating_add.result } in
    let on : OnTable shown after table.Scripts (set (shown table.Scripts) c.args.script (script_row_bytes put)) =
    subst (λ (T : Tables). OnTable T after table.Scripts (set (T table.Scripts) c.args.script (script_row_bytes put))) c.script_row.ensures.read.tables c.in_ok-put_script.ensures.ok in
    raised_here shown after tb same c.args.script c.args.value c.saturating_add.result row is fits few (λ sum. (let e = c.saturating_add.ensures in omega (arith, e, sum))) on

pub returns-clause-bytes : goal.returns-clause-bytes
returns-clause-bytes g c r told fits lt is =
    let shown = with_edits {G = g.R.Rows} c.args.t.now in
    let row = c.in_ok-row.row in
    let same : r ≡ row = of_value (λ (x : ScriptRow). (s : ScriptRow) → FitsScriptRow s → script_row_bytes s ≡ get_or (shown table.Scripts) c.args.script [] → s ≡ x) _ c.script_row.result
    c.map_err.result row c.map_err.ensures.cases c.in_ok-row.ensures.variant c.in_ok-row.was (c.script_row.ensures.only told) r fits is in
    let put : ScriptRow = record row { balance = c.saturating_add.result } in
    let changed : put ≡ raised c.args.value row = ap (λ (b : ℕ). record row { balance = b }) c.saturating_add.ensures in
    c.in_ok-put_script.ensures.ok.here ∙ ap (λ (T : Tables). set (T table.Scripts) c.args.script (script_row_bytes put)) c.script_row.ensures.read.tables
    ∙ ap (λ (x : ScriptRow). set (shown table.Scripts) c.args.script (script_row_bytes x)) (changed ∙ ap (raised c.args.value) (sym same))
