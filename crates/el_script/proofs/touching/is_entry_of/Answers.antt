use Rattle.std.proofs.Common.{◌≡◌, ◌∙◌, ℕ, [], get_or, Option, sym, ap, nat_eq}
use Rattle.el_row_formats.specs.RowBytes.{entry_row_bytes, FitsEntryRow}
use Rattle.el_row_formats.specs.declared.entry_row.EntryRow.{EntryRow}
use Rattle.el_row_formats.specs.declared.table.Table.TheVariants as table
use Rattle.el_rows.specs.Transaction.{with_edits}
use Rattle.el_schema.proofs.Answered.{of_value}
use Rattle.el_tables.specs.Edits.{tx_of_last}
use Rattle.el_tables.specs.Lists.{is_tx}
use Rattle.el_script.proofs.ScriptSteps.{entry_tx}
use Rattle.el_script.proofs.touching.is_entry_of.Goals as goal

pub returns-in_ok-row-in-Some-clause-is : goal.returns-in_ok-row-in-Some-clause-is
returns-in_ok-row-in-Some-clause-is g c counts bs l d told hold =
    let shown = with_edits {G = g.R.Rows} c.args.t.now in
    let n = c.in-Some.n in
    let row = c.in_ok-row-in-Some.row in
    let tx = c.args.tx in
    let only = of_value (λ (x : EntryRow). (s : EntryRow) → FitsEntryRow s → entry_row_bytes s ≡ get_or (shown table.Entries) n [] → s ≡ x) _ c.entry_row.result c.map_err.result row
    c.map_err.ensures.cases c.in_ok-row-in-Some.ensures.variant c.in_ok-row-in-Some.was (c.entry_row.ensures.only told) in
    let tx_is = entry_tx counts bs l shown hold n d row (c.requires.below n c.in-Some.is) only in
    ap (λ (k : ℕ). nat_eq k tx) tx_is ∙ ap (λ (o : Option ℕ). is_tx tx (tx_of_last d l.entries o)) (sym c.in-Some.is)
