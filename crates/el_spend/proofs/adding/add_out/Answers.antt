use Rattle.std.proofs.Common.{◌≡◌, Option, Some, ℕ, take, option_map, sym, subst, ◌∙◌}
use Rattle.el_row_formats.specs.RowBytes.{FitsOutRow}
use Rattle.el_rows.specs.Transaction.{with_edits}
use Rattle.el_tables.specs.Edits.{new_out, buried}
use Rattle.el_tables.specs.Lists.{output_number, txid_at, replaced}
use Rattle.el_tables.specs.Tables.{tables_of}
use Rattle.el_schema.specs.Rows.{Encode, Hold}
use Rattle.el_schema.proofs.Answered.{of_value}
use Rattle.el_spend.specs.Outputs.{replaced_output}
use Rattle.el_spend.specs.declared.lookup.NamedOutput.{NamedOutput}
use Rattle.el_spend.specs.within.Parts.{out_appended}
use Rattle.el_spend.proofs.Found.{coin_names, coin_number_is}
use Rattle.el_schema.proofs.Rows.{on_success}
use Rattle.el_spend.proofs.Steps.{row_appended, added_fits, added_hold}
use Rattle.el_spend.proofs.adding.add_out.Goals as goal

pub bury-requires-clause-fits : goal.bury-requires-clause-fits
bury-requires-clause-fits g c =
    of_value (λ (f : Option NamedOutput). (x : NamedOutput) → f ≡ Some x → FitsOutRow x.row) _ c.replaced.result c.map_err.result c.in_ok-replaced.replaced c.map_err.ensures.cases c.in_ok-replaced.ensures.variant c.in_ok-replaced.was
    c.replaced.ensures.fits

pub returns-clause-lists : goal.returns-clause-lists
returns-clause-lists g c counts bs l told hold some fit =
    let a = c.args in
    let tb = tables_of counts bs l in
    let x = new_out a.tx a.value a.script in
    let f = c.in_ok-replaced.replaced in
    let names = output_number (record { txid = txid_at a.tx l.txs; index = a.index }) (take a.tx l.txs) in
    let found : f ≡ replaced_output a.tx a.index l = of_value (λ (r : Option NamedOutput). r ≡ replaced_output a.tx a.index l) _ c.replaced.result c.map_err.result f c.map_err.ensures.cases c.in_ok-replaced.ensures.variant c.in_ok-replaced.was
    (c.replaced.ensures.replaced counts bs l told hold some) in
    let before = subst (λ T. Hold counts bs l T) (sym c.replaced.ensures.read.tables) hold in
    let appended = c.in_ok-append_output.ensures.appended tb before in
    let rows = λ (y : NamedOutput) (is : f ≡ Some y). row_appended x tb y.number y.row (coin_number_is l.outs names y (sym is ∙ found)).1 in
    let gone = c.in_ok-bury.ensures.buried (out_appended x tb) told appended rows in
    let named : option_map (λ (y : NamedOutput). y.number) f ≡ replaced a.tx a.index l = coin_names l.outs names f found in
    let enc = subst (λ (r : Option ℕ). Encode (with_edits {G = g.R.Rows} c.bury.new.t) (buried a.tx r (out_appended x tb))) named gone in
    on_success _ _ c.raise.result (c.raise.ensures.raised (buried a.tx (replaced a.tx a.index l) (out_appended x tb)) told enc (added_fits counts bs l a.tx a.index a.value a.script fit))
    (λ e. added_hold counts bs l a.tx a.index a.value a.script (with_edits {G = g.R.Rows} c.raise.new.t) e)
