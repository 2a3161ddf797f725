use Rattle.std.proofs.Common.{◌≡◌, Option, Some, ℕ, refl, sym, subst, ◌∙◌}
use Rattle.el_row_formats.specs.RowBytes.{FitsOutRow}
use Rattle.el_rows.specs.Transaction.{with_edits}
use Rattle.el_tables.specs.Disconnecting.{give_back}
use Rattle.el_tables.specs.Tables.{tables_of}
use Rattle.el_schema.specs.Rows.{Hold}
use Rattle.el_schema.proofs.Answered.{of_value}
use Rattle.el_spend.specs.Outputs.{BalancesFit, output_numbered}
use Rattle.el_spend.specs.declared.lookup.NamedOutput.{NamedOutput}
use Rattle.el_spend.specs.within.Parts.{spent_given_back}
use Rattle.el_spend.proofs.Found.{named_gives, named_none, row_spent, row_not_spent, past_not_spent}
use Rattle.el_schema.proofs.Rows.{on_success}
use Rattle.el_spend.proofs.Steps.{given_hold, kept_hold, given_fits}
use Rattle.el_spend.proofs.unspending.give_back_spent.Goals as goal

pub give_back-requires-clause-fits : goal.give_back-requires-clause-fits
give_back-requires-clause-fits g c =
    of_value (λ (f : Option NamedOutput). (x : NamedOutput) → f ≡ Some x → FitsOutRow x.row) _ c.found_output.result c.map_err.result c.in_ok-found.found c.map_err.ensures.cases c.in_ok-found.ensures.variant c.in_ok-found.was
    c.found_output.ensures.fits c.in-Some.output c.in-Some.is

pub returns-in_default-clause-lists : goal.returns-in_default-clause-lists
returns-in_default-clause-lists g c counts bs l told hold fit =
    let k = c.args.k in
    let found = of_value (λ (f : Option NamedOutput). f ≡ output_numbered l.outs k) _ c.found_output.result c.map_err.result c.in_ok-found.found c.map_err.ensures.cases c.in_ok-found.ensures.variant c.in_ok-found.was
    (c.found_output.ensures.found (tables_of counts bs l) told hold) in
    let after = subst (λ T. Hold counts bs l T) (sym c.found_output.ensures.read.tables) hold in
    kept_hold counts bs l (with_edits {G = g.R.Rows} c.found_output.new.t) k (past_not_spent k l.outs (named_none l.outs (Some k) k (sym c.in_default.is ∙ found) refl)) after

pub returns-in-Spent-clause-lists : goal.returns-in-Spent-clause-lists
returns-in-Spent-clause-lists g c counts bs l told hold fit =
    let k = c.args.k in
    let output = c.in-Some.output in
    let found = of_value (λ (f : Option NamedOutput). f ≡ output_numbered l.outs k) _ c.found_output.result c.map_err.result c.in_ok-found.found c.map_err.ensures.cases c.in_ok-found.ensures.variant c.in_ok-found.was
    (c.found_output.ensures.found (tables_of counts bs l) told hold) in
    let before = subst (λ T. Hold counts bs l T) (sym c.found_output.ensures.read.tables) hold in
    let is = named_gives l.outs (Some k) output (sym c.in-Some.is ∙ found) in
    let number : output.number ≡ k = (let both = is.0 in cc) in
    let spent = row_spent c.in-Spent.field-0 l.outs output.number output.row is.1 c.in-Spent.is in
    let fits = given_fits counts bs l output.number output.row is.1 spent (subst (λ (j : ℕ). BalancesFit (give_back (Some j) l.outs)) (sym number) fit) in
    on_success _ _ c.give_back.result (c.give_back.ensures.given (tables_of counts bs l) told before is.1 fits)
    (λ enc. subst (λ (j : ℕ). Hold counts bs (spent_given_back j l) (with_edits {G = g.R.Rows} c.give_back.new.t)) number
    (given_hold counts bs l (with_edits {G = g.R.Rows} c.give_back.new.t) output.number spent enc))

pub returns-in_default-state-clause-lists : goal.returns-in_default-state-clause-lists
returns-in_default-state-clause-lists g c counts bs l told hold fit =
    let k = c.args.k in
    let output = c.in-Some.output in
    let found = of_value (λ (f : Option NamedOutput). f ≡ output_numbered l.outs k) _ c.found_output.result c.map_err.result c.in_ok-found.found c.map_err.ensures.cases c.in_ok-found.ensures.variant c.in_ok-found.was
    (c.found_output.ensures.found (tables_of counts bs l) told hold) in
    let after = subst (λ T. Hold counts bs l T) (sym c.found_output.ensures.read.tables) hold in
    let is = named_gives l.outs (Some k) output (sym c.in-Some.is ∙ found) in
    let number : output.number ≡ k = (let both = is.0 in cc) in
    let kept = row_not_spent l.outs output.number output.row is.1 c.in_default-state.not-Spent in
    subst (λ (j : ℕ). Hold counts bs (spent_given_back j l) (with_edits {G = g.R.Rows} c.found_output.new.t)) number
    (kept_hold counts bs l (with_edits {G = g.R.Rows} c.found_output.new.t) output.number kept after)
