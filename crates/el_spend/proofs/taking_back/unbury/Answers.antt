use Rattle.std.proofs.Common.{◌≡◌, Option, Some, ap, sym, subst, ◌∙◌}
use Rattle.el_row_formats.specs.RowBytes.{FitsOutRow}
use Rattle.el_rows.specs.Transaction.{with_edits}
use Rattle.el_row_formats.specs.declared.out_row.State.TheVariants as out
use Rattle.el_tables.specs.Tables.{tables_of}
use Rattle.el_schema.specs.Rows.{Hold}
use Rattle.el_schema.proofs.Answered.{of_value}
use Rattle.el_spend.specs.Outputs.{named_among}
use Rattle.el_spend.specs.declared.lookup.NamedOutput.{NamedOutput}
use Rattle.el_spend.specs.within.Parts.{named_by, outpoint_at}
use Rattle.el_spend.proofs.Found.{named_gives, named_none, row_buried, row_not_buried, past_not_buried}
use Rattle.el_schema.proofs.Rows.{on_success}
use Rattle.el_spend.proofs.Steps.{unburied_hold, other_hold, nowhere_hold, unburied_fits}
use Rattle.el_spend.proofs.taking_back.unbury.Goals as goal

pub give_back-requires-clause-fits : goal.give_back-requires-clause-fits
give_back-requires-clause-fits g c =
    of_value (λ (f : Option NamedOutput). (x : NamedOutput) → f ≡ Some x → FitsOutRow x.row) _ c.named_before.result c.map_err.result c.in_ok-named.named c.map_err.ensures.cases c.in_ok-named.ensures.variant c.in_ok-named.was
    c.named_before.ensures.fits c.in-Some.output c.in-Some.is

pub returns-in_default-clause-lists : goal.returns-in_default-clause-lists
returns-in_default-clause-lists g c counts bs l told hold some fit =
    let tx = c.args.tx in
    let found = of_value (λ (f : Option NamedOutput). f ≡ named_among (outpoint_at c.args.tx c.args.number l) c.args.tx l) _ c.named_before.result c.map_err.result c.in_ok-named.named c.map_err.ensures.cases c.in_ok-named.ensures.variant c.in_ok-named.was
    (c.named_before.ensures.named counts bs l told hold some) in
    let after = subst (λ T. Hold counts bs l T) (sym c.named_before.ensures.read.tables) hold in
    nowhere_hold counts bs l (with_edits {G = g.R.Rows} c.named_before.new.t) tx c.args.number
    (λ k is. past_not_buried tx k l.outs (named_none l.outs (named_by tx c.args.number l) k (sym c.in_default.is ∙ found) is)) after

pub returns-then-by-tx-clause-lists : goal.returns-then-by-tx-clause-lists
returns-then-by-tx-clause-lists g c counts bs l told hold some fit =
    let tx = c.args.tx in
    let output = c.in-Some.output in
    let found = of_value (λ (f : Option NamedOutput). f ≡ named_among (outpoint_at c.args.tx c.args.number l) c.args.tx l) _ c.named_before.result c.map_err.result c.in_ok-named.named c.map_err.ensures.cases c.in_ok-named.ensures.variant c.in_ok-named.was
    (c.named_before.ensures.named counts bs l told hold some) in
    let before = subst (λ T. Hold counts bs l T) (sym c.named_before.ensures.read.tables) hold in
    let is = named_gives l.outs (named_by tx c.args.number l) output (sym c.in-Some.is ∙ found) in
    let buried = row_buried tx l.outs output.number output.row is.1 (c.in-Buried.is ∙ ap out.Buried c.if-by-tx.true) in
    let fits = unburied_fits counts bs l tx c.args.number output.number output.row is.1 is.0 buried fit in
    on_success _ _ c.give_back.result (c.give_back.ensures.given (tables_of counts bs l) told before is.1 fits)
    (λ enc. unburied_hold counts bs l (with_edits {G = g.R.Rows} c.give_back.new.t) tx c.args.number output.number is.0 buried enc)

pub returns-else-by-tx-clause-lists : goal.returns-else-by-tx-clause-lists
returns-else-by-tx-clause-lists g c counts bs l told hold some fit =
    let tx = c.args.tx in
    let output = c.in-Some.output in
    let found = of_value (λ (f : Option NamedOutput). f ≡ named_among (outpoint_at c.args.tx c.args.number l) c.args.tx l) _ c.named_before.result c.map_err.result c.in_ok-named.named c.map_err.ensures.cases c.in_ok-named.ensures.variant c.in_ok-named.was
    (c.named_before.ensures.named counts bs l told hold some) in
    let after = subst (λ T. Hold counts bs l T) (sym c.named_before.ensures.read.tables) hold in
    let is = named_gives l.outs (named_by tx c.args.number l) output (sym c.in-Some.is ∙ found) in
    let other = row_not_buried tx l.outs output.number output.row is.1 (λ q. (let both = sym c.in-Buried.is ∙ q in let same : c.in-Buried.by ≡ tx = cc in c.if-by-tx.false same)) in
    other_hold counts bs l (with_edits {G = g.R.Rows} c.named_before.new.t) tx c.args.number output.number is.0 other after

pub returns-in_default-state-clause-lists : goal.returns-in_default-state-clause-lists
returns-in_default-state-clause-lists g c counts bs l told hold some fit =
    let tx = c.args.tx in
    let output = c.in-Some.output in
    let found = of_value (λ (f : Option NamedOutput). f ≡ named_among (outpoint_at c.args.tx c.args.number l) c.args.tx l) _ c.named_before.result c.map_err.result c.in_ok-named.named c.map_err.ensures.cases c.in_ok-named.ensures.variant c.in_ok-named.was
    (c.named_before.ensures.named counts bs l told hold some) in
    let after = subst (λ T. Hold counts bs l T) (sym c.named_before.ensures.read.tables) hold in
    let is = named_gives l.outs (named_by tx c.args.number l) output (sym c.in-Some.is ∙ found) in
    let other = row_not_buried tx l.outs output.number output.row is.1 (λ q. c.in_default-state.not-Buried tx q) in
    other_hold counts bs l (with_edits {G = g.R.Rows} c.named_before.new.t) tx c.args.number output.number is.0 other after
