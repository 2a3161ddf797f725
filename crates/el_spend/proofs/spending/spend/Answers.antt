use Rattle.std.proofs.Common.{◌≡◌, Option, Some, refl, sym, subst, ◌∙◌}
use Rattle.el_row_formats.specs.RowBytes.{FitsOutRow}
use Rattle.el_rows.specs.Transaction.{with_edits}
use Rattle.el_tables.specs.Lists.{output_number}
use Rattle.el_tables.specs.Lists.State.{Spent}
use Rattle.el_tables.specs.Tables.{tables_of}
use Rattle.el_schema.specs.Rows.{Hold}
use Rattle.el_schema.proofs.Held.{count_txs}
use Rattle.el_schema.proofs.Answered.{of_value}
use Rattle.el_spend.specs.Outputs.{coin_among}
use Rattle.el_spend.specs.declared.lookup.NamedOutput.{NamedOutput}
use Rattle.el_spend.specs.within.Parts.{in_appended}
use Rattle.el_spend.proofs.Found.{among_all, coin_number_is, coin_number_none}
use Rattle.el_spend.proofs.Steps.{spent_hold, unspent_hold}
use Rattle.el_spend.proofs.spending.spend.Goals as goal

pub returns-in_default-clause-coin : goal.returns-in_default-clause-coin
returns-in_default-clause-coin g c counts bs l told hold some =
    let o = c.args.o.now in
    let shown = with_edits {G = g.R.Rows} c.args.t.now in
    let found = of_value (λ (f : Option NamedOutput). f ≡ coin_among o c.count-below.result l) _ c.coin.result c.map_err.result c.in_ok-found.found c.map_err.ensures.cases c.in_ok-found.ensures.variant c.in_ok-found.was
    (c.coin.ensures.coin counts bs l told hold some) in
    let all = among_all o c.count-below.result l (c.count-below.ensures.count ∙ count_txs counts bs l shown hold) in
    sym (coin_number_none l.outs (output_number o l.txs) (sym c.in_default.is ∙ found ∙ all))

pub returns-in_default-clause-lists : goal.returns-in_default-clause-lists
returns-in_default-clause-lists g c counts bs l told hold some =
    let o = c.args.o.now in
    let shown = with_edits {G = g.R.Rows} c.args.t.now in
    let found = of_value (λ (f : Option NamedOutput). f ≡ coin_among o c.count-below.result l) _ c.coin.result c.map_err.result c.in_ok-found.found c.map_err.ensures.cases c.in_ok-found.ensures.variant c.in_ok-found.was
    (c.coin.ensures.coin counts bs l told hold some) in
    let all = among_all o c.count-below.result l (c.count-below.ensures.count ∙ count_txs counts bs l shown hold) in
    let after = subst (λ T. Hold counts bs l T) (sym c.coin.ensures.read.tables) hold in
    unspent_hold counts bs l (with_edits {G = g.R.Rows} c.coin.new.t) o c.args.by (coin_number_none l.outs (output_number o l.txs) (sym c.in_default.is ∙ found ∙ all)) after

pub take_coin-requires-clause-fits : goal.take_coin-requires-clause-fits
take_coin-requires-clause-fits g c =
    of_value (λ (f : Option NamedOutput). (x : NamedOutput) → f ≡ Some x → FitsOutRow x.row) _ c.coin.result c.map_err.result c.in_ok-found.found c.map_err.ensures.cases c.in_ok-found.ensures.variant c.in_ok-found.was
    c.coin.ensures.fits c.in-Some.coin c.in-Some.is

pub returns-clause-coin : goal.returns-clause-coin
returns-clause-coin g c counts bs l told hold some =
    let o = c.args.o.now in
    let shown = with_edits {G = g.R.Rows} c.args.t.now in
    let found = of_value (λ (f : Option NamedOutput). f ≡ coin_among o c.count-below.result l) _ c.coin.result c.map_err.result c.in_ok-found.found c.map_err.ensures.cases c.in_ok-found.ensures.variant c.in_ok-found.was
    (c.coin.ensures.coin counts bs l told hold some) in
    let all = among_all o c.count-below.result l (c.count-below.ensures.count ∙ count_txs counts bs l shown hold) in
    sym (coin_number_is l.outs (output_number o l.txs) c.in-Some.coin (sym c.in-Some.is ∙ found ∙ all)).0

pub returns-clause-lists : goal.returns-clause-lists
returns-clause-lists g c counts bs l told hold some =
    let o = c.args.o.now in
    let shown = with_edits {G = g.R.Rows} c.args.t.now in
    let coin = c.in-Some.coin in
    let tb = tables_of counts bs l in
    let found = of_value (λ (f : Option NamedOutput). f ≡ coin_among o c.count-below.result l) _ c.coin.result c.map_err.result c.in_ok-found.found c.map_err.ensures.cases c.in_ok-found.ensures.variant c.in_ok-found.was
    (c.coin.ensures.coin counts bs l told hold some) in
    let all = among_all o c.count-below.result l (c.count-below.ensures.count ∙ count_txs counts bs l shown hold) in
    let is = coin_number_is l.outs (output_number o l.txs) coin (sym c.in-Some.is ∙ found ∙ all) in
    let before = subst (λ T. Hold counts bs l T) (sym c.coin.ensures.read.tables) hold in
    spent_hold counts bs l (with_edits {G = g.R.Rows} c.take_coin.new.t) o c.args.by coin.number is.0 is.2
    (c.in_ok-take_coin.ensures.taken (in_appended coin.number tb) (Spent c.args.by) told (c.in_ok-append_input.ensures.appended tb before) is.1 refl)
