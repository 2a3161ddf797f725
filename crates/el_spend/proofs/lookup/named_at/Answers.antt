use Rattle.std.proofs.Common.{◌≡◌, Some, take, option_and_then, ap, sym, subst, ◌∙◌}
use Rattle.el_tables.specs.Lists as lists
use Rattle.el_tables.specs.Tables.{tables_of}
use Rattle.el_schema.specs.Rows.{Hold}
use Rattle.el_schema.proofs.Answered.{if_ok}
use Rattle.el_spend.specs.Outputs.{output_numbered}
use Rattle.el_spend.proofs.lookup.named_at.Goals as goal

pub returns-in-Some-clause-named : goal.returns-in-Some-clause-named
returns-in-Some-clause-named g c counts bs l told hold some =
    let before = subst (λ T. Hold counts bs l T) (sym c.output_number.ensures.read.tables) hold in
    let number : Some c.in-Some.k ≡ lists.output_number (record { txid = c.args.txid.now; index = c.args.index }) (take c.args.below l.txs) = sym c.in-Some.is ∙ c.in_ok-k.ensures.number counts bs l told hold some in
    if_ok c.output_below.result (c.output_below.ensures.found (tables_of counts bs l) told before) (λ f is. is ∙ ap (option_and_then (output_numbered l.outs)) number)
