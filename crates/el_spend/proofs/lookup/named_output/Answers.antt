use Rattle.std.proofs.Common.{ap, ◌∙◌}
use Rattle.el_tx.specs.declared.types.Outpoint.{Outpoint}
use Rattle.el_schema.proofs.Answered.{if_ok}
use Rattle.el_spend.specs.Outputs.{named_among}
use Rattle.el_spend.proofs.lookup.named_output.Goals as goal

pub returns-clause-named : goal.returns-clause-named
returns-clause-named g c counts bs l told hold some =
    if_ok c.named_at.result (c.named_at.ensures.named counts bs l told hold some)
    (λ f is. is ∙ ap (λ n. let o : Outpoint = record { txid = c.args.o.now.txid; index = n } in named_among o c.args.below l) c.from.ensures)
