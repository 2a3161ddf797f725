use Rattle.std.proofs.Common.{◌∙◌, ap, sym, Ok, rules}
use Rattle.el_json.specs.declared.request.Envelope.TheVariants.{Batch}
use Rattle.el_json.proofs.Batches.{envelope_of-batch}
use Rattle.el_json.proofs.reading.batch_in.Goals as goal

pub returns-else-is_empty : goal.returns-else-is_empty
returns-else-is_empty c =
    ap (λ x. Ok (Batch x)) c.from_vec.ensures ∙ sym (envelope_of-batch c.args.list.items (search rules))
