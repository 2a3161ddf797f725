use Rattle.std.proofs.Common.{ap, ◌∙◌}
use Rattle.el_tx.specs.Hashing.{txid}
use Rattle.el_sync.proofs.Pooled.{same_tx}
use Rattle.el_sync.proofs.keeping.own_txid.Goals as goal

pub returns-in_ok-id-in-Ok-clause-is : goal.returns-in_ok-id-in-Ok-clause-is
returns-in_ok-id-in-Ok-clause-is c = λ t encoded.
    c.in_ok-id-in-Ok.ensures ∙ ap txid (same_tx c.decode_tx.result c.args.bytes.now c.in-Ok.tx t c.in-Ok.field-0-1 c.decode_tx.ensures.only c.in-Ok.is encoded)
