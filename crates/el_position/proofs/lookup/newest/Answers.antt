use Rattle.std.proofs.Common.{◌∙◌}
use Rattle.el_position.proofs.TxSteps.{newest_listed}
use Rattle.el_position.proofs.lookup.newest.Goals as goal

pub returns-clause-newest : goal.returns-clause-newest
returns-clause-newest g c counts bs l told hold some =
    c.in_ok-find.ensures.newest counts bs l told hold some ∙ newest_listed c.args.txid.now l.txs
