use Rattle.el_gen.proofs.Totals.{bare}
use Rattle.el_gen.proofs.transactions.spend.Goals as goal

pub transaction-requires-clause-bare : goal.transaction-requires-clause-bare
transaction-requires-clause-bare c = rw c.in_ok-inputs.ensures.is (bare c.args.from.now)
