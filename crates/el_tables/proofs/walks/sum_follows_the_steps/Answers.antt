use Rattle.el_tables.proofs.RunningSums.{spent_less, alone_more, buries_more}
use Rattle.el_tables.proofs.Sums.{balance_within}
use Rattle.el_tables.proofs.walks.sum_follows_the_steps.Goals as goal

pub returns : goal.returns
returns c = record { spent = spent_less; alone = alone_more; buries = buries_more; balances = balance_within }
