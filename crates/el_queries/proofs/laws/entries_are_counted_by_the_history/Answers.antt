use Rattle.el_queries.proofs.ChainEntries.{entries_long, outputs_along}
use Rattle.el_queries.proofs.laws.entries_are_counted_by_the_history.Goals as goal

pub returns : goal.returns
returns c = record { entries = entries_long; outputs = outputs_along }
