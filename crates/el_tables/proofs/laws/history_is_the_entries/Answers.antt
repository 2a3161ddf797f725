use Rattle.el_tables.proofs.Listing.{history_is}
use Rattle.el_tables.proofs.laws.history_is_the_entries.Goals as goal

pub returns : goal.returns
returns c = history_is
