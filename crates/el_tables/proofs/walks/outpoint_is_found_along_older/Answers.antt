use Rattle.el_tables.proofs.Found.{none_named, some_named}
use Rattle.el_tables.proofs.walks.outpoint_is_found_along_older.Goals as goal

pub returns : goal.returns
returns c = record { none = none_named; some = some_named }
