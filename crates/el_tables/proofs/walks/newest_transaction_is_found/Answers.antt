use Rattle.el_chain.specs.History.{positions}
use Rattle.el_tables.proofs.TxEdits.{newest_is}
use Rattle.el_tables.proofs.Found.{newest_position}
use Rattle.el_tables.proofs.walks.newest_transaction_is_found.Goals as goal

pub returns : goal.returns
returns c = record { greatest = λ id txs. newest_is 0 id txs; position = λ chain id. newest_position id (positions chain) }
