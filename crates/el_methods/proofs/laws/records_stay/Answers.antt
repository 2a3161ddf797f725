use Rattle.el_methods.proofs.Served.{records_stay, records_have_blocks}
use Rattle.el_methods.proofs.laws.records_stay.Goals as goal

pub returns-clause-records : goal.returns-clause-records
returns-clause-records c = records_stay

pub returns-clause-blocks : goal.returns-clause-blocks
returns-clause-blocks c = records_have_blocks
