use Rattle.el_files.proofs.Standing.{records_stand}
use Rattle.el_files.proofs.laws.records_stand.Goals as goal

pub returns : goal.returns
returns c = λ magic bytes file. records_stand magic bytes file
