use Rattle.el_schema.proofs.FirstRows.{first_stand}
use Rattle.el_schema.proofs.laws.first_rows_stand.Goals as goal

pub returns : goal.returns
returns c = first_stand
