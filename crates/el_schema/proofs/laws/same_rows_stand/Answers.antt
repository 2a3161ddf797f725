use Rattle.el_schema.proofs.StandingLemmas.{same_with}
use Rattle.el_schema.proofs.laws.same_rows_stand.Goals as goal

pub returns : goal.returns
returns c = same_with
