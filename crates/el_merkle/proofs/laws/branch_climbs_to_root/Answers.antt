use Rattle.el_merkle.proofs.Rows.{climbs}
use Rattle.el_merkle.proofs.laws.branch_climbs_to_root.Goals as goal

pub returns : goal.returns
returns c = climbs
