use Rattle.std.proofs.Common.{◌≤◌, ◌^◌, length, arith}
use Rattle.el_merkle.specs.Merkle.{levels}
use Rattle.el_merkle.proofs.Rows.{climbs, length-branch, levels_least}
use Rattle.el_audit.proofs.Reports.{get_before}
use Rattle.el_audit.proofs.laws.branches_are_proofs.Goals as goal

pub returns : goal.returns
returns c = λ list pos leaf there. record {
  within =
      let below = get_before list pos leaf there in
      let enough : length list ≤ 2 ^ levels (length list) = (levels_least (length list) (levels (length list))).0 (omega arith) in
      rw (length-branch list pos) (omega (arith, below, enough));
  leads = climbs list pos leaf there;
}
