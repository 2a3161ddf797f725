use Rattle.el_audit.proofs.Reports.{one_report as same_report}
use Rattle.el_audit.proofs.laws.one_report.Goals as goal

pub returns : goal.returns
returns c = same_report
