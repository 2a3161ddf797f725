use Rattle.el_audit.proofs.Reports.{answers_right}
use Rattle.el_audit.proofs.laws.answers_of_the_chain_are_right.Goals as goal

pub returns : goal.returns
returns c = answers_right
