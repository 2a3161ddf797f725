use Rattle.el_chain.proofs.Histories.{once_listed}
use Rattle.el_chain.proofs.laws.listed_once.Goals as goal

pub returns : goal.returns
returns c = λ script_hash p funds spends. once_listed script_hash p funds
