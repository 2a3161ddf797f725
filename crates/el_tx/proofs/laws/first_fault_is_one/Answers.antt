use Rattle.el_tx.proofs.Decoded.{one_fault}
use Rattle.el_tx.proofs.laws.first_fault_is_one.Goals as goal

pub returns : goal.returns
returns c = λ bytes e f s r. one_fault bytes e f s r
