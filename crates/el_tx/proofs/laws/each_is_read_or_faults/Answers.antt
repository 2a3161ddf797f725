use Rattle.el_tx.proofs.Decoded.{one_or_other}
use Rattle.el_tx.proofs.laws.each_is_read_or_faults.Goals as goal

pub returns : goal.returns
returns c = λ bytes fits. one_or_other bytes fits
