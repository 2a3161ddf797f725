use Rattle.el_tx.proofs.Decoded.{never_both}
use Rattle.el_tx.proofs.laws.nothing_encoded_faults.Goals as goal

pub returns : goal.returns
returns c = λ text rest t f s r. never_both text rest t f s r
