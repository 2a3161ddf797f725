use Rattle.el_tx.proofs.Decoded.{one_encoding}
use Rattle.el_tx.proofs.laws.each_has_one_encoding.Goals as goal

pub returns : goal.returns
returns c = λ a b t s r. one_encoding a b t s r
