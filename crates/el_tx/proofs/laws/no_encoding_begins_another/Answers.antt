use Rattle.el_tx.proofs.Decoded.{one_reading}
use Rattle.el_tx.proofs.laws.no_encoding_begins_another.Goals as goal

pub returns : goal.returns
returns c = λ a b x y t u s r e. one_reading a b x y t u s r e
