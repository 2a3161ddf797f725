use Rattle.el_methods.proofs.Served.{written_moves_have, unpadded_moves_have}
use Rattle.el_methods.proofs.laws.moves_have_records.Goals as goal

pub returns-clause-written : goal.returns-clause-written
returns-clause-written g c = λ before after chain blocks p told whole has m. written_moves_have g.A.Archive before after chain blocks p told whole has m

pub returns-clause-unpadded : goal.returns-clause-unpadded
returns-clause-unpadded g c = λ before after chain blocks p told none has m. unpadded_moves_have g.A.Archive before after chain blocks p told none has m
