use Rattle.el_world.proofs.LastTold.{run_last_told, halt_last_told}
use Rattle.el_world.proofs.laws.acknowledged_is_told_last.Goals as goal

pub returns-clause-run : goal.returns-clause-run
returns-clause-run g c = λ first world arrivals messages closings losses nobody sure run. run_last_told nobody sure run

pub returns-clause-halts : goal.returns-clause-halts
returns-clause-halts g c = λ first stop arrivals messages closings losses nobody sure h. halt_last_told nobody sure h
